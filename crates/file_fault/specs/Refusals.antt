-- Why a file is refused: the rule that it breaks, and the place where it breaks it.
use Rattle.std.specs.Prelude.{◌≡◌, ℕ, Result, Ok, Err}
use Rattle.file_fault.specs.declared.fault.Fault.{Fault}
use Rattle.file_fault.specs.declared.fault.Fault.TheVariants.{Refused, Memory}

-- a rule and the place that breaks it: the number of a record or an assertion, from 1, or 0 for an assertion file's own members
pub record Refusal (R : Type 0) : Type 0 where
  pub rule : R
  pub at : ℕ

abbrev pub refused : {A R : Type 0} → R → ℕ → Result A (Refusal R)
refused rule at = Err (record { rule = rule; at = at })

-- what follows from what is judged at a place, or the refusal of that place
abbrev pub and_then :
    {A B R : Type 0} → ℕ → Result A R → (A → Result B (Refusal R)) → Result B (Refusal R)
and_then at (Ok value) more = more value
and_then at (Err rule) more = refused rule at

-- a file is refused by this rule at this place; memory may run out at any time
abbrev pub Refuses : {A R : Type 0} → Result A (Refusal R) → Fault R → Type 0
Refuses said (Refused rule at) = said ≡ refused rule at
Refuses said Memory = Unit {0}
