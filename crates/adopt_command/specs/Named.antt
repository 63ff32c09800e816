-- What the code of an adoption is given.
use Rattle.std.specs.Prelude.{◌<◌, ℕ, IsTrue, ⊤}
use Rattle.irv_base.specs.Orders.{is_order}
use Rattle.assertions.specs.Assertions.{is_proper}
use Rattle.adoption.specs.declared.adoption.Adoption.{Adoption}
use Rattle.adoption.specs.declared.adoption.Adoption.TheVariants.{OtherWinner, Untrue, Stands, Adopted}

-- the answer names a candidate, an assertion or an order of n candidates
abbrev pub IsAmong : ℕ → Adoption → Type 0
IsAmong n (OtherWinner winner) = winner < n
IsAmong n (Untrue assertion) = IsTrue (is_proper n assertion)
IsAmong n (Stands order) = IsTrue (is_order n order)
IsAmong n (Adopted file) = ⊤
