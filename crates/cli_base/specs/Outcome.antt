-- The outcome of a call: the status that the program ends with, and the texts that it writes.
use Rattle.std.specs.Prelude.{◌≡◌, ℕ, List, [], ◌∷◌, ◌++◌, codes}
use Rattle.std.specs.Fmt.{decimal}
use Rattle.cli_base.specs.declared.outcome.AnswerKind.{AnswerKind}
use Rattle.cli_base.specs.declared.outcome.AnswerKind.TheVariants.{Done, Tie, Spent, FullCount, Differs, Unconfirmed}
use Rattle.cli_base.specs.declared.outcome.RefusalKind.{RefusalKind}
use Rattle.cli_base.specs.declared.outcome.RefusalKind.TheVariants.{Input, ReadFault, TooLong, Missing}

pub record Outcome : Type 0 where
  pub status : ℕ
  pub out : List ℕ
  pub err : List ℕ

-- the status of an answer, which goes to `out`
abbrev pub status_of : AnswerKind → ℕ
status_of Done = 0
status_of Tie = 3
status_of Spent = 4
status_of FullCount = 5
status_of Differs = 6
status_of Unconfirmed = 10

-- the status of a refusal that names a file, which goes to `err`
abbrev pub refusal_status : RefusalKind → ℕ
refusal_status Input = 2
refusal_status ReadFault = 7
refusal_status TooLong = 11
refusal_status Missing = 12

-- ---- what a command ends with once it has read its files

-- an answer of some kind, or what is wrong with a file
pub data Verdict : Type 0 where
  Answered : AnswerKind → List ℕ → Verdict
  Refused : List ℕ → List ℕ → Verdict

-- an answer of this kind, with one of these texts
abbrev pub One : (List ℕ → Type 0) → AnswerKind → Verdict → Type 0
One texts kind verdict = (text : List ℕ) × texts text × (verdict ≡ Answered kind text)

-- what is wrong with a file: a rule, and the place that breaks it
abbrev pub broken_at : List ℕ → ℕ → List ℕ
broken_at rule at = rule ++ codes " at " ++ decimal at

-- ---- texts

abbrev pub line : List ℕ → List ℕ
line text = text ++ 0x0A ∷ []

-- what a refusal says, as a line for `err`
abbrev pub refusal : ℕ → List ℕ → Outcome
refusal status text = record { status = status; out = []; err = line (codes "raire: " ++ text) }

-- what a refusal that names a file says
abbrev pub file_refusal : RefusalKind → List ℕ → List ℕ → Outcome
file_refusal kind name text = refusal (refusal_status kind) (name ++ codes ": " ++ text)

abbrev pub outcome : Verdict → Outcome
outcome (Answered kind text) = record { status = status_of kind; out = text; err = [] }
outcome (Refused name text) = file_refusal Input name text

abbrev pub bad_words : Outcome
bad_words = refusal 1 (codes "bad words")

abbrev pub out_of_memory : Outcome
out_of_memory = refusal 9 (codes "out of memory")

abbrev pub read_fault : List ℕ → Outcome
read_fault name = file_refusal ReadFault name (codes "read fault")

abbrev pub too_long : List ℕ → Outcome
too_long name = file_refusal TooLong name (codes "too long")

abbrev pub no_such_file : List ℕ → Outcome
no_such_file name = file_refusal Missing name (codes "no such file")
