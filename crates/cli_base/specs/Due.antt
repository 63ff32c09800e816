-- The outcomes of the code's answers and refusals.
use Rattle.std.specs.Prelude.{◌≡◌, ◌⊎◌, ℕ, List, Option, Result, Ok, Err, Vec, string_bytes, []}
use Rattle.std.specs.declared.alloc.Global.{Global}
use Rattle.desk.specs.Taker.{TookMore}
use Rattle.cli_base.specs.Outcome.{Outcome, Verdict, Answered, outcome, refusal_status, bad_words, out_of_memory}
use Rattle.cli_base.specs.Script.{Readings, Bytes, MayStop}
use Rattle.cli_base.specs.declared.outcome.Answer.{Answer}
use Rattle.cli_base.specs.declared.outcome.Refusal.{Refusal}
use Rattle.cli_base.specs.declared.outcome.Refusal.TheVariants.{Words, Memory, Line}

abbrev pub due_refusal : Refusal → Outcome
due_refusal Words = bad_words
due_refusal Memory = out_of_memory
due_refusal (Line kind text) =
    record { status = refusal_status kind; out = []; err = string_bytes text }

abbrev pub due : Result Answer Refusal → Outcome
due (Ok answer) = outcome (Answered answer.kind answer.text.items)
due (Err refusal) = due_refusal refusal

-- the call must stop, because of a file or because memory ran out
abbrev pub StopsAt : Readings → List ℕ → Refusal → Type 0
StopsAt readings name refusal =
    MayStop readings name (due_refusal refusal) ⊎ (due_refusal refusal ≡ out_of_memory)

-- a file was read whole, or the call must stop
abbrev pub IsRead : Readings → List ℕ → Result (Vec ℕ Global) Refusal → Type 0
IsRead readings name (Ok bytes) = readings name (Bytes bytes.items)
IsRead readings name (Err refusal) = StopsAt readings name refusal

-- a file was read whole, and a taker has taken its bytes after those that it already had
abbrev pub IsTaken : {T : Type 0} → (T → Option (List ℕ)) → (T → List ℕ → Type 0) → T → T → Readings →
    List ℕ → Type 0
IsTaken sought has_taken old new readings name =
    (bytes : List ℕ) × readings name (Bytes bytes) × TookMore sought has_taken old new bytes

-- the status so far; a reading that succeeds doesn't end the call yet
abbrev pub status_so_far : {T : Type 0} → Result T Refusal → ℕ
status_so_far (Ok read) = 0
status_so_far (Err refusal) = (due_refusal refusal).status

-- this outcome, or memory ran out
abbrev pub IsOrMemory : Outcome → Outcome → Type 0
IsOrMemory defined outcome = (outcome ≡ defined) ⊎ (outcome ≡ out_of_memory)

-- one of these verdicts, or memory ran out
abbrev pub IsOneOrMemory : (Verdict → Type 0) → Outcome → Type 0
IsOneOrMemory verdicts due =
    ((verdict : Verdict) × verdicts verdict × (due ≡ outcome verdict)) ⊎ (due ≡ out_of_memory)

-- what a file says, or its refusal, which is then the answer; memory may run out
abbrev pub IsReadAs : {A Why : Type 0} → (Why → Verdict) → Result A Why → Result A Refusal → Type 0
IsReadAs told read (Ok value) = read ≡ Ok value
IsReadAs {A} {Why} told read (Err refusal) =
    ((why : Why) × (read ≡ Err why) × (due_refusal refusal ≡ outcome (told why)))
    ⊎ (due_refusal refusal ≡ out_of_memory)
