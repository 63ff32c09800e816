-- The files that a call begins, in order.
use Rattle.std.proofs.Common.{◌≡◌, ◌⊎◌, inl, inr, ℕ, zero, suc, List, Option, Some, Err, refl, ap, ◌∙◌, arith}
use Rattle.desk.specs.Count.{one_more}
use Rattle.desk.specs.Desk.{File}
use Rattle.desk.specs.declared.served.Served.{Served}
use Rattle.cli_base.specs.Begun.{HasBegun, IsDueAfter, HasCome}
use Rattle.cli_base.specs.Due.{due_refusal, IsRead, IsOneOrMemory}
use Rattle.cli_base.specs.Outcome.{Outcome, Verdict, outcome, out_of_memory}
use Rattle.cli_base.specs.Script.{Reading, Bytes, Readings, Script, Read, Ends, Asked, Nothing, Runs, AsTold, ByDesk, May, MayAfter, ReachesAs, Concludes, IsDue, stop_of}
use Rattle.cli_base.specs.declared.outcome.Refusal.{Refusal}
use Rattle.cli_base.proofs.Scripts.{no_fault}

-- ---- the count

begun_more : (files : ℕ) (x y z : Served) → y.begins ≡ one_more x.begins → HasBegun files y z → HasBegun (suc files) x z
begun_more zero x y z one none = none ∙ one
begun_more (suc files) x y z one more = omega (arith, one, more)

-- ---- how a script ends with other readings

pub may_wider : (readings others : Readings) → ((name : List ℕ) (reading : Reading) → readings name reading → others name reading) → (script : Script)
    (files : ℕ) (due : Outcome) → MayAfter readings script files due → MayAfter others script files due
may_wider readings others wider (Ends verdicts) files due may = may
may_wider readings others wider (Read name next) files due (inl (one, (reading, there, stop))) = inl (one, (reading, wider name reading there, stop))
may_wider readings others wider (Read name next) files due (inr (more, is, bytes, there, rest)) =
    inr (more, is, bytes, wider name (Bytes bytes) there, may_wider readings others wider (next bytes) more due rest)

pub reaches_wider : (readings others : Readings) → ((name : List ℕ) (reading : Reading) → readings name reading → others name reading) → (script : Script)
    (n : ℕ) (name : List ℕ) → ReachesAs readings script n name → ReachesAs others script n name
reaches_wider readings others wider (Ends verdicts) n name reaches = reaches
reaches_wider readings others wider (Read first next) n name (inl is) = inl is
reaches_wider readings others wider (Read first next) n name (inr (more, is, bytes, there, rest)) =
    inr (more, is, bytes, wider first (Bytes bytes) there, reaches_wider readings others wider (next bytes) more name rest)

-- the files before one that is read are reported
pub told_reaches_as : (held : Option (List File)) (failed : Type 0) (script : Script) (n : ℕ) (name : List ℕ) → ReachesAs (ByDesk held failed) script n name →
    ReachesAs (AsTold held) script n name
told_reaches_as held failed (Ends verdicts) n name reaches = reaches
told_reaches_as held failed (Read first next) n name (inl is) = inl is
told_reaches_as held failed (Read first next) n name (inr (more, is, bytes, there, rest)) =
    inr (more, is, bytes, no_fault held failed first bytes there, told_reaches_as held failed (next bytes) more name rest)

-- ---- how it ends, whatever the number of files

may_come : (readings : Readings) (script : Script) (files : ℕ) (due : Outcome) → MayAfter readings script files due → May readings script due
may_come readings (Ends verdicts) files due (none, may) = may
may_come readings (Read name next) files due (inl (one, stop)) = inl stop
may_come readings (Read name next) files due (inr (more, is, bytes, there, rest)) = inr (bytes, there, may_come readings (next bytes) more due rest)

due_by : (readings : Readings) (asked : Asked) (files : ℕ) (due : Outcome) → IsDueAfter readings asked files due → IsDue readings asked due
due_by readings asked files due (inr (memory, begun)) = inr memory
due_by readings Nothing files due (inl (none, bad)) = inl bad
due_by readings (Runs script) files due (inl may) = inl (may_come readings script files due may)

pub due_of : {readings : Readings} {before after : Served} {asked : Asked} {due : Outcome} → HasCome readings before after asked due → IsDue readings asked due
due_of {readings} {before} {after} {asked} {due} come = due_by readings asked come.files due come.is_due

-- It concludes with a verdict, or the file that was begun last stops it.
pub ended_after : (readings : Readings) (script : Script) (files : ℕ) (due : Outcome) → MayAfter readings script files due
    → ((v : Verdict) × Concludes readings script v × (due ≡ outcome v))
    ⊎ ((name : List ℕ) × (reading : Reading) × ReachesAs readings script files name × readings name reading × (stop_of name reading ≡ Some due))
ended_after readings (Ends verdicts) files due (none, (v, may, is)) = inl (v, may, is)
ended_after readings (Read name next) files due (inl (one, (reading, there, stop))) = inr (name, reading, inl (one, refl), there, stop)
ended_after readings (Read name next) files due (inr (more, is, bytes, there, rest)) = elim (ended_after readings (next bytes) more due rest) [
  | inl (v, concludes, ends) ↦ inl (v, (bytes, there, concludes), ends)
  | inr (file, reading, reaches, last, stop) ↦ inr (file, reading, inr (more, is, bytes, there, reaches), last, stop)
]

-- ---- steps

-- after a file was read, what comes of the rest
pub begun_on : {x y z : Served} (rest others : Readings) (name bytes : List ℕ) (next : List ℕ → Script) (due : Outcome)
    → ((file : List ℕ) (reading : Reading) → rest file reading → others file reading)
    → y.begins ≡ one_more x.begins → others name (Bytes bytes) → HasCome rest y z (Runs (next bytes)) due → HasCome others x z (Runs (Read name next)) due
begun_on {x} {y} {z} rest others name bytes next due wider one there come = record {
  files = suc come.files;
  begun = begun_more come.files x y z one come.begun;
  is_due = by come.is_due;
}
  where
    by : IsDueAfter rest (Runs (next bytes)) come.files due → IsDueAfter others (Runs (Read name next)) (suc come.files) due
    by (inl may) = inl (inr (come.files, refl, bytes, there, may_wider rest others wider (next bytes) come.files due may))
    by (inr (memory, inl none)) = inr (memory, inr (name, inl (ap suc none, refl)))
    by (inr (memory, inr (file, reaches))) =
        inr (memory, inr (file, inr (come.files, refl, bytes, there, reaches_wider rest others wider (next bytes) come.files file reaches)))

-- a file that couldn't be read stops it
pub stopped_at : {x y : Served} (readings : Readings) (name : List ℕ) (next : List ℕ → Script) (refusal : Refusal) → y.begins ≡ one_more x.begins →
    IsRead readings name (Err refusal) → HasCome readings x y (Runs (Read name next)) (due_refusal refusal)
stopped_at readings name next refusal one (inl stop) = record { files = 1; begun = one; is_due = inl (inl (refl, stop)) }
stopped_at readings name next refusal one (inr memory) = record { files = 1; begun = one; is_due = inr (memory, inr (name, inl (refl, refl))) }

-- memory runs out before a file is begun
pub memory_here : (readings : Readings) (served : Served) (asked : Asked) (due : Outcome) → due ≡ out_of_memory → HasCome readings served served asked due
memory_here readings served asked due memory = record { files = 0; begun = refl; is_due = inr (memory, inl refl) }

-- ---- a script that reads nothing more

-- it ends with one of its verdicts, or because memory ran out
abbrev pub EndsNow : Script → Outcome → Type 0
EndsNow (Ends verdicts) due = IsOneOrMemory verdicts due
EndsNow (Read name next) due = due ≡ out_of_memory

pub memory_now : (script : Script) (due : Outcome) → due ≡ out_of_memory → EndsNow script due
memory_now (Ends verdicts) due memory = inr memory
memory_now (Read name next) due memory = memory

pub come_now : (readings : Readings) (served : Served) (script : Script) (due : Outcome) → EndsNow script due → HasCome readings served served (Runs script) due
come_now readings served (Ends verdicts) due (inl one) = record { files = 0; begun = refl; is_due = inl (refl, one) }
come_now readings served (Ends verdicts) due (inr memory) = memory_here readings served (Runs (Ends verdicts)) due memory
come_now readings served (Read name next) due memory = memory_here readings served (Runs (Read name next)) due memory
