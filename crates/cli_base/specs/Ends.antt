-- What the sinks of a call took of an outcome.
use Rattle.std.specs.Prelude.{◌≡◌, ◌<◌, ◌≤◌, ◌⊎◌, ℕ, List, Option, length, take}
use Rattle.std.specs.Io.KnownBytes.{Appends}
use Rattle.desk.specs.Count.{Rose}
use Rattle.desk.specs.declared.sink.Sink.{Ghosts}
use Rattle.cli_base.specs.Outcome.{Outcome}

-- what can be seen of a sink over a call: what it had taken before and after, and its count of faults
pub record Writing : Type 0 where
  pub before : Option (List ℕ)
  pub after : Option (List ℕ)
  pub faults_before : ℕ
  pub faults_after : ℕ

abbrev pub writing : {S : Type 0} → Ghosts S → S → S → Writing
writing sink old new =
    record {
      before = sink.taken old;
      after = sink.taken new;
      faults_before = sink.faults old;
      faults_after = sink.faults new;
    }

-- the sink took a text
abbrev pub Took : Writing → List ℕ → Type 0
Took sink text = Appends sink.before sink.after text

-- the sink took a prefix of a text
abbrev pub TookPrefix : Writing → List ℕ → Type 0
TookPrefix sink text = (n : ℕ) × (n ≤ length text) × Took sink (take n text)

abbrev pub Failed : Writing → Type 0
Failed sink = Rose sink.faults_before sink.faults_after

-- its count of faults is unchanged
abbrev pub IsUnfailed : Writing → Type 0
IsUnfailed sink = sink.faults_after ≡ sink.faults_before

-- its count of faults is greater than it was
abbrev pub HasNewFaults : Writing → Type 0
HasNewFaults sink = sink.faults_before < sink.faults_after

-- the sink took the text and no write failed, or a write failed and it took a prefix
abbrev pub IsSaid : List ℕ → ℕ → ℕ → Writing → Type 0
IsSaid text status answer sink =
    ((answer ≡ status) × Took sink text × IsUnfailed sink)
    ⊎ ((answer ≡ 8) × Failed sink × TookPrefix sink text)

-- each sink took its text, no write failed, and the status is the outcome's
pub record IsWhole (due : Outcome) (status : ℕ) (out err : Writing) : Type 0 where
  pub ends : status ≡ due.status
  pub to_out : Took out due.out
  pub to_err : Took err due.err
  pub unfailed_out : IsUnfailed out
  pub unfailed_err : IsUnfailed err

-- a write failed, and each sink took a prefix of its text
pub record IsCut (due : Outcome) (status : ℕ) (out err : Writing) : Type 0 where
  pub ends : status ≡ 8
  pub cause : Failed out ⊎ Failed err
  pub to_out : TookPrefix out due.out
  pub to_err : TookPrefix err due.err

abbrev pub IsWritten : Outcome → ℕ → Writing → Writing → Type 0
IsWritten due status out err = IsWhole due status out err ⊎ IsCut due status out err
