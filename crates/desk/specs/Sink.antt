-- What a sink took over a call. Each definition takes the sink's ghost members, as `S.Sink`, and the sink before and after.
use Rattle.std.specs.Prelude.{ℕ, ◌≤◌, List, length, take}
use Rattle.std.specs.Io.KnownBytes.{Appends}
use Rattle.desk.specs.declared.sink.Sink.{Ghosts}

-- the sink took the text, if it reports that
abbrev pub Took : {S : Type 0} → Ghosts S → S → S → List ℕ → Type 0
Took sink old new text = Appends (sink.taken old) (sink.taken new) text

-- the sink took a prefix of the text
abbrev pub TookPrefix : {S : Type 0} → Ghosts S → S → S → List ℕ → Type 0
TookPrefix sink old new text = (n : ℕ) × (n ≤ length text) × Took sink old new (take n text)
