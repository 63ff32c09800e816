-- The files of a round of an audit, for any kind of session.
use Rattle.std.specs.Prelude.{◌≡◌, ℕ, List, Option, Some, Ok}
use Rattle.desk.specs.Desk.{File, held_bytes}
use Rattle.irv_base.specs.Names.{Id}
use Rattle.manifest.specs.Cards.{Batches}
use Rattle.seen_file.specs.Reading.{seen_of}
use Rattle.seen_file.specs.Seen.{Entry}
use Rattle.session_state.specs.Content.{Content}
use Rattle.session_file.specs.Reading.{session_of}

-- the bytes of the session file, of the files that it is about, and of the seen file
pub record RoundBytes (Bytes : Type 0) : Type 0 where
  pub session : List ℕ
  pub basis : Bytes
  pub seen : List ℕ

-- the session so far, the files that it is about, and what is seen of some cards
pub record RoundInputs (Basis : Type 0) : Type 0 where
  pub session : Content
  pub basis : Basis
  pub entries : List Entry

-- the session file and the seen file have these names; all files are held, and have these bytes
pub record AreRoundFiles {Bytes : Type 0} (session_name seen_name : List ℕ)
    (AreHeld : List File → Bytes → Type 0) (files : List File) (bytes : RoundBytes Bytes)
    : Type 0 where
  pub session : held_bytes session_name files ≡ Some bytes.session
  pub basis : AreHeld files bytes.basis
  pub seen : held_bytes seen_name files ≡ Some bytes.seen

-- the bytes say this about the session's contest, with these cards and the ids of these candidates
pub record SayRound {Bytes Basis : Type 0} (Say : Option Id → Bytes → Basis → Type 0)
    (batches : Batches) (candidates : List Id) (bytes : RoundBytes Bytes)
    (inputs : RoundInputs Basis) : Type 0 where
  pub session : session_of bytes.session ≡ Some inputs.session
  pub basis : Say (Some inputs.session.contest) bytes.basis inputs.basis
  pub seen : seen_of batches candidates bytes.seen ≡ Ok inputs.entries
