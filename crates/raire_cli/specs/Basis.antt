-- The basis of an audit: the ballots of a contest, the manifest of their cards, and the assertions about them.
use Rattle.std.specs.Prelude.{◌≡◌, ℕ, List, Option, None, Some, Ok}
use Rattle.sha2.specs.Sha256.{sha256}
use Rattle.desk.specs.Desk.{File, held_bytes}
use Rattle.irv_base.specs.Names.{Id}
use Rattle.ballots.specs.Ballots.{BallotFile}
use Rattle.ballots.specs.Grammar.{ballots_of}
use Rattle.manifest.specs.Cards.{Batches}
use Rattle.manifest.specs.Linked.{first_without_card}
use Rattle.manifest.specs.Manifest.{manifest_of}
use Rattle.assertion_file.specs.Content.{Content}
use Rattle.assertion_file.specs.Reading.{assertion_file_of}
use Rattle.cover_checker.specs.Holds.{Holds}
use Rattle.session_state.specs.declared.digests.Digests.{Digests}

-- the names of the three files of the basis
pub record FileNames : Type 0 where
  pub ballots : List ℕ
  pub manifest : List ℕ
  pub assertions : List ℕ

-- their bytes
pub record FileBytes : Type 0 where
  pub ballots : List ℕ
  pub manifest : List ℕ
  pub assertions : List ℕ

-- the files with these names are held, and have these bytes
pub record AreHeld (names : FileNames) (files : List File) (bytes : FileBytes) : Type 0 where
  pub ballots : held_bytes names.ballots files ≡ Some bytes.ballots
  pub manifest : held_bytes names.manifest files ≡ Some bytes.manifest
  pub assertions : held_bytes names.assertions files ≡ Some bytes.assertions

abbrev pub digests_of : FileBytes → Digests
digests_of bytes =
    record {
      ballots = sha256 bytes.ballots;
      manifest = sha256 bytes.manifest;
      assertions = sha256 bytes.assertions;
    }

-- the ballots, the cards and the assertions
pub record Basis : Type 0 where
  pub ballots : BallotFile
  pub batches : Batches
  pub file : Content

-- the bytes say this, for this contest, or for the only one if none is named
pub record Say (contest : Option Id) (bytes : FileBytes) (basis : Basis) : Type 0 where
  pub ballots : ballots_of bytes.ballots contest ≡ Ok basis.ballots
  pub manifest : manifest_of bytes.manifest ≡ Ok basis.batches
  pub assertions : assertion_file_of bytes.assertions ≡ Ok basis.file

-- each ballot has a card, and the assertions hold for the ballots
pub record BelongTogether (basis : Basis) : Type 0 where
  pub placed : first_without_card basis.batches basis.ballots ≡ None
  pub holds : Holds basis.ballots basis.file
