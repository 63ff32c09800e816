-- The files that say what is recorded for each card: a ballot file and a manifest.
use Rattle.std.specs.Prelude.{◌≡◌, ℕ, List, Some}
use Rattle.desk.specs.Desk.{File, held_bytes}

-- their bytes
pub record CardBytes : Type 0 where
  pub ballots : List ℕ
  pub manifest : List ℕ

-- the files with these names are held, and have these bytes
pub record AreCardFiles (ballots manifest : List ℕ) (files : List File)
    (bytes : CardBytes) : Type 0 where
  pub held_ballots : held_bytes ballots files ≡ Some bytes.ballots
  pub held_manifest : held_bytes manifest files ≡ Some bytes.manifest
