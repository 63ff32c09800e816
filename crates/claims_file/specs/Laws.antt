-- The laws of the claims file.
use Rattle.std.specs.Prelude.{◌≡◌, ℕ, List, length, map, Ok}
use Rattle.irv_base.specs.Names.{Id}
use Rattle.assertion_file.specs.Content.{Content}
use Rattle.assertion_file.specs.Reading.{assertion_file_of}
use Rattle.claims_file.specs.Claimed.{Claimed, AreSound}
use Rattle.claims_file.specs.Reading.{claims_of}

-- what is read names only candidates
abbrev pub ReadIsSound : Type 0
ReadIsSound =
    (contest : Id) (ids : List Id) (bytes : List ℕ) (claims : Claimed) →
    claims_of contest ids bytes ≡ Ok claims → AreSound (length ids) claims

-- an assertion file is a claims file for its own contest and claims its assertions, whatever it says about their margins
abbrev pub AssertionFileIsRead : Type 0
AssertionFileIsRead =
    (bytes : List ℕ) (file : Content) → assertion_file_of bytes ≡ Ok file →
    claims_of file.contest file.candidates bytes
    ≡ Ok (record { winner = file.winner; assertions = map (λ claim. claim.assertion) file.claims })
