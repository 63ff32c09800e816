-- The files and cards of the worked examples.
use Rattle.std.specs.Prelude.{ℕ, List, [], ◌∷◌, codes}
use Rattle.assertions.specs.declared.assertion.Assertion.{Assertion}
use Rattle.assertions.specs.declared.assertion.Assertion.TheVariants.{Nen}
use Rattle.ballots.specs.Ballots.{BallotFile}
use Rattle.assertion_file.specs.Content.{Content as FileContent}
use Rattle.assertion_file.specs.Examples as files
use Rattle.manifest.specs.Cards.{Batches}
use Rattle.manifest.specs.declared.recorded.Recorded.{Recorded}
use Rattle.manifest.specs.declared.recorded.Recorded.TheVariants.{Ranked}
use Rattle.assorters.specs.declared.seen.Seen.{Seen}
use Rattle.assorters.specs.declared.seen.Seen.TheVariants.{Found}

-- ---- two cards are recorded for candidate 0, and in truth there is a tie

abbrev pub two_batches : Batches
two_batches = record { ids = codes "b" ∷ []; counts = 2 ∷ [] }

abbrev pub two_ballots : BallotFile
two_ballots = record {
  contest = codes "1";
  candidates = codes "1" ∷ codes "2" ∷ [];
  ids = codes "b_1" ∷ codes "b_2" ∷ [];
  places = 3 ∷ 4 ∷ [];
  rankings = (0 ∷ []) ∷ (0 ∷ []) ∷ [];
}

abbrev pub two_file : FileContent
two_file = files.led_by 2 2

abbrev pub two_records : List Recorded
two_records = Ranked (0 ∷ []) ∷ Ranked (0 ∷ []) ∷ []

-- the second card is for the other candidate
abbrev pub two_actual : List (List ℕ)
two_actual = (0 ∷ []) ∷ (1 ∷ []) ∷ []

abbrev pub two_seen : List Seen
two_seen = Found (0 ∷ []) ∷ Found (1 ∷ []) ∷ []

-- NEN(0,1) with both candidates left, which also proves the winner
abbrev pub other_proof : List Assertion
other_proof = Nen 0 1 3 ∷ []
