-- The cards of ballots.
use Rattle.std.specs.Prelude.{ℕ, List, Option, option_map, Result, Ok}
use Rattle.ballots.specs.Ballots.{BallotFile}
use Rattle.manifest.specs.Cards.{Batches}
use Rattle.manifest.specs.Manifest.{manifest_of}
use Rattle.manifest.specs.Linked.{first_without_card}
use Rattle.cli_base.specs.Outcome.{Verdict}
use Rattle.input_files.specs.Judged.{told, then_judged, unless}
use Rattle.input_files.specs.Refusals.{no_card, refused_manifest}

-- the verdict that a ballot of the file with this name has no card, if there is a ballot like this
abbrev pub without_card : List ℕ → BallotFile → Batches → Option Verdict
without_card name ballots batches = option_map (no_card name) (first_without_card batches ballots)

-- the batches in the bytes of a manifest, if each of these ballots has a card
abbrev pub cards_for : List ℕ → BallotFile → List ℕ → List ℕ → Result Batches Verdict
cards_for name ballots manifest bytes =
    then_judged (told (refused_manifest manifest) (manifest_of bytes))
    (λ batches. unless (without_card name ballots batches) (Ok batches))
