-- The data kept for linked cards, and what is recorded for one card.
use Rattle.std.proofs.Common.{◌≡◌, ◌∙◌, ◌<◌, ◌≤◌, ℕ, List, Some, length, map, take, get_or, replicate, refl, sym, ap, subst, arith}
use Rattle.std.specs.Prelude.{All, option_map}
use Rattle.std.specs.List.{slice_get}
use Rattle.std.proofs.lemmas.List.{length-map}
use Rattle.std.proofs.lemmas.Option.{slice_get-get_or, slice_get-map}
use Rattle.irv_base.specs.Names.{Id}
use Rattle.ballots.specs.Ballots.{BallotFile}
use Rattle.manifest.specs.BallotNumbers.{AreNumbers, ballot_number, ballot_numbers, recorded_at}
use Rattle.manifest.specs.Cards.{Batches, cards_of}
use Rattle.irv_base.specs.declared.limits.TheConstants.{MOST_CARDS}
use Rattle.manifest.proofs.Linking.{IsLinking, all_within, none_yet}

pub begins : (batches : Batches) (ids : List Id) (n : ℕ) (numbers : List ℕ) → n ≡ length (cards_of batches) → numbers ≡ replicate n 0 →
    IsLinking batches ids 0 numbers
begins batches ids n numbers e h = record {
  numbered = h ∙ ap (λ k. replicate k 0) e ∙ none_yet (cards_of batches);
  all_placed = refl;
}

pub length-numbers : (batches : Batches) (ids : List Id) (i : ℕ) (numbers : List ℕ) → IsLinking batches ids i numbers →
    length numbers ≡ length (cards_of batches)
length-numbers batches ids i numbers h = ap length h.numbered ∙ length-map (cards_of batches) (ballot_number (take i ids))

pub kept : (batches : Batches) (file : BallotFile) (numbers : List ℕ) → length file.ids ≡ length file.rankings → length (cards_of batches) ≤ MOST_CARDS →
    numbers ≡ ballot_numbers file.ids (cards_of batches) → AreNumbers file.rankings numbers
kept batches file numbers one few e = record {
  few = omega (arith, ap length e, length-map (cards_of batches) (ballot_number file.ids), few);
  within = subst (All (λ number. number ≤ length file.rankings)) (sym e) (all_within (length file.rankings) file.ids (cards_of batches) one);
}

-- the record of the card with number i + 1
pub record_at : (rankings : List (List ℕ)) (numbers : List ℕ) (i number : ℕ) → i < length numbers → get_or numbers i 0 ≡ number →
    slice_get (map (recorded_at rankings) numbers) i ≡ Some (recorded_at rankings number)
record_at rankings numbers i number below e =
    slice_get-map (recorded_at rankings) numbers i ∙ ap (option_map (recorded_at rankings)) (slice_get-get_or numbers i 0 below)
    ∙ ap (λ n. Some (recorded_at rankings n)) e
