-- What a record says, by its parts.
use Rattle.std.proofs.Common.{◌≡◌, ◌∙◌, ℕ, ◌∷◌, drop, List, Some, None, Ok, Err, Result, sym, ap}
use Rattle.std.specs.List.{slice_get}
use Rattle.csv_rows.specs.Rows.{Fields}
use Rattle.irv_base.specs.Names.{Id}
use Rattle.ballots.specs.Ballots.{BallotFile}
use Rattle.manifest.specs.Cards.{Batches}
use Rattle.seen_file.specs.Reading.{card_of, entry_of_card, with_card}
use Rattle.seen_file.specs.Seen.{Entry}
use Rattle.seen_file.specs.declared.fault.VRule.{VRule}
use Rattle.seen_file.specs.declared.fault.VRule.TheVariants.{V6}
use Rattle.contest_set.specs.SeenBy.{ContestEntry, contest_entry_of, ballots_for, entries_for, entry_for, for_contest, seen_for_each}
use Rattle.contest_set.proofs.Entries.{seen-at}

-- a record of a card that is in the manifest
pub record IsPlaced (batches : Batches) (row : Fields) (id contest word : Id) (rest : Fields) (card : ℕ) : Type 0 where
  pub row_is : row ≡ id ∷ contest ∷ word ∷ rest
  pub card_is : card_of batches id word (drop 3 row) ≡ Ok card

behind-card : (batches : Batches) (list : List BallotFile) (entries : List ContestEntry) (row : Fields) (id contest word : Id) (rest : Fields) (card : ℕ) →
    IsPlaced batches row id contest word rest card →
    contest_entry_of batches list entries row ≡ entry_for entries word rest card (ballots_for list contest)
behind-card batches list entries row id contest word rest card is =
    ap (contest_entry_of batches list entries) is.row_is
    ∙ ap (λ r. with_card r (λ card. entry_for entries word rest card (ballots_for list contest)))
    (ap (card_of batches id word) (sym (ap (drop 3) is.row_is)) ∙ is.card_is)

pub not-named : (batches : Batches) (list : List BallotFile) (entries : List ContestEntry) (row : Fields) (id contest word : Id) (rest : Fields) (card : ℕ) →
    IsPlaced batches row id contest word rest card → ballots_for list contest ≡ None → contest_entry_of batches list entries row ≡ Err V6
not-named batches list entries row id contest word rest card is none =
    behind-card batches list entries row id contest word rest card is ∙ ap (entry_for entries word rest card) none

-- a record of a contest at a place, for which this was seen so far
pub is-told : (batches : Batches) (list : List BallotFile) (entries : List ContestEntry) (row : Fields) (id contest word : Id) (rest : Fields) (card : ℕ) →
    IsPlaced batches row id contest word rest card → (place : ℕ) (ballots : BallotFile) (stood : List Entry) → ballots_for list contest ≡ slice_get list place →
    slice_get list place ≡ Some ballots → slice_get (seen_for_each list entries) place ≡ Some stood → (names : List Id) → names ≡ ballots.candidates →
    (told : Result Entry VRule) → told ≡ entry_of_card names stood word rest card →
    contest_entry_of batches list entries row ≡ for_contest ballots.contest told
is-told batches list entries row id contest word rest card is place ballots stood named there seen names same told e =
    let both : Some (entries_for ballots.contest entries) ≡ Some stood = sym (seen-at list place ballots entries there) ∙ seen in
    let so_far : entries_for ballots.contest entries ≡ stood = cc in
    behind-card batches list entries row id contest word rest card is ∙ ap (entry_for entries word rest card) (named ∙ there)
    ∙ ap (λ seen. for_contest ballots.contest (entry_of_card ballots.candidates seen word rest card)) so_far
    ∙ ap (λ ids. for_contest ballots.contest (entry_of_card ids stood word rest card)) (sym same) ∙ ap (for_contest ballots.contest) (sym e)

-- from the steps of a reader
pub placed-by : (batches : Batches) (row fields first second rest behind : Fields) (id contest word : Id) (card : ℕ) (judged : Result ℕ VRule) → fields ≡ row →
    fields ≡ id ∷ first → first ≡ contest ∷ second → second ≡ word ∷ rest → behind ≡ drop 3 row → judged ≡ card_of batches id word behind → judged ≡ Ok card →
    IsPlaced batches row id contest word rest card
placed-by batches row fields first second rest behind id contest word card judged of one two three left is ok = record {
  row_is = sym of ∙ one ∙ ap (λ more. id ∷ more) two ∙ ap (λ more. id ∷ contest ∷ more) three;
  card_is = ap (card_of batches id word) (sym left) ∙ sym is ∙ ok;
}
