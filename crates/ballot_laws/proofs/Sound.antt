-- A ballot file that is read is sound, and all its ids keep the rule of ids.
use Rattle.std.proofs.Common.{◌≡◌, ◌∙◌, ◌∷◌, [], ◌+◌, ◌≤◌, ◌<◌, ℕ, suc, Bool, true, List, Option, Some, None, length, map, drop, get_or, refl, sym, ap, arith, inl, inr}
use Rattle.std.specs.Prelude.{All, IsTrue, filter, is_some}
use Rattle.std.specs.List.{list_all, range_with_len}
use Rattle.std.proofs.lemmas.Bool.{and_from, cases_Bool}
use Rattle.std.proofs.lemmas.List.Elements.{All-cons, All-nil}
use Rattle.std.proofs.lemmas.List.FromFn.{length-range_with_len}
use Rattle.csv_rows.specs.Rows.{Fields}
use Rattle.irv_base.specs.Candidates.{is_distinct}
use Rattle.irv_base.specs.Names.{Id, all_differ, is_name}
use Rattle.ballots.specs.Ballots.{AreBallots, BallotFile, IsSound}
use Rattle.ballots.specs.Grammar.{Ballot, ranking_of}
use Rattle.ballots.proofs.Firsts.{IsRanking, is_ranking}
use Rattle.ballot_laws.specs.Rows.{ballot_id, ballots, ballots_for, candidates_in, contest_id, contests, count, places_of, record_at}
use Rattle.ballot_laws.specs.Sound.{IsNamed, ReadIsSound}
use Rattle.ballot_laws.specs.Spelling.{Spells}
use Rattle.ballot_laws.proofs.Ballots.{ballot_said, ids-numbered, ranking_or_none, some-ranking}
use Rattle.ballot_laws.proofs.Outcome.{own-record}
use Rattle.ballot_laws.proofs.Places.{ballot-record, ballots-numbered, map-twice, some-asked, votes_in}
use Rattle.ballot_laws.proofs.Ranked.{one-ranking}
use Rattle.ballot_laws.proofs.Spelled.{candidates-differ, ids, records_spell_file}

all-from : {X : Type 0} (P : X → Type 0) (xs : List X) (d : X) → ((i : ℕ) → i < length xs → P (get_or xs i d)) → All P xs
all-from P [] d h = All-nil P
all-from P (x ∷ xs) d h = All-cons P x xs (h 0 (omega arith)) (all-from P xs d (λ i less. h (suc i) (omega (arith, less))))

list_all-from : {X : Type 0} (p : X → Bool) (xs : List X) (d : X) → ((i : ℕ) → i < length xs → p (get_or xs i d) ≡ true) → list_all p xs ≡ true
list_all-from p [] d h = refl
list_all-from p (x ∷ xs) d h = and_from (p x) (list_all p xs) (h 0 (omega arith)) (list_all-from p xs d (λ i less. h (suc i) (omega (arith, less))))

filter-few : {X : Type 0} (p : X → Bool) (xs : List X) → length (filter p xs) ≤ length xs
filter-few p [] = omega arith
filter-few p (x ∷ xs) = elim (cases_Bool (p x)) [
  | inl t ↦ rw t (omega (arith, filter-few p xs))
  | inr f ↦ rw f (omega (arith, filter-few p xs))
]

some-of : (o : Option (List ℕ)) → is_some o ≡ true → o ≡ Some (ranking_or_none o)
some-of None h = absurd cc
some-of (Some ranking) h = refl

module _ (asked : Option Id) (rows : List Fields) (file : BallotFile) (s : Spells asked rows file) where
  few : length file.places ≤ length (ballots rows)
  few = omega (
    arith,
    ap length s.has.places,
    filter-few (votes_in rows file.contest) (range_with_len (2 + count rows) (length (ballots rows))),
    length-range_with_len (2 + count rows) (length (ballots rows)),
  )

  said : ℕ → Ballot
  said at = ballot_said (contests rows) at (record_at rows at)

  ids-are : file.ids ≡ map ballot_id (ballots_for file.contest (ballots rows))
  ids-are =
      ids asked rows file s ∙ ap (map (λ at. ballot_id (record_at rows at))) s.has.places
      ∙ sym (ap (map (λ (b : Ballot). b.id)) (ballots-numbered rows (contests rows) file.contest (2 + count rows) (ballots rows) (ballot-record rows))
      ∙ map-twice (λ at. ballot_said (contests rows) at (record_at rows at)) (λ (b : Ballot). b.id) (places_of file.contest rows))
      ∙ ids-numbered (contests rows) file.contest (2 + count rows) (ballots rows)

  ranking-at : (i : ℕ) → i < length file.rankings → IsRanking (length file.candidates) (get_or file.rankings i [])
  ranking-at i less =
      let at = get_or file.places i 0 in
      let row = record_at rows at in
      let b = s.has.each i (omega (arith, less, s.has.a_ranking_each)) in
      let (known, is) = one-ranking file.candidates row (get_or file.rankings i []) (candidates-differ asked rows file s) b.ranks in
      is_ranking file.candidates (drop 2 row) (get_or file.rankings i []) (some-of (ranking_of file.candidates (drop 2 row)) (some-ranking file.candidates row
      ∙ known) ∙ ap Some is)

  are-ballots : AreBallots (length file.candidates) file.ids file.places file.rankings
  are-ballots = record {
    most = omega (arith, s.has.a_ranking_each, few, s.ballots_are.few);
    an_id_each = s.has.an_id_each ∙ sym s.has.a_ranking_each;
    a_place_each = sym s.has.a_ranking_each;
    differ = ap all_differ ids-are ∙ s.ballots_are.differ file.contest;
    below = all-from (λ ranking. All (λ c. c < length file.candidates) ranking) file.rankings [] (λ i less. (ranking-at i less).below);
    distinct = all-from (λ ranking. IsTrue (is_distinct ranking)) file.rankings [] (λ i less. (ranking-at i less).distinct);
  }

  pub is-sound : IsSound file
  is-sound = record { candidates = record { fewest = s.has.fewest; most = s.has.most; differ = candidates-differ asked rows file s }; ballots = are-ballots }

  pub is-named : IsNamed file
  is-named =
      let a = some-asked asked (contests rows) s.own s.asked_for in
      let e = own-record rows s.own asked a in
      let own = s.contests_are.each a.k a.row a.there in
      record {
        contest = ap is_name (s.has.contest ∙ ap contest_id e) ∙ own.named;
        candidates = ap (list_all is_name) (s.has.candidates ∙ ap candidates_in e) ∙ own.all_named;
        ids = list_all-from is_name file.ids [] (λ i less. (s.has.each i (omega (arith, less, s.has.an_id_each))).named);
      }

pub read_is_sound : ReadIsSound
read_is_sound asked rows file h =
    let s = (records_spell_file asked rows file).0 h in
    (is-sound asked rows file s, is-named asked rows file s)
