-- Records are read as the file that they spell.
use Rattle.std.proofs.Common.{inl, inr, ◌≡◌, ◌∙◌, ◌∷◌, [], ◌+◌, ◌≤◌, ◌<◌, ◌&&◌, ℕ, zero, suc, Bool, true, false, List, Option, Some, None, Ok, length, map, take, get_or, nat_le, refl, sym, ap, subst, arith, leb-true}
use Rattle.std.specs.Prelude.{if◌then◌else◌, filter}
use Rattle.std.specs.List.{slice_get, range_with_len}
use Rattle.std.specs.Cmp.Lexicographic.{bytes_decides}
use Rattle.std.proofs.lemmas.Bool.{and_from, and_parts}
use Rattle.std.proofs.lemmas.List.{length-map}
use Rattle.csv_rows.specs.Numbers.{number_of}
use Rattle.csv_rows.specs.Rows.{Fields}
use Rattle.irv_base.specs.Names.{Id, all_differ, is_among, is_same}
use Rattle.irv_base.specs.declared.limits.TheConstants.{FEWEST_CANDIDATES, MOST_CANDIDATES, MOST_RECORDS}
use Rattle.ballots.specs.Ballots.{BallotFile}
use Rattle.ballots.specs.Grammar.{ballots_from}
use Rattle.ballots.specs.declared.limits.TheConstants.{MOST_CONTESTS}
use Rattle.ballot_ids.proofs.IdBytes.{got}
use Rattle.ballot_laws.specs.Rows.{ballot_contest, ballot_id, ballots, ballots_for, candidates_for, candidates_in, contest_id, contests, count, field, number_in, places_of, record_at}
use Rattle.manifest.specs.Spelling.{number_or_0}
use Rattle.ballot_laws.specs.Breaking.{HasContests, ballot_rule}
use Rattle.ballot_laws.specs.Spelling.{AreBallotRows, AreContests, Has, IsBallot, RecordsSpellFile, Spells}
use Rattle.ballot_laws.proofs.Ballots.{ranking_in}
use Rattle.ballot_laws.proofs.Differ.{contest-before, contests-differ, differ-before, differ-behind}
use Rattle.ballot_laws.proofs.Judged.{IsJudged, ballot-of, contest-is, is-contest, is-judged, judged-ballot, judged-of-one, of-one}
use Rattle.ballot_laws.proofs.Outcome.{IsChosen, IsRead, all-read, decides, file_in, file_with, own-record, refused-so}
use Rattle.ballot_laws.proofs.Places.{ballot-record, few-taken, own-candidates, same-itself, some-asked, votes_in}
use Rattle.ballot_laws.proofs.Ranked.{one-ranking}

le-nat_le : (a b : ℕ) → a ≤ b → nat_le a b ≡ true
le-nat_le a b h = grind arith

mapped : {X Y : Type 0} (f : X → Y) (xs : List X) (i : ℕ) (d : X) (e : Y) → i < length xs → get_or (map f xs) i e ≡ f (get_or xs i d)
mapped f [] i d e h = absurd (omega (arith, h))
mapped f (x ∷ xs) zero d e h = refl
mapped f (x ∷ xs) (suc i) d e h = mapped f xs i d e (omega (arith, h))

same-list : {X : Type 0} (xs ys : List X) (d : X) → length xs ≡ length ys → ((i : ℕ) → i < length ys → get_or xs i d ≡ get_or ys i d) → xs ≡ ys
same-list [] [] d l h = refl
same-list [] (y ∷ ys) d l h = absurd (omega (arith, l))
same-list (x ∷ xs) [] d l h = absurd (omega (arith, l))
same-list (x ∷ xs) (y ∷ ys) d l h =
    ap (λ z. z ∷ xs) (h 0 (omega arith)) ∙ ap (λ zs. y ∷ zs) (same-list xs ys d (omega (arith, l)) (λ i less. h (suc i) (omega (arith, less))))

-- ---- the numbers of a contest's ballots

record IsIn (p : ℕ → Bool) (a n at : ℕ) : Type 0 where
  passes : p at ≡ true
  k : ℕ
  within : k < n
  is : at ≡ a + k

in-range : (p : ℕ → Bool) (a n i : ℕ) → i < length (filter p (range_with_len a n)) → IsIn p a n (get_or (filter p (range_with_len a n)) i 0)
in-range p a zero i h = absurd (omega (arith, h))
in-range p a (suc n) i h = by (p a) refl i h (in-range p (a + 1) n) where
  rest : List ℕ
  rest = filter p (range_with_len (a + 1) n)

  later : (at : ℕ) → IsIn p (a + 1) n at → IsIn p a (suc n) at
  later at r = record { passes = r.passes; k = suc r.k; within = omega (arith, r.within); is = omega (arith, r.is) }

  by : (b : Bool) → p a ≡ b → (i : ℕ) → i < length (if b then a ∷ rest else rest) → ((i : ℕ) → i < length rest → IsIn p (a + 1) n (get_or rest i 0))
      → IsIn p a (suc n) (get_or (if b then a ∷ rest else rest) i 0)
  by true t zero l more = record { passes = t; k = 0; within = omega arith; is = omega arith }
  by true t (suc j) l more = later (get_or rest j 0) (more j (omega (arith, l)))
  by false f j l more = later (get_or rest j 0) (more j l)

-- ---- what is read is spelled

module _ (asked : Option Id) (rows : List Fields) (own : ℕ) (r : IsRead asked rows own) where
  differ : all_differ (map contest_id (contests rows)) ≡ true
  differ = contests-differ (contests rows) r.has.unbroken

  judged : (k : ℕ) (row : Fields) → slice_get (ballots rows) k ≡ Some row → IsJudged (contests rows) (take k (ballots rows)) row
  judged k row there = judged-ballot (contests rows) (take k (ballots rows)) row (r.unbroken k row there)

  some-number : (text : List ℕ) → 1 ≤ number_in text → number_of text ≡ Some (number_in text)
  some-number text h = by (number_of text) h where
    by : (o : Option ℕ) → 1 ≤ number_or_0 o → o ≡ Some (number_or_0 o)
    by None g = absurd (omega (arith, g))
    by (Some n) g = refl

  are-contests : AreContests rows
  are-contests =
      let (some, few) = and_parts (nat_le 1 (count rows)) (nat_le (count rows) MOST_CONTESTS) r.has.counted in
      let all = r.has.all_there in
      record {
        counted = some-number (field (record_at rows 1) 0) (leb-true 1 (count rows) some) ∙ ap Some (sym all);
        some = omega (arith, all, leb-true 1 (count rows) some);
        few = omega (arith, all, leb-true (count rows) MOST_CONTESTS few);
        each = λ k row there. contest-is (take k (contests rows)) row (r.has.unbroken k row there);
        differ = differ;
      }

  few-ballots : (bs : List Fields) → ((k : ℕ) (row : Fields) → slice_get bs k ≡ Some row → length (take k bs) < MOST_RECORDS) → length bs ≤ MOST_RECORDS
  few-ballots [] h = omega arith
  few-ballots (b ∷ bs) h =
      let (last, there) = got (b ∷ bs) (length bs) (omega arith) in
      omega (arith, h (length bs) last there, taken (length bs) (b ∷ bs) (omega arith))
    where
      taken : (n : ℕ) (xs : List Fields) → n ≤ length xs → length (take n xs) ≡ n
      taken zero xs l = refl
      taken (suc n) [] l = absurd (omega (arith, l))
      taken (suc n) (x ∷ xs) l = ap suc (taken n xs (omega (arith, l)))

  ids-differ : (contest : Id) → all_differ (map ballot_id (ballots_for contest (ballots rows))) ≡ true
  ids-differ contest =
      differ-behind (λ row. is_same (ballot_contest row) contest) ballot_id [] (ballots rows) refl
      (λ k row there t. ap (λ c. is_among (map ballot_id (ballots_for c (take k (ballots rows)))) (ballot_id row))
      (sym ((bytes_decides (ballot_contest row) contest).0 t)) ∙ (judged k row there).new)

  are-ballots : AreBallotRows rows
  are-ballots = record {
    few = few-ballots (ballots rows) (λ k row there. (judged k row there).room);
    each = λ k row there. of-one (contests rows) (take k (ballots rows)) row differ (judged k row there);
    differ = ids-differ;
  }

  own-row : Fields
  own-row = record_at rows own

  own-listed : candidates_for (contests rows) (contest_id (record_at rows own)) ≡ candidates_in (record_at rows own)
  own-listed =
      let a = some-asked asked (contests rows) own r.is_chosen.asked_for in
      let e = own-record rows own asked a in
      ap (λ x. candidates_for (contests rows) (contest_id x)) e ∙ own-candidates (contests rows) a.k a.row differ a.there ∙ ap candidates_in (sym e)

  each-ballot : (at : ℕ) → IsIn (votes_in rows (contest_id (record_at rows own))) (2 + count rows) (length (ballots rows)) at
      → IsBallot (record_at rows at) (contest_id (record_at rows own)) (candidates_in (record_at rows own)) (ballot_id (record_at rows at))
      (ranking_in (candidates_in (record_at rows own)) (record_at rows at))
  each-ballot at is_in =
      let (row, there) = got (ballots rows) is_in.k is_in.within in
      let e : record_at rows at ≡ row = ap (record_at rows) is_in.is ∙ ballot-record rows is_in.k row there in
      ballot-of (contests rows) (take is_in.k (ballots rows)) (record_at rows at) (contest_id (record_at rows own)) (candidates_in (record_at rows own))
      (subst (IsJudged (contests rows) (take is_in.k (ballots rows))) (sym e) (judged is_in.k row there))
      ((bytes_decides (ballot_contest (record_at rows at)) (contest_id (record_at rows own))).0 is_in.passes) own-listed

  has : Has rows own (file_in rows own)
  has =
      let places = places_of (contest_id (record_at rows own)) rows in
      let candidates = candidates_in (record_at rows own) in
      let (few, most) = and_parts (nat_le FEWEST_CANDIDATES (length candidates)) (nat_le (length candidates) MOST_CANDIDATES) r.is_chosen.size in
      record {
        contest = refl;
        candidates = refl;
        fewest = leb-true FEWEST_CANDIDATES (length candidates) few;
        most = leb-true (length candidates) MOST_CANDIDATES most;
        places = refl;
        an_id_each = length-map places (λ at. ballot_id (record_at rows at));
        a_ranking_each = length-map places (λ at. ranking_in candidates (record_at rows at));
        each = λ i less.
            (let at = get_or places i 0 in
            let ballot = each-ballot at (in-range (votes_in rows (contest_id (record_at rows own))) (2 + count rows) (length (ballots rows)) i less) in
            subst (λ id. IsBallot (record_at rows at) (contest_id (record_at rows own)) candidates id
            (get_or (map (λ a. ranking_in candidates (record_at rows a)) places) i []))
            (sym (mapped (λ a. ballot_id (record_at rows a)) places i 0 [] less))
            (subst (IsBallot (record_at rows at) (contest_id (record_at rows own)) candidates (ballot_id (record_at rows at)))
            (sym (mapped (λ a. ranking_in candidates (record_at rows a)) places i 0 [] less)) ballot));
      }

  pub spells : Spells asked rows (file_in rows own)
  spells = record { contests_are = are-contests; own = own; asked_for = r.is_chosen.asked_for; ballots_are = are-ballots; has = has }

-- ---- what is spelled is read

module _ (asked : Option Id) (rows : List Fields) (file : BallotFile) (s : Spells asked rows file) where
  counts : count rows ≡ length (contests rows)
  counts = ap number_or_0 s.contests_are.counted

  has-contests : HasContests rows
  has-contests = record {
    counted = and_from (nat_le 1 (count rows)) (nat_le (count rows) MOST_CONTESTS) (le-nat_le 1 (count rows) (omega (arith, counts, s.contests_are.some)))
        (le-nat_le (count rows) MOST_CONTESTS (omega (arith, counts, s.contests_are.few)));
    all_there = sym counts;
    unbroken = λ k row there. is-contest (take k (contests rows)) row (s.contests_are.each k row there)
        (contest-before (contests rows) k row s.contests_are.differ there);
  }

  is-chosen : IsChosen asked rows s.own
  is-chosen =
      let n = ap length s.has.candidates in
      record {
        asked_for = s.asked_for;
        size = ap (λ cs. nat_le FEWEST_CANDIDATES (length cs) && nat_le (length cs) MOST_CANDIDATES) (sym s.has.candidates)
            ∙ and_from (nat_le FEWEST_CANDIDATES (length file.candidates)) (nat_le (length file.candidates) MOST_CANDIDATES)
            (le-nat_le FEWEST_CANDIDATES (length file.candidates) s.has.fewest) (le-nat_le (length file.candidates) MOST_CANDIDATES s.has.most);
      }

  within : (xs : List Fields) (k : ℕ) (row : Fields) → slice_get xs k ≡ Some row → k < length xs
  within [] k row g = absurd cc
  within (x ∷ xs) zero row g = omega arith
  within (x ∷ xs) (suc k) row g = omega (arith, within xs k row g)

  unbroken : (k : ℕ) (row : Fields) → slice_get (ballots rows) k ≡ Some row → ballot_rule (contests rows) (take k (ballots rows)) row ≡ None
  unbroken k row there =
      let one = s.ballots_are.each k row there in
      let own = s.contests_are.each one.place one.contest one.there in
      let room : length (take k (ballots rows)) < MOST_RECORDS =
      omega (arith, few-taken k (ballots rows), within (ballots rows) k row there, s.ballots_are.few) in
      let new = differ-before (λ r. is_same (ballot_contest r) (ballot_contest row)) ballot_id (ballots rows) k row
      (s.ballots_are.differ (ballot_contest row)) there (same-itself (ballot_contest row)) in
      is-judged (contests rows) (take k (ballots rows)) row (judged-of-one (contests rows) (take k (ballots rows)) row s.contests_are.differ one own.differ
      room new)

  pub is-read : IsRead asked rows s.own
  is-read = record { has = has-contests; is_chosen = is-chosen; unbroken = unbroken }

  pub candidates-differ : all_differ file.candidates ≡ true
  candidates-differ =
      let a = some-asked asked (contests rows) s.own s.asked_for in
      let own = s.contests_are.each a.k a.row a.there in
      ap all_differ (s.has.candidates ∙ ap candidates_in (own-record rows s.own asked a)) ∙ own.differ

  pub ids : file.ids ≡ map (λ at. ballot_id (record_at rows at)) file.places
  ids = same-list file.ids (map (λ at. ballot_id (record_at rows at)) file.places) [] (s.has.an_id_each
      ∙ sym (length-map file.places (λ at. ballot_id (record_at rows at))))
      (λ i less.
      (let there : i < length file.places = omega (arith, less, length-map file.places (λ at. ballot_id (record_at rows at))) in
      sym (ap ballot_id (s.has.each i there).is) ∙ sym (mapped (λ at. ballot_id (record_at rows at)) file.places i 0 [] there)))

  rankings : file.rankings ≡ map (λ at. ranking_in file.candidates (record_at rows at)) file.places
  rankings = same-list file.rankings (map (λ at. ranking_in file.candidates (record_at rows at)) file.places) [] (s.has.a_ranking_each
      ∙ sym (length-map file.places (λ at. ranking_in file.candidates (record_at rows at))))
      (λ i less.
      (let there : i < length file.places = omega (arith, less, length-map file.places (λ at. ranking_in file.candidates (record_at rows at))) in
      let at = get_or file.places i 0 in
      sym (one-ranking file.candidates (record_at rows at) (get_or file.rankings i []) candidates-differ (s.has.each i there).ranks).1
      ∙ sym (mapped (λ at. ranking_in file.candidates (record_at rows at)) file.places i 0 [] there)))

  pub file-is : file_in rows s.own ≡ file
  file-is =
      let row = record_at rows s.own in
      let contest = sym s.has.contest in
      let candidates = sym s.has.candidates in
      let places : places_of (contest_id row) rows ≡ file.places = ap (λ id. places_of id rows) contest ∙ sym s.has.places in
      ap (λ id. file_with id (candidates_in row) (map (λ at. ballot_id (record_at rows at)) (places_of (contest_id row) rows))
      (places_of (contest_id row) rows) (map (λ at. ranking_in (candidates_in row) (record_at rows at)) (places_of (contest_id row) rows))) contest
      ∙ ap (λ ps. file_with file.contest (candidates_in row) (map (λ at. ballot_id (record_at rows at)) ps) ps
      (map (λ at. ranking_in (candidates_in row) (record_at rows at)) ps)) places
      ∙ ap (λ cs. file_with file.contest cs (map (λ at. ballot_id (record_at rows at)) file.places) file.places
      (map (λ at. ranking_in cs (record_at rows at)) file.places)) candidates
      ∙ ap (λ is. file_with file.contest file.candidates is file.places (map (λ at. ranking_in file.candidates (record_at rows at)) file.places)) (sym ids)
      ∙ ap (file_with file.contest file.candidates file.ids file.places) (sym rankings)

-- ---- both

is-spelled : (asked : Option Id) (rows : List Fields) (file : BallotFile) → ballots_from asked rows ≡ Ok file → Spells asked rows file
is-spelled asked rows file h = elim (decides asked rows) [
  | inl read ↦
      let e : file_in rows read.0 ≡ file = (let g = sym (all-read asked rows read.0 read.1) ∙ h in cc) in
      subst (Spells asked rows) e (spells asked rows read.0 read.1)
  | inr broken ↦ absurd (let e = sym (refused-so asked rows broken.0 broken.1 broken.2) ∙ h in cc)
]

pub records_spell_file : RecordsSpellFile
records_spell_file asked rows file = (
  is-spelled asked rows file,
  λ s. all-read asked rows s.own (is-read asked rows file s) ∙ ap Ok (file-is asked rows file s),
)
