-- A record that breaks no rule is a contest or a ballot, and vice versa.
use Rattle.std.proofs.Common.{◌≡◌, ◌∙◌, ◌++◌, ◌∷◌, [], ◌≤◌, ◌<◌, ◌||◌, ◌&&◌, ℕ, zero, suc, Bool, true, false, not, List, Option, Some, None, length, map, take, drop, nat_le, nat_lt, refl, sym, ap, arith, leb-true, ltb-true, lt-ltb, length-append}
use Rattle.std.specs.Prelude.{codes}
use Rattle.std.specs.List.{list_all, slice_get}
use Rattle.std.specs.Cmp.Lexicographic.{bytes_decides}
use Rattle.std.proofs.lemmas.Bool.{and_from, and_parts, not-true}
use Rattle.csv_rows.specs.Numbers.{number_of}
use Rattle.csv_rows.specs.Rows.{Fields}
use Rattle.irv_base.specs.Names.{Id, all_differ, is_among, is_name, is_same}
use Rattle.irv_base.specs.declared.limits.TheConstants.{MOST_RECORDS}
use Rattle.ballots.specs.declared.fault.BRule.TheVariants.{B2, B3, B4, B6, B7, B8, B9, B10}
use Rattle.ballots.specs.declared.limits.TheConstants.{MOST_LISTED}
use Rattle.ballot_laws.specs.Rows.{ballot_contest, ballot_id, ballots_for, candidates_for, candidates_in, contest_id, field, preferences, size}
use Rattle.manifest.specs.Spelling.{number_or_0}
use Rattle.ballot_laws.specs.Breaking.{ballot_rule, ballot_rules, begins_contest, contest_rule, contest_rules, lists_candidates, names_candidates}
use Rattle.ballot_laws.specs.Spelling.{IsBallot, IsContest, IsOfOne}
use Rattle.ballot_laws.proofs.Ballots.{ranking_in}
use Rattle.ballot_laws.proofs.Differ.{passed, passes}
use Rattle.ballot_laws.proofs.Places.{own-candidates, same-itself}
use Rattle.ballot_laws.proofs.Ranked.{one-ranking, ranks-of}

le-nat_le : (a b : ℕ) → a ≤ b → nat_le a b ≡ true
le-nat_le a b h = grind arith

-- ---- a contest

taken-all : (n : ℕ) (ids : List Id) → n ≤ length ids → length (take n ids) ≡ n
taken-all zero ids h = refl
taken-all (suc n) [] h = absurd (omega (arith, h))
taken-all (suc n) (id ∷ ids) h = ap suc (taken-all n ids (omega (arith, h)))

parted : (n : ℕ) (ids : List Id) → ids ≡ take n ids ++ drop n ids
parted zero ids = refl
parted (suc n) [] = refl
parted (suc n) (id ∷ ids) = ap (λ more. id ∷ more) (parted n ids)

some-number : (o : Option ℕ) → 1 ≤ number_or_0 o → o ≡ Some (number_or_0 o)
some-number None h = absurd (omega (arith, h))
some-number (Some n) h = refl

pub contest-is : (before : List Fields) (row : Fields) → contest_rule before row ≡ None → IsContest row (contest_id row) (candidates_in row)
contest-is before [] h = absurd cc
contest-is before (word ∷ []) h = absurd cc
contest-is before (word ∷ id ∷ []) h = absurd cc
contest-is before (word ∷ id ∷ number ∷ ids) h =
    let row = word ∷ id ∷ number ∷ ids in
    let n = size row in
    let candidates = candidates_in row in
    let (head, behind) = passed B2 (begins_contest before row) (drop 1 (contest_rules before row)) h in
    let word_is = (and_parts (nat_le 3 (length row) && is_same word (codes "Contest")) (not (is_among (map contest_id before) id)) head).0 in
    let same = (and_parts (nat_le 3 (length row)) (is_same word (codes "Contest")) word_is).1 in
    let (sized, last) = passed B3 (lists_candidates row) (drop 2 (contest_rules before row)) behind in
    let (range, enough) = and_parts (nat_le 1 n && nat_le n MOST_LISTED) (nat_le n (length ids)) sized in
    let (some, few) = and_parts (nat_le 1 n) (nat_le n MOST_LISTED) range in
    let ids_are = (passed B4 (names_candidates row) [] last).0 in
    let (names, differ) = and_parts (is_name id && list_all is_name candidates) (all_differ candidates) ids_are in
    let (own, all) = and_parts (is_name id) (list_all is_name candidates) names in
    let count = taken-all n ids (leb-true n (length ids) enough) in
    record {
      number = number;
      more = drop n ids;
      is = ap (λ w. w ∷ id ∷ number ∷ ids) ((bytes_decides word (codes "Contest")).0 same) ∙ ap (λ more. codes "Contest" ∷ id ∷ number ∷ more) (parted n ids);
      counted = some-number (number_of number) (leb-true 1 n some) ∙ ap Some (sym count);
      some = omega (arith, count, leb-true 1 n some);
      few = omega (arith, count, leb-true n MOST_LISTED few);
      named = own;
      all_named = all;
      differ = differ;
    }

pub is-contest : (before : List Fields) (row : Fields) → IsContest row (contest_id row) (candidates_in row) →
    is_among (map contest_id before) (contest_id row) ≡ false → contest_rule before row ≡ None
is-contest before row c new =
    let candidates = candidates_in row in
    let long = ap length c.is in
    let word = ap (λ (r : Fields). is_same (field r 0) (codes "Contest")) c.is ∙ same-itself (codes "Contest") in
    let n : size row ≡ length candidates = ap size c.is ∙ ap number_or_0 c.counted in
    let ids : length (drop 3 row) ≡ length (candidates ++ c.more) = ap (λ (r : Fields). length (drop 3 r)) c.is in
    let room = ids ∙ length-append candidates c.more in
    let begins = and_from (nat_le 3 (length row) && is_same (field row 0) (codes "Contest")) (not (is_among (map contest_id before) (contest_id row)))
    (and_from (nat_le 3 (length row)) (is_same (field row 0) (codes "Contest")) (le-nat_le 3 (length row) (omega (arith, long))) word) (ap not new) in
    let lists = and_from (nat_le 1 (size row) && nat_le (size row) MOST_LISTED) (nat_le (size row) (length (drop 3 row)))
    (and_from (nat_le 1 (size row)) (nat_le (size row) MOST_LISTED) (le-nat_le 1 (size row) (omega (arith, n, c.some)))
    (le-nat_le (size row) MOST_LISTED (omega (arith, n, c.few))))
    (le-nat_le (size row) (length (drop 3 row)) (omega (arith, n, room))) in
    let names = and_from (is_name (contest_id row) && list_all is_name candidates) (all_differ candidates)
    (and_from (is_name (contest_id row)) (list_all is_name candidates) c.named c.all_named) c.differ in
    passes B2 (begins_contest before row) (drop 1 (contest_rules before row)) begins
    (passes B3 (lists_candidates row) (drop 2 (contest_rules before row)) lists (passes B4 (names_candidates row) [] names refl))

-- ---- a ballot

pub record IsJudged (contests before : List Fields) (row : Fields) : Type 0 where
  pub more : Fields
  pub two : row ≡ ballot_contest row ∷ ballot_id row ∷ more
  pub room : length before < MOST_RECORDS
  pub named : is_name (ballot_id row) ≡ true
  pub listed : is_among (map contest_id contests) (ballot_contest row) ≡ true
  pub new : is_among (map ballot_id (ballots_for (ballot_contest row) before)) (ballot_id row) ≡ false
  pub known : list_all (is_among (candidates_for contests (ballot_contest row))) (preferences row) ≡ true

pub judged-ballot : (contests before : List Fields) (row : Fields) → ballot_rule contests before row ≡ None → IsJudged contests before row
judged-ballot contests before row h =
    let room = passed B10 (nat_lt (length before) MOST_RECORDS) (drop 1 (ballot_rules contests before row)) h in
    let long = passed B6 (nat_le 2 (length row)) (drop 2 (ballot_rules contests before row)) room.1 in
    let named = passed B4 (is_name (ballot_id row)) (drop 3 (ballot_rules contests before row)) long.1 in
    let listed = passed B7 (is_among (map contest_id contests) (ballot_contest row)) (drop 4 (ballot_rules contests before row)) named.1 in
    let new = passed B9 (not (is_among (map ballot_id (ballots_for (ballot_contest row) before)) (ballot_id row))) (drop 5 (ballot_rules contests before row))
    listed.1 in
    let known = passed B8 (list_all (is_among (candidates_for contests (ballot_contest row))) (preferences row)) [] new.1 in
    record {
      more = drop 2 row;
      two = two row long.0;
      room = ltb-true (length before) MOST_RECORDS room.0;
      named = named.0;
      listed = listed.0;
      new = not-true (is_among (map ballot_id (ballots_for (ballot_contest row) before)) (ballot_id row)) new.0;
      known = known.0;
    }
  where
    two : (row : Fields) → nat_le 2 (length row) ≡ true → row ≡ ballot_contest row ∷ ballot_id row ∷ drop 2 row
    two [] e = absurd cc
    two (a ∷ []) e = absurd cc
    two (a ∷ b ∷ rest) e = refl

pub is-judged : (contests before : List Fields) (row : Fields) → IsJudged contests before row → ballot_rule contests before row ≡ None
is-judged contests before row j =
    passes B10 (nat_lt (length before) MOST_RECORDS) (drop 1 (ballot_rules contests before row)) (lt-ltb (length before) MOST_RECORDS j.room)
    (passes B6 (nat_le 2 (length row)) (drop 2 (ballot_rules contests before row)) (le-nat_le 2 (length row) (omega (arith, ap length j.two)))
    (passes B4 (is_name (ballot_id row)) (drop 3 (ballot_rules contests before row)) j.named
    (passes B7 (is_among (map contest_id contests) (ballot_contest row)) (drop 4 (ballot_rules contests before row)) j.listed
    (passes B9 (not (is_among (map ballot_id (ballots_for (ballot_contest row) before)) (ballot_id row))) (drop 5 (ballot_rules contests before row))
    (ap not j.new)
    (passes B8 (list_all (is_among (candidates_for contests (ballot_contest row))) (preferences row)) [] j.known refl)))))

-- of the contest with that id and these candidates
pub ballot-of : (contests before : List Fields) (row : Fields) (id : Id) (candidates : List Id) → IsJudged contests before row → ballot_contest row ≡ id →
    candidates_for contests id ≡ candidates
    → IsBallot row id candidates (ballot_id row) (ranking_in candidates row)
ballot-of contests before row id candidates j of are = record {
  more = j.more;
  is = j.two ∙ ap (λ x. x ∷ ballot_id row ∷ j.more) of;
  named = j.named;
  ranks = ranks-of candidates row (ap (λ cs. list_all (is_among cs) (preferences row)) (sym (ap (candidates_for contests) of ∙ are)) ∙ j.known);
}

-- ---- the contest of a ballot

pub record Stands (rows : List Fields) (id : Id) : Type 0 where
  pub place : ℕ
  pub row : Fields
  pub there : slice_get rows place ≡ Some row
  pub named : contest_id row ≡ id

pub stands : (rows : List Fields) (id : Id) → is_among (map contest_id rows) id ≡ true → Stands rows id
stands [] id h = absurd cc
stands (row ∷ rows) id h = by (is_same (contest_id row) id) refl h (stands rows id) where
  by : (b : Bool) → is_same (contest_id row) id ≡ b → (b || is_among (map contest_id rows) id) ≡ true →
      (is_among (map contest_id rows) id ≡ true → Stands rows id) → Stands (row ∷ rows) id
  by true t g more = record { place = 0; row = row; there = refl; named = (bytes_decides (contest_id row) id).0 t }
  by false f g more = let s = more g in record { place = suc s.place; row = s.row; there = s.there; named = s.named }

pub stands-among : (rows : List Fields) (k : ℕ) (row : Fields) → slice_get rows k ≡ Some row → is_among (map contest_id rows) (contest_id row) ≡ true
stands-among [] k row g = absurd cc
stands-among (r ∷ rows) zero row g =
    let e : r ≡ row = cc in
    ap (λ (x : Fields). is_same (contest_id x) (contest_id row) || is_among (map contest_id rows) (contest_id row)) e
    ∙ ap (λ b. b || is_among (map contest_id rows) (contest_id row)) (same-itself (contest_id row))
stands-among (r ∷ rows) (suc k) row g = by (is_same (contest_id r) (contest_id row)) (stands-among rows k row g) where
  by : (b : Bool) → is_among (map contest_id rows) (contest_id row) ≡ true → (b || is_among (map contest_id rows) (contest_id row)) ≡ true
  by true h = refl
  by false h = h

pub of-one : (contests before : List Fields) (row : Fields) → all_differ (map contest_id contests) ≡ true → IsJudged contests before row → IsOfOne contests row
of-one contests before row differ j =
    let s = stands contests (ballot_contest row) j.listed in
    let own = own-candidates contests s.place s.row differ s.there in
    record {
      place = s.place;
      contest = s.row;
      there = s.there;
      ranking = ranking_in (candidates_in s.row) row;
      is = ballot-of contests before row
          (contest_id s.row) (candidates_in s.row) j (sym s.named) own;
    }

pub judged-of-one : (contests before : List Fields) (row : Fields) → all_differ (map contest_id contests) ≡ true → (o : IsOfOne contests row) →
    all_differ (candidates_in o.contest) ≡ true
    → length before < MOST_RECORDS → is_among (map ballot_id (ballots_for (ballot_contest row) before)) (ballot_id row) ≡ false → IsJudged contests before row
judged-of-one contests before row differ o apart room new =
    let of : ballot_contest row ≡ contest_id o.contest = ap ballot_contest o.is.is in
    let own = ap (candidates_for contests) of ∙ own-candidates contests o.place o.contest differ o.there in
    record {
      more = o.is.more;
      two = o.is.is ∙ ap (λ x. x ∷ ballot_id row ∷ o.is.more) (sym of);
      room = room;
      named = o.is.named;
      listed = ap (is_among (map contest_id contests)) of ∙ stands-among contests o.place o.contest o.there;
      new = new;
      known = ap (λ cs. list_all (is_among cs) (preferences row)) own ∙ (one-ranking (candidates_in o.contest) row o.ranking apart o.is.ranks).0;
    }
