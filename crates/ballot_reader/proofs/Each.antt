-- Reading all contests of a file gives what reading each of them by its id gives.
use Rattle.std.proofs.Common.{◌≡◌, ◌≤◌, ◌+◌, ◌∙◌, ◌++◌, ◌∷◌, [], ◌&&◌, ℕ, zero, suc, Bool, true, false, not, cond, List, Option, Some, None, Result, Ok, Err, length, map, drop, refl, sym, ap, subst, arith, leb-true, inl, inr}
use Rattle.std.specs.Prelude.{find, if◌then◌else◌, nat_le, option_and_then}
use Rattle.std.specs.List.{Contains, slice_get}
use Rattle.std.proofs.lemmas.Bool.{and_parts, cases_Bool}
use Rattle.std.proofs.lemmas.Option.{get_or_from_slice_get, slice_get_read, slice_get_within}
use Rattle.csv_rows.specs.Fields.{numbered_records}
use Rattle.csv_rows.specs.Numbers.{number_of}
use Rattle.csv_rows.specs.Rows.{Fields}
use Rattle.irv_base.specs.Names.{Id, all_differ, is_same}
use Rattle.ballots.specs.Ballots.{BallotFile}
use Rattle.ballots.specs.Grammar.{Ballot, Contest, audited_contest, ballot_of, ballots_after, ballots_behind, ballots_from, contest_count, contest_with_id, contests_behind, contests_from, contests_in, file_of, has_audited_size, then_on, unless_unsized}
use Rattle.file_fault.specs.Refusals.{and_then, Refusal, refused}
use Rattle.ballot_reader.specs.Kept.{contest_ids}
use Rattle.ballot_reader.specs.Laws.{ContestsAreEach, IsFirstRefusal, IsOfEach, listed_behind, listed_from}
use Rattle.ballots.specs.declared.fault.BRule.{BRule}
use Rattle.ballots.specs.declared.fault.BRule.TheVariants.{B3}
use Rattle.ballots.specs.declared.limits.TheConstants.{MOST_CONTESTS}
use Rattle.ballot_reader.proofs.Adding.{apart, elsewhere, same-comm, same-refl}
use Rattle.ballot_reader.proofs.Behind.{after_all, after_contests, after_listed, after_sized, listed, with-contests}
use Rattle.ballot_reader.proofs.Contests.{AreListed, all_listed, none_listed}

-- ---- a contest by its id

named-at : (contests : List Contest) (k : ℕ) (contest : Contest) → all_differ (contest_ids contests) ≡ true → slice_get contests k ≡ Some contest →
    contest_with_id contests contest.id ≡ Some contest
named-at [] k contest d g = absurd cc
named-at (c ∷ contests) zero contest d g =
    let s : c ≡ contest = cc in
    ap (λ b. cond b (Some c) (contest_with_id contests contest.id)) (ap (λ (x : Contest). is_same x.id contest.id) s ∙ same-refl contest.id) ∙ ap Some s
named-at (c ∷ contests) (suc k) contest d g =
    let (new, rest) = apart c contests d in
    ap (λ b. cond b (Some c) (contest_with_id contests contest.id)) (same-comm c.id contest.id ∙ elsewhere contests c.id k contest new g)
    ∙ named-at contests k contest rest g

-- ---- the first contest of another size

pub record IsUnsized (contests : List Contest) (contest : Contest) : Type 0 where
  pub place : ℕ
  pub there : slice_get contests place ≡ Some contest
  pub unsized : has_audited_size contest.candidates ≡ false
  pub first : (k : ℕ) (other : Contest) → slice_get contests k ≡ Some other → has_audited_size other.candidates ≡ false → place ≤ k

abbrev unsized_in : List Contest → Option Contest
unsized_in contests = find (λ (c : Contest). not (has_audited_size c.candidates)) contests

first-unsized : (contests : List Contest) (contest : Contest) → unsized_in contests ≡ Some contest → IsUnsized contests contest
first-unsized [] contest h = absurd cc
first-unsized (c ∷ contests) contest h = by (has_audited_size c.candidates) refl h (first-unsized contests contest) where
  by : (b : Bool) → has_audited_size c.candidates ≡ b → cond (not b) (Some c) (unsized_in contests) ≡ Some contest →
      (unsized_in contests ≡ Some contest → IsUnsized contests contest) → IsUnsized (c ∷ contests) contest
  by false e g more =
      let s : c ≡ contest = cc in
      record { place = 0; there = ap Some s; unsized = ap (λ (x : Contest). has_audited_size x.candidates) (sym s) ∙ e; first = λ k other there h. omega arith }
  by true e g more = let m = more g in record { place = suc m.place; there = m.there; unsized = m.unsized; first = later m } where
    later : (m : IsUnsized contests contest) (k : ℕ) (other : Contest) → slice_get (c ∷ contests) k ≡ Some other →
        has_audited_size other.candidates ≡ false → suc m.place ≤ k
    later m zero other there other-size =
        let s : c ≡ other = cc in
        absurd (let t = sym e ∙ ap (λ (x : Contest). has_audited_size x.candidates) s ∙ other-size in cc)
    later m (suc k) other there other-size = omega (arith, m.first k other there other-size)

all-sized : (contests : List Contest) → unsized_in contests ≡ None → (k : ℕ) (contest : Contest) → slice_get contests k ≡ Some contest →
    has_audited_size contest.candidates ≡ true
all-sized [] h k contest there = absurd cc
all-sized (c ∷ contests) h k contest there = by (has_audited_size c.candidates) refl h (all-sized contests) k there where
  by : (b : Bool) → has_audited_size c.candidates ≡ b → cond (not b) (Some c) (unsized_in contests) ≡ None →
      (unsized_in contests ≡ None → (k : ℕ) (x : Contest) → slice_get contests k ≡ Some x → has_audited_size x.candidates ≡ true) →
      (k : ℕ) → slice_get (c ∷ contests) k ≡ Some contest → has_audited_size contest.candidates ≡ true
  by false e g more k at = absurd cc
  by true e g more zero at = let s : c ≡ contest = cc in ap (λ (x : Contest). has_audited_size x.candidates) (sym s) ∙ e
  by true e g more (suc k) at = more g k contest at

-- ---- ballots after the contests are refused

refused-behind : (contests : List Contest) (earlier : List Ballot) (at : ℕ) (rows : List Fields) (refusal : Refusal BRule) →
    ballots_after contests earlier at rows ≡ Err refusal → at ≤ refusal.at
refused-behind contests earlier at [] refusal h = absurd cc
refused-behind contests earlier at (row ∷ rows) refusal h =
    by (ballot_of contests earlier at row) h (λ ballot. refused-behind contests (earlier ++ ballot ∷ []) (at + 1) rows refusal)
  where
    by : (o : Result Ballot BRule) → and_then at o (λ (b : Ballot). ballots_after contests (earlier ++ b ∷ []) (at + 1) rows) ≡ Err refusal →
        ((ballot : Ballot) → ballots_after contests (earlier ++ ballot ∷ []) (at + 1) rows ≡ Err refusal → at + 1 ≤ refusal.at) → at ≤ refusal.at
    by (Err rule) g more = let s : record { rule = rule; at = at } ≡ refusal = cc in omega (arith, ap (λ (r : Refusal BRule). r.at) s)
    by (Ok ballot) g more = omega (arith, more ballot g)

-- ---- elements

contains-at : {X : Type 0} (xs : List X) (x : X) → Contains xs x → (k : ℕ) × (slice_get xs k ≡ Some x)
contains-at xs x (k, less, e) = (k, slice_get_read xs (length xs) k x refl less (sym e))

at-contains : {X : Type 0} (xs : List X) (k : ℕ) (x : X) → slice_get xs k ≡ Some x → Contains xs x
at-contains xs k x there = (k, slice_get_within xs k x there, get_or_from_slice_get xs k x x there)

map-ok : {X Y E : Type 0} (said : X → Result Y E) (f : X → Y) (xs : List X) → ((k : ℕ) (x : X) → slice_get xs k ≡ Some x → said x ≡ Ok (f x)) →
    map said xs ≡ map Ok (map f xs)
map-ok said f [] h = refl
map-ok said f (x ∷ xs) h =
    ap (λ y. y ∷ map said xs) (h 0 x refl) ∙ ap (λ ys. Ok (f x) ∷ ys) (map-ok said f xs (λ k y there. h (suc k) y there))

-- ---- all contests

module _ (n : ℕ) (rows : List Fields) (contests : List Contest) (read : contests_in n [] 2 rows ≡ Ok contests) where
  abbrev said : Option Id → Result BallotFile (Refusal BRule)
  said asked = ballots_behind (Some n) asked rows

  are : AreListed contests (2 + n)
  are = all_listed n [] 2 rows contests none_listed read

  many : length contests ≡ n
  many = omega (arith, are.counted)

  of-one : (k : ℕ) (c : Contest) → slice_get contests k ≡ Some c →
      said (Some c.id) ≡ then_on (audited_contest (Some c)) (after_sized (Some c.id) n rows contests)
  of-one k c there = with-contests n (Some c.id) rows contests read
      ∙ ap (λ o. then_on (audited_contest o) (after_sized (Some c.id) n rows contests)) (named-at contests k c are.differ there)

  of-unsized : (k : ℕ) (c : Contest) → slice_get contests k ≡ Some c → has_audited_size c.candidates ≡ false → said (Some c.id) ≡ refused B3 c.at
  of-unsized k c there h = of-one k c there
      ∙ ap (λ b. then_on (if b then Ok c else refused B3 c.at) (after_sized (Some c.id) n rows contests)) h

  of-sized : (k : ℕ) (c : Contest) → slice_get contests k ≡ Some c → has_audited_size c.candidates ≡ true →
      said (Some c.id) ≡ then_on (ballots_after contests [] (2 + n) (drop n rows)) (λ bs. Ok (file_of c bs))
  of-sized k c there h = of-one k c there
      ∙ ap (λ b. then_on (if b then Ok c else refused B3 c.at) (after_sized (Some c.id) n rows contests)) h

  abbrev all : Result (List BallotFile) (Refusal BRule)
  all = contests_behind (Some n) rows

  -- one has another size
  with-unsized : (c : Contest) → unsized_in contests ≡ Some c → IsFirstRefusal said contests (record { rule = B3; at = c.at })
  with-unsized c e =
      let u = first-unsized contests c e in
      record {
        contest = c;
        there = at-contains contests u.place c u.there;
        refuses = of-unsized u.place c u.there u.unsized;
        first = λ other later among h. let (k, there) = contains-at contests other among in
            elim (cases_Bool (has_audited_size other.candidates)) [
              | inl t ↦
                  let within = slice_get_within contests u.place c u.there in
                  let behind = after-sized later (ballots_after contests [] (2 + n) (drop n rows)) refl other (sym (of-sized k other there t) ∙ h) in
                  omega (arith, are.numbered u.place c u.there, within, many, behind)
              | inr f ↦
                  let same : record { rule = B3; at = other.at } ≡ later = same-refusal B3 other.at later (sym (of-unsized k other there f) ∙ h) in
                  omega (arith, are.numbered u.place c u.there, are.numbered k other there, u.first k other there f, ap (λ (r : Refusal BRule). r.at) same)
            ];
      }
    where
      same-refusal : (rule : BRule) (at : ℕ) (later : Refusal BRule) → refused {A = BallotFile} rule at ≡ Err later → record { rule = rule; at = at } ≡ later
      same-refusal rule at later h = cc

      after-sized : (later : Refusal BRule) (o : Result (List Ballot) (Refusal BRule)) → ballots_after contests [] (2 + n) (drop n rows) ≡ o → (other : Contest) →
          then_on o (λ bs. Ok (file_of other bs)) ≡ Err later → 2 + n ≤ later.at
      after-sized later (Ok bs) e other h = absurd cc
      after-sized later (Err refusal) e other h =
          let s : refusal ≡ later = cc in
          omega (arith, refused-behind contests [] (2 + n) (drop n rows) refusal e, ap (λ (r : Refusal BRule). r.at) s)

  -- all have a size that can be audited
  all-read : unsized_in contests ≡ None → (bs : List Ballot) → ballots_after contests [] (2 + n) (drop n rows) ≡ Ok bs →
      map (λ (c : Contest). said (Some c.id)) contests ≡ map Ok (map (λ (c : Contest). file_of c bs) contests)
  all-read e bs h = map-ok (λ (c : Contest). said (Some c.id)) (λ (c : Contest). file_of c bs) contests
      (λ k c there. of-sized k c there (all-sized contests e k c there) ∙ ap (λ r. then_on r (λ xs. Ok (file_of c xs))) h)

  all-refused : unsized_in contests ≡ None → 1 ≤ n → (refusal : Refusal BRule) → ballots_after contests [] (2 + n) (drop n rows) ≡ Err refusal →
      IsFirstRefusal said contests refusal
  all-refused e some refusal h =
      let (c, there) = first-of contests (omega (arith, many, some)) in
      record {
        contest = c;
        there = at-contains contests 0 c there;
        refuses = of-each 0 c there;
        first = λ other later among g. let (k, at) = contains-at contests other among in
            let same = as-refused (said (Some other.id)) refusal later (of-each k other at) g in
            omega (arith, ap (λ (r : Refusal BRule). r.at) same);
      }
    where
      of-each : (k : ℕ) (c : Contest) → slice_get contests k ≡ Some c → said (Some c.id) ≡ Err refusal
      of-each k c there = of-sized k c there (all-sized contests e k c there) ∙ ap (λ r. then_on r (λ bs. Ok (file_of c bs))) h

      as-refused : (file : Result BallotFile (Refusal BRule)) (one other : Refusal BRule) → file ≡ Err one → file ≡ Err other → one ≡ other
      as-refused file one other g h = let e = sym g ∙ h in cc

      first-of : (cs : List Contest) → 1 ≤ length cs → (c : Contest) × (slice_get cs 0 ≡ Some c)
      first-of [] less = absurd (omega (arith, less))
      first-of (c ∷ cs) less = (c, refl)

  pub of_each : 1 ≤ n → IsOfEach said (Ok contests) all
  of_each some = by (unsized_in contests) refl where
    after : (o : Result (List Ballot) (Refusal BRule)) → unsized_in contests ≡ None → ballots_after contests [] (2 + n) (drop n rows) ≡ o →
        IsOfEach said (Ok contests) (then_on o (λ bs. Ok (map (λ (c : Contest). file_of c bs) contests)))
    after (Ok bs) e h = all-read e bs h
    after (Err refusal) e h = all-refused e some refusal h

    by : (o : Option Contest) → unsized_in contests ≡ o → IsOfEach said (Ok contests) all
    by (Some c) e =
        let is : all ≡ refused B3 c.at = listed n rows contests read ∙ ap (λ o. then_on (unless_unsized contests o) (after_all n rows contests)) e in
        subst (IsOfEach said (Ok contests)) (sym is) (with-unsized c e)
    by None e =
        let is : all ≡ after_all n rows contests contests =
        listed n rows contests read ∙ ap (λ o. then_on (unless_unsized contests o) (after_all n rows contests)) e in
        subst (IsOfEach said (Ok contests)) (sym is) (after (ballots_after contests [] (2 + n) (drop n rows)) e refl)

-- ---- from the first record on

some-counted : (first : Fields) (n : ℕ) → contest_count first ≡ Some n → 1 ≤ n
some-counted [] n h = absurd cc
some-counted (number ∷ rest) n h = by (number_of number) h where
  so : (m : ℕ) (b : Bool) → (nat_le 1 m && nat_le m MOST_CONTESTS) ≡ b → (if b then Some m else None) ≡ Some n → 1 ≤ n
  so m true e g = let s : m ≡ n = cc in omega (arith, leb-true 1 m (and_parts (nat_le 1 m) (nat_le m MOST_CONTESTS) e).0, s)
  so m false e g = absurd cc

  by : (o : Option ℕ) → option_and_then (λ m. if nat_le 1 m && nat_le m MOST_CONTESTS then Some m else None) o ≡ Some n → 1 ≤ n
  by None g = absurd cc
  by (Some m) g = so m (nat_le 1 m && nat_le m MOST_CONTESTS) refl g

each-behind : (o : Option ℕ) (rows : List Fields) → ((n : ℕ) → o ≡ Some n → 1 ≤ n) →
    IsOfEach (λ asked. ballots_behind o asked rows) (listed_behind o rows) (contests_behind o rows)
each-behind None rows some = (refl, λ asked. refl)
each-behind (Some n) rows some = by (contests_in n [] 2 rows) refl where
  by : (o : Result (List Contest) (Refusal BRule)) → contests_in n [] 2 rows ≡ o →
      IsOfEach (λ asked. ballots_behind (Some n) asked rows) o (contests_behind (Some n) rows)
  by (Ok contests) e = of_each n rows contests e (some n refl)
  by (Err refusal) e = (ap (λ r. then_on r (after_listed n rows)) e, λ asked. ap (λ r. then_on r (after_contests asked n rows)) e)

each-from : (rows : List Fields) → IsOfEach (λ asked. ballots_from asked rows) (listed_from rows) (contests_from rows)
each-from [] = (refl, λ asked. refl)
each-from (first ∷ rows) = each-behind (contest_count first) rows (some-counted first)

pub contests_are_each : ContestsAreEach
contests_are_each bytes = each-from (numbered_records bytes)
