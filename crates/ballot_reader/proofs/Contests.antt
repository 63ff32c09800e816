-- Contests that are read record by record.
use Rattle.std.proofs.Common.{◌≡◌, ◌<◌, ◌+◌, ◌-◌, ◌∙◌, ◌++◌, ◌∷◌, [], ◌||◌, ◌⊎◌, inl, inr, ℕ, zero, suc, Bool, true, false, not, List, Option, Some, None, Result, Ok, Err, length, drop, refl, sym, ap, subst, arith, length-append, codes}
use Rattle.std.specs.Prelude.{if◌then◌else◌}
use Rattle.std.specs.List.{list_any, slice_get}
use Rattle.std.proofs.lemmas.List.{map-append}
use Rattle.csv_rows.specs.Rows.{Fields}
use Rattle.irv_base.specs.Names.{Id, is_among, is_name, is_same, all_differ}
use Rattle.ballots.specs.Grammar.{Contest, contest_named, contest_of, contest_with, contests_in, has_id, listed, names_of, number_up_to}
use Rattle.file_fault.specs.Refusals.{and_then, refused}
use Rattle.ballot_reader.specs.Kept.{contest_ids}
use Rattle.ballots.specs.declared.fault.BRule.{BRule}
use Rattle.ballots.specs.declared.fault.BRule.TheVariants.{B2, B4}
use Rattle.ballots.specs.declared.limits.TheConstants.{MOST_LISTED}
use Rattle.ballot_ids.proofs.Differing.{differ-push, or-false}

-- ---- a contest that is accepted has a new id

among-ids : (contests : List Contest) (id : Id) → is_among (contest_ids contests) id ≡ list_any (has_id id) contests
among-ids [] id = refl
among-ids (c ∷ contests) id = ap (λ b. is_same c.id id || b) (among-ids contests id)

with-id : (at : ℕ) (id : Id) (o : Option (List Id)) (contest : Contest) → contest_with at id o ≡ Ok contest → contest.id ≡ id
with-id at id None contest h = absurd cc
with-id at id (Some ids) contest h = by (is_name id) (names_of ids) h where
  by : (b : Bool) (o : Option (List Id)) → (if b then contest_named at id o else Err B4) ≡ Ok contest → contest.id ≡ id
  by false o g = absurd cc
  by true None g = absurd cc
  by true (Some candidates) g = let s : record { at = at; id = id; candidates = candidates } ≡ contest = cc in ap (λ (c : Contest). c.id) (sym s)

with-place : (at : ℕ) (id : Id) (o : Option (List Id)) (contest : Contest) → contest_with at id o ≡ Ok contest → contest.at ≡ at
with-place at id None contest h = absurd cc
with-place at id (Some ids) contest h = by (is_name id) (names_of ids) h where
  by : (b : Bool) (o : Option (List Id)) → (if b then contest_named at id o else Err B4) ≡ Ok contest → contest.at ≡ at
  by false o g = absurd cc
  by true None g = absurd cc
  by true (Some candidates) g = let s : record { at = at; id = id; candidates = candidates } ≡ contest = cc in ap (λ (c : Contest). c.at) (sym s)

own-place : (earlier : List Contest) (at : ℕ) (row : Fields) (contest : Contest) → contest_of earlier at row ≡ Ok contest → contest.at ≡ at
own-place earlier at [] contest h = absurd cc
own-place earlier at (word ∷ []) contest h = absurd cc
own-place earlier at (word ∷ id ∷ []) contest h = absurd cc
own-place earlier at (word ∷ id ∷ number ∷ ids) contest h = by (not (is_same word (codes "Contest")) || list_any (has_id id) earlier) h where
  by : (b : Bool) → (if b then Err B2 else contest_with at id (listed (number_up_to MOST_LISTED number) ids)) ≡ Ok contest → contest.at ≡ at
  by true g = absurd cc
  by false g = with-place at id (listed (number_up_to MOST_LISTED number) ids) contest g

new-id : (earlier : List Contest) (at : ℕ) (row : Fields) (contest : Contest) → contest_of earlier at row ≡ Ok contest →
    is_among (contest_ids earlier) contest.id ≡ false
new-id earlier at [] contest h = absurd cc
new-id earlier at (word ∷ []) contest h = absurd cc
new-id earlier at (word ∷ id ∷ []) contest h = absurd cc
new-id earlier at (word ∷ id ∷ number ∷ ids) contest h = by (not (is_same word (codes "Contest")) || list_any (has_id id) earlier) refl h where
  by : (b : Bool) → (not (is_same word (codes "Contest")) || list_any (has_id id) earlier) ≡ b →
      (if b then Err B2 else contest_with at id (listed (number_up_to MOST_LISTED number) ids)) ≡ Ok contest
      → is_among (contest_ids earlier) contest.id ≡ false
  by true e g = absurd cc
  by false e g =
      ap (is_among (contest_ids earlier)) (with-id at id (listed (number_up_to MOST_LISTED number) ids) contest g) ∙ among-ids earlier id
      ∙ (or-false (not (is_same word (codes "Contest"))) (list_any (has_id id) earlier) e).1

-- ---- the contests so far

-- i of the n records are these contests
pub record ContestsSoFar (n : ℕ) (rows : List Fields) (contests : List Contest) (i : ℕ) (rest : List Fields) : Type 0 where
  pub split : contests_in n [] 2 rows ≡ contests_in (n - i) contests (2 + i) rest
  pub dropped : drop n rows ≡ drop (n - i) rest
  pub counted : length contests ≡ i
  pub differ : all_differ (contest_ids contests) ≡ true

next : (n i : ℕ) → i < n → n - i ≡ suc (n - (i + 1))
next n i less = omega (arith, less)

pub contests-more : (n : ℕ) (rows : List Fields) (contests : List Contest) (i : ℕ) (row : Fields) (rest : List Fields) (contest : Contest) →
    ContestsSoFar n rows contests i (row ∷ rest) → i < n
    → contest_of contests (2 + i) row ≡ Ok contest → ContestsSoFar n rows (contests ++ contest ∷ []) (i + 1) rest
contests-more n rows contests i row rest contest so_far less h =
    let at : (2 + i) + 1 ≡ 2 + (i + 1) = omega arith in
    record {
      split = so_far.split ∙ ap (λ m. contests_in m contests (2 + i) (row ∷ rest)) (next n i less)
          ∙ ap (λ o. and_then (2 + i) o (λ (c : Contest). contests_in (n - (i + 1)) (contests ++ c ∷ []) ((2 + i) + 1) rest)) h
          ∙ ap (λ k. contests_in (n - (i + 1)) (contests ++ contest ∷ []) k rest) at;
      dropped = so_far.dropped ∙ ap (λ m. drop m (row ∷ rest)) (next n i less);
      counted = omega (arith, so_far.counted, length-append contests (contest ∷ []));
      differ = ap all_differ (map-append (λ (c : Contest). c.id) contests (contest ∷ []))
          ∙ differ-push (contest_ids contests) contest.id so_far.differ (new-id contests (2 + i) row contest h);
    }

pub contests-broken : (n : ℕ) (rows : List Fields) (contests : List Contest) (i : ℕ) (row : Fields) (rest : List Fields) (rule : BRule) →
    ContestsSoFar n rows contests i (row ∷ rest) → i < n
    → contest_of contests (2 + i) row ≡ Err rule → contests_in n [] 2 rows ≡ refused rule (2 + i)
contests-broken n rows contests i row rest rule so_far less h =
    so_far.split ∙ ap (λ m. contests_in m contests (2 + i) (row ∷ rest)) (next n i less)
    ∙ ap (λ o. and_then (2 + i) o (λ (c : Contest). contests_in (n - (i + 1)) (contests ++ c ∷ []) ((2 + i) + 1) rest)) h

pub contests-missing : (n : ℕ) (rows : List Fields) (contests : List Contest) (i : ℕ) → ContestsSoFar n rows contests i [] → i < n →
    contests_in n [] 2 rows ≡ refused B2 (2 + i)
contests-missing n rows contests i so_far less = so_far.split ∙ ap (λ m. contests_in m contests (2 + i) []) (next n i less)

-- ---- the properties of contests that have been read

push-cases : {X : Type 0} (xs : List X) (x : X) (k : ℕ) (y : X) → slice_get (xs ++ x ∷ []) k ≡ Some y → (slice_get xs k ≡ Some y) ⊎ ((k ≡ length xs) × (x ≡ y))
push-cases [] x zero y h = inr (refl, cc)
push-cases [] x (suc k) y h = absurd cc
push-cases (z ∷ xs) x zero y h = inl h
push-cases (z ∷ xs) x (suc k) y h = elim (push-cases xs x k y h) [ inl e ↦ inl e | inr e ↦ inr (ap suc e.0, e.1) ]

-- their ids differ, and they are in the records from 2 on
pub record AreListed (contests : List Contest) (next : ℕ) : Type 0 where
  pub differ : all_differ (contest_ids contests) ≡ true
  pub numbered : (k : ℕ) (contest : Contest) → slice_get contests k ≡ Some contest → contest.at ≡ 2 + k
  pub counted : next ≡ 2 + length contests

pub none_listed : AreListed [] 2
none_listed = record { differ = refl; numbered = λ k contest there. absurd cc; counted = refl }

one_listed : (contests : List Contest) (at : ℕ) (row : Fields) (contest : Contest) → AreListed contests at → contest_of contests at row ≡ Ok contest →
    AreListed (contests ++ contest ∷ []) (at + 1)
one_listed contests at row contest are h = record {
  differ = ap all_differ (map-append (λ (c : Contest). c.id) contests (contest ∷ []))
      ∙ differ-push (contest_ids contests) contest.id are.differ (new-id contests at row contest h);
  numbered = λ k c there. elim (push-cases contests contest k c there) [
    | inl e ↦ are.numbered k c e
    | inr e ↦
        let same = ap (λ (x : Contest). x.at) (sym e.1) ∙ own-place contests at row contest h in
        omega (arith, same, are.counted, e.0)
  ];
  counted = omega (arith, are.counted, length-append contests (contest ∷ []));
}

pub all_listed : (n : ℕ) (earlier : List Contest) (at : ℕ) (rows : List Fields) (contests : List Contest) → AreListed earlier at →
    contests_in n earlier at rows ≡ Ok contests → AreListed contests (at + n)
all_listed zero earlier at rows contests are h =
    let s : earlier ≡ contests = cc in
    let e : at ≡ at + 0 = omega arith in
    subst (AreListed contests) e (subst (λ cs. AreListed cs at) s are)
all_listed (suc n) earlier at [] contests are h = absurd cc
all_listed (suc n) earlier at (row ∷ rows) contests are h =
    by (contest_of earlier at row) refl h (λ contest. all_listed n (earlier ++ contest ∷ []) (at + 1) rows contests)
  where
    by : (o : Result Contest BRule) → contest_of earlier at row ≡ o →
        and_then at o (λ (c : Contest). contests_in n (earlier ++ c ∷ []) (at + 1) rows) ≡ Ok contests →
        ((contest : Contest) → AreListed (earlier ++ contest ∷ []) (at + 1) → contests_in n (earlier ++ contest ∷ []) (at + 1) rows ≡ Ok contests →
        AreListed contests ((at + 1) + n)) → AreListed contests (at + suc n)
    by (Err rule) e g more = absurd cc
    by (Ok contest) e g more =
        let next : (at + 1) + n ≡ at + suc n = omega arith in
        subst (AreListed contests) next (more contest (one_listed earlier at row contest are e) g)
