-- What is judged of a contest's record, and of all of them.
use Rattle.std.proofs.Common.{inl, inr, ◌≡◌, ◌⊎◌, ◌∙◌, ◌++◌, ◌∷◌, [], ◌+◌, ◌||◌, ◌&&◌, ℕ, zero, suc, Bool, true, false, not, List, Option, Some, None, Result, Ok, Err, length, map, take, nat_le, nat_lt, refl, sym, ap, arith, cond}
use Rattle.std.specs.Prelude.{if◌then◌else◌, codes, find, option_and_then}
use Rattle.std.specs.List.{list_all, list_any}
use Rattle.std.specs.Cmp.Lexicographic.{bytes_decides}
use Rattle.csv_rows.specs.Numbers.{number_of}
use Rattle.csv_rows.specs.Rows.{Fields}
use Rattle.irv_base.specs.Names.{Id, all_differ, is_among, is_name, is_same}
use Rattle.ballots.specs.Grammar.{Contest, contest_named, contest_of, contest_with, contests_in, has_id, listed, number_up_to, then_on}
use Rattle.file_fault.specs.Refusals.{and_then, Refusal, refused}
use Rattle.ballots.specs.declared.fault.BRule.{BRule}
use Rattle.ballots.specs.declared.fault.BRule.TheVariants.{B2, B3, B4}
use Rattle.ballots.specs.declared.limits.TheConstants.{MOST_LISTED}
use Rattle.ballot_laws.specs.Rows.{candidates_for, candidates_in, contest_id}
use Rattle.manifest.specs.Spelling.{number_or_0}
use Rattle.ballot_laws.specs.Breaking.{contest_rule, first_broken, lists_candidates, names_candidates}
use Rattle.ballot_laws.proofs.Walk.{Judges, and_then-same, as_judged, numbered, walk}

abbrev pub head_of : ℕ → Fields → Contest
head_of at row = record { at = at; id = contest_id row; candidates = candidates_in row }

-- ---- a contest among others

pub any-head : (first : ℕ) (rows : List Fields) (id : Id) → list_any (has_id id) (numbered head_of first rows) ≡ is_among (map contest_id rows) id
any-head first [] id = refl
any-head first (row ∷ rows) id = ap (λ b. is_same (contest_id row) id || b) (any-head (first + 1) rows id)

pub record IsFound (first : ℕ) (rows : List Fields) (id : Id) : Type 0 where
  pub among : is_among (map contest_id rows) id ≡ true
  pub at : ℕ
  pub is : find (has_id id) (numbered head_of first rows) ≡ Some (record { at = at; id = id; candidates = candidates_for rows id })

pub record IsLost (first : ℕ) (rows : List Fields) (id : Id) : Type 0 where
  pub among : is_among (map contest_id rows) id ≡ false
  pub is : find (has_id id) (numbered head_of first rows) ≡ None

pub finds : (first : ℕ) (rows : List Fields) (id : Id) → IsFound first rows id ⊎ IsLost first rows id
finds first [] id = inr (record { among = refl; is = refl })
finds first (row ∷ rows) id = by (is_same (contest_id row) id) refl (finds (first + 1) rows id) where
  rest : Option Contest
  rest = find (has_id id) (numbered head_of (first + 1) rows)

  own : is_same (contest_id row) id ≡ true → IsFound first (row ∷ rows) id
  own t =
      let same = (bytes_decides (contest_id row) id).0 t in
      record {
        among = ap (λ b. b || is_among (map contest_id rows) id) t;
        at = first;
        is = ap (λ b. cond b (Some (head_of first row)) rest) t
            ∙ ap (λ x. Some (record { at = first; id = x; candidates = candidates_in row })) same
            ∙ ap (λ b. Some (record { at = first; id = id; candidates = if b then candidates_in row else candidates_for rows id })) (sym t);
      }

  later : is_same (contest_id row) id ≡ false → IsFound (first + 1) rows id → IsFound first (row ∷ rows) id
  later f found = record {
    among = ap (λ b. b || is_among (map contest_id rows) id) f ∙ found.among;
    at = found.at;
    is = ap (λ b. cond b (Some (head_of first row)) rest) f ∙ found.is
        ∙ ap (λ b. Some (record { at = found.at; id = id; candidates = if b then candidates_in row else candidates_for rows id })) (sym f);
  }

  by : (b : Bool) → is_same (contest_id row) id ≡ b → IsFound (first + 1) rows id ⊎ IsLost (first + 1) rows id →
      IsFound first (row ∷ rows) id ⊎ IsLost first (row ∷ rows) id
  by true t more = inl (own t)
  by false f (inl found) = inl (later f found)
  by false f (inr lost) = inr (record {
    among = ap (λ b. b || is_among (map contest_id rows) id) f ∙ lost.among;
    is = ap (λ b. cond b (Some (head_of first row)) rest) f ∙ lost.is;
  })

-- ---- one record

long : (n : ℕ) → nat_le 3 (suc (suc (suc n))) ≡ true
long n = grind arith

named : (at : ℕ) (id : Id) (candidates : List Id) (d e f : Bool)
    → (if d then contest_named at id (if e && f then Some candidates else None) else Err B4)
    ≡ as_judged (first_broken ((B4, d && e && f) ∷ [])) (record { at = at; id = id; candidates = candidates })
named at id candidates true true true = refl
named at id candidates true true false = refl
named at id candidates true false f = refl
named at id candidates false e f = refl

counted : (at : ℕ) (id : Id) (ids : List Id) (o : Option ℕ)
    → contest_with at id (listed (option_and_then (λ n. if nat_le 1 n && nat_le n MOST_LISTED then Some n else None) o) ids)
    ≡ as_judged (first_broken ((B3, nat_le 1 (number_or_0 o) && nat_le (number_or_0 o) MOST_LISTED && nat_le (number_or_0 o) (length ids))
    ∷ (B4, is_name id && list_all is_name (take (number_or_0 o) ids) && all_differ (take (number_or_0 o) ids)) ∷ []))
    (record { at = at; id = id; candidates = take (number_or_0 o) ids })
counted at id ids None = refl
counted at id ids (Some n) = by (nat_le 1 n) (nat_le n MOST_LISTED) where
  candidates : List Id
  candidates = take n ids

  enough : (c : Bool) → contest_with at id (if c then Some candidates else None)
      ≡ as_judged (first_broken ((B3, c) ∷ (B4, is_name id && list_all is_name candidates && all_differ candidates) ∷ []))
      (record { at = at; id = id; candidates = candidates })
  enough true = named at id candidates (is_name id) (list_all is_name candidates) (all_differ candidates)
  enough false = refl

  by : (a b : Bool) → contest_with at id (listed (if a && b then Some n else None) ids)
      ≡ as_judged (first_broken ((B3, a && b && nat_le n (length ids)) ∷ (B4, is_name id && list_all is_name candidates && all_differ candidates) ∷ []))
      (record { at = at; id = id; candidates = candidates })
  by true true = enough (nat_le n (length ids))
  by true false = refl
  by false b = refl

pub judges_contests : Judges contest_of contest_rule head_of
judges_contests first before at [] = refl
judges_contests first before at (word ∷ []) = refl
judges_contests first before at (word ∷ id ∷ []) = refl
judges_contests first before at (word ∷ id ∷ number ∷ ids) =
    ap (λ b. if not (is_same word (codes "Contest")) || b then Err B2 else contest_with at id (listed (number_up_to MOST_LISTED number) ids))
    (any-head first before id)
    ∙ by (is_same word (codes "Contest")) (is_among (map contest_id before) id)
    ∙ ap (λ s. as_judged (first_broken ((B2, s && is_same word (codes "Contest") && not (is_among (map contest_id before) id)) ∷ rules)) (head_of at row))
    (sym (long (length ids)))
  where
    row : Fields
    row = word ∷ id ∷ number ∷ ids

    rules : List (BRule × Bool)
    rules = (B3, lists_candidates row) ∷ (B4, names_candidates row) ∷ []

    by : (a b : Bool) → (if not a || b then Err B2 else contest_with at id (listed (number_up_to MOST_LISTED number) ids))
        ≡ as_judged (first_broken ((B2, true && a && not b) ∷ rules)) (head_of at row)
    by true true = refl
    by true false = counted at id ids (number_of number)
    by false b = refl

-- ---- all of them

-- the result of judging n records, of which only some may be there
abbrev pub if_all : ℕ → ℕ → ℕ → List Contest → Result (List Contest) (Refusal BRule)
if_all n there at contests = if nat_lt there n then refused B2 at else Ok contests

pub contests-walk : (n : ℕ) (earlier : List Contest) (at : ℕ) (rows : List Fields)
    → contests_in n earlier at rows ≡ then_on (walk contest_of earlier at (take n rows)) (if_all n (length (take n rows)) (at + length (take n rows)))
contests-walk zero earlier at rows = refl
contests-walk (suc n) earlier at [] = let e : at ≡ at + 0 = omega arith in ap (refused B2) e
    ∙ ap (λ b. if b then refused B2 (at + 0) else Ok earlier) (some n) where
      some : (n : ℕ) → true ≡ nat_lt 0 (suc n)
      some n = grind arith
contests-walk (suc n) earlier at (row ∷ rows) =
    and_then-same at (contest_of earlier at row) (λ contest. contests_in n (earlier ++ contest ∷ []) (at + 1) rows)
    (λ contest. then_on (walk contest_of (earlier ++ contest ∷ []) (at + 1) (take n rows)) last)
    (λ contest. contests-walk n (earlier ++ contest ∷ []) (at + 1) rows ∙ on (walk contest_of (earlier ++ contest ∷ []) (at + 1) (take n rows)))
    ∙ moved (contest_of earlier at row)
  where
    last : List Contest → Result (List Contest) (Refusal BRule)
    last = if_all (suc n) (suc (length (take n rows))) (at + suc (length (take n rows)))

    nearer : (k m p q : ℕ) (contests : List Contest) → p ≡ q → if_all m k p contests ≡ if_all (suc m) (suc k) q contests
    nearer k m p q contests e =
        let s : nat_lt k m ≡ nat_lt (suc k) (suc m) = grind arith in
        ap (λ b. if b then refused B2 p else Ok contests) s ∙ ap (λ x. if nat_lt (suc k) (suc m) then refused B2 x else Ok contests) e

    on : (r : Result (List Contest) (Refusal BRule)) → then_on r (if_all n (length (take n rows)) (at + 1 + length (take n rows))) ≡ then_on r last
    on (Ok contests) = nearer (length (take n rows)) n (at + 1 + length (take n rows)) (at + suc (length (take n rows))) contests (omega arith)
    on (Err refusal) = refl

    moved : (r : Result Contest BRule) → and_then at r (λ contest. then_on (walk contest_of (earlier ++ contest ∷ []) (at + 1) (take n rows)) last)
        ≡ then_on (and_then at r (λ contest. walk contest_of (earlier ++ contest ∷ []) (at + 1) (take n rows))) last
    moved (Ok contest) = refl
    moved (Err rule) = refl
