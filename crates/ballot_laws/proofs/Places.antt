-- Records by their numbers, and the requested contest.
use Rattle.std.proofs.Common.{◌≡◌, ◌∙◌, ◌∷◌, [], ◌+◌, ◌-◌, ◌<◌, ◌≤◌, ℕ, zero, suc, Bool, true, false, not, List, Option, Some, None, length, map, take, drop, get_or, refl, sym, ap, arith}
use Rattle.std.specs.Prelude.{if◌then◌else◌, filter, option_map, position}
use Rattle.std.specs.List.{slice_get, range_with_len}
use Rattle.std.proofs.lemmas.Bool.{and_parts, not-true}
use Rattle.std.proofs.lemmas.Cmp.{nat_list_eq_equiv}
use Rattle.std.proofs.lemmas.Option.{get_or_from_slice_get, slice_get-get_or}
use Rattle.std.proofs.lemmas.List.Quantifiers.{position-Some}
use Rattle.irv_base.proofs.Positions.{first_place, found_at, found_none, later_place}
use Rattle.csv_rows.specs.Rows.{Fields}
use Rattle.irv_base.specs.Names.{Id, all_differ, is_among, is_same}
use Rattle.ballots.specs.Grammar.{Ballot, asked_for, ballots_in, has_id}
use Rattle.ballot_ids.proofs.Differing.{or-false}
use Rattle.ballot_laws.specs.Rows.{asked_place, ballot_contest, ballots, candidates_for, candidates_in, contest_id, contests, count, record_at}
use Rattle.ballot_laws.proofs.Ballots.{ballot_said}
use Rattle.ballot_laws.proofs.Heads.{head_of}
use Rattle.ballot_laws.proofs.Walk.{numbered}

pub same-itself : (a : Id) → is_same a a ≡ true
same-itself a = nat_list_eq_equiv.refl a

-- ---- lists

pub taken : {X : Type 0} (n : ℕ) (xs : List X) (k : ℕ) (x : X) → slice_get (take n xs) k ≡ Some x → slice_get xs k ≡ Some x
taken zero xs k x h = absurd cc
taken (suc n) [] k x h = absurd cc
taken (suc n) (y ∷ xs) zero x h = h
taken (suc n) (y ∷ xs) (suc k) x h = taken n xs k x h

pub dropped : {X : Type 0} (n : ℕ) (xs : List X) (k : ℕ) → slice_get (drop n xs) k ≡ slice_get xs (n + k)
dropped zero xs k = ap (slice_get xs) (omega arith)
dropped (suc n) [] k = refl
dropped (suc n) (y ∷ xs) k = let e : suc (n + k) ≡ suc n + k = omega arith in dropped n xs k ∙ ap (slice_get (y ∷ xs)) e

pub few-taken : {X : Type 0} (n : ℕ) (xs : List X) → length (take n xs) ≤ n
few-taken zero xs = omega arith
few-taken (suc n) [] = omega arith
few-taken (suc n) (y ∷ xs) = omega (arith, few-taken n xs)

pub all-taken : {X : Type 0} (n : ℕ) (xs : List X) → length (take n xs) < n → length (take n xs) ≡ length xs
all-taken zero xs h = absurd (omega (arith, h))
all-taken (suc n) [] h = refl
all-taken (suc n) (y ∷ xs) h = ap suc (all-taken n xs (omega (arith, h)))

pub map-twice : {X Y Z : Type 0} (f : X → Y) (g : Y → Z) (xs : List X) → map g (map f xs) ≡ map (λ x. g (f x)) xs
map-twice f g [] = refl
map-twice f g (x ∷ xs) = ap (λ ys. g (f x) ∷ ys) (map-twice f g xs)

pub map-same : {X : Type 0} (xs : List X) → map (λ x. x) xs ≡ xs
map-same [] = refl
map-same (x ∷ xs) = ap (λ ys. x ∷ ys) (map-same xs)

pub map-filter : {X Y : Type 0} (p : X → Bool) (f g : X → Y) (xs : List X) → ((x : X) → p x ≡ true → f x ≡ g x) → map f (filter p xs) ≡ map g (filter p xs)
map-filter p f g [] h = refl
map-filter {X} {Y} p f g (x ∷ xs) h = by (p x) refl (map-filter p f g xs h) where
  by : (b : Bool) → p x ≡ b → map f (filter p xs) ≡ map g (filter p xs) → map f (if b then x ∷ filter p xs else filter p xs)
      ≡ map g (if b then x ∷ filter p xs else filter p xs)
  by true t more = ap (λ y. y ∷ map f (filter p xs)) (h x t) ∙ ap (λ ys. g x ∷ ys) more
  by false f more = more

-- ---- records by number

pub later-record : (first : Fields) (rest : List Fields) (k : ℕ) (row : Fields) → slice_get rest k ≡ Some row → record_at (first ∷ rest) (2 + k) ≡ row
later-record first rest k row h =
    let e : (2 + k) - 1 ≡ suc k = omega arith in
    ap (λ i. get_or (first ∷ rest) i []) e ∙ get_or_from_slice_get rest k row [] h

pub contest-record : (rows : List Fields) (k : ℕ) (row : Fields) → slice_get (contests rows) k ≡ Some row → record_at rows (2 + k) ≡ row
contest-record [] k row h = absurd (let e = taken (count []) [] k row h in cc)
contest-record (first ∷ rest) k row h = later-record first rest k row (taken (count (first ∷ rest)) rest k row h)

pub ballot-record : (rows : List Fields) (k : ℕ) (row : Fields) → slice_get (ballots rows) k ≡ Some row → record_at rows (2 + count rows + k) ≡ row
ballot-record [] k row h = absurd (let e = sym (dropped (count []) [] k) ∙ h in cc)
ballot-record (first ∷ rest) k row h =
    let n = count (first ∷ rest) in
    let e : 2 + n + k ≡ 2 + (n + k) = omega arith in
    ap (record_at (first ∷ rest)) e ∙ later-record first rest (n + k) row (sym (dropped n rest k) ∙ h)

-- ---- the requested contest

head-there : (first : ℕ) (rows : List Fields) (k : ℕ) (row : Fields) → slice_get rows k ≡ Some row →
    slice_get (numbered head_of first rows) k ≡ Some (head_of (first + k) row)
head-there first [] k row h = absurd cc
head-there first (r ∷ rows) zero row h =
    let s : r ≡ row = cc in
    let e : first ≡ first + 0 = omega arith in
    ap (λ x. Some (head_of first x)) s ∙ ap (λ n. Some (head_of n row)) e
head-there first (r ∷ rows) (suc k) row h = let e : (first + 1) + k ≡ first + suc k = omega arith in head-there (first + 1) rows k row h
    ∙ ap (λ n. Some (head_of n row)) e

abbrev pub names : Id → Fields → Bool
names id row = is_same (contest_id row) id

position-numbered : (first : ℕ) (rows : List Fields) (id : Id) → position (has_id id) (numbered head_of first rows) ≡ position (names id) rows
position-numbered first [] id = refl
position-numbered first (row ∷ rows) id = by (names id row) refl (position-numbered (first + 1) rows id) where
  by : (b : Bool) → names id row ≡ b → position (has_id id) (numbered head_of (first + 1) rows) ≡ position (names id) rows →
      position (has_id id) (numbered head_of first (row ∷ rows)) ≡ position (names id) (row ∷ rows)
  by true t more = first_place (has_id id) (head_of first row) (numbered head_of (first + 1) rows) t ∙ sym (first_place (names id) row rows t)
  by false f more = later_place (has_id id) (head_of first row) (numbered head_of (first + 1) rows) f ∙ ap (option_map (λ i. 1 + i)) more
      ∙ sym (later_place (names id) row rows f)

pub record IsAsked (asked : Option Id) (rows : List Fields) (own : ℕ) : Type 0 where
  pub k : ℕ
  pub row : Fields
  pub there : slice_get rows k ≡ Some row
  pub own_is : own ≡ 2 + k
  pub found : asked_for (numbered head_of 2 rows) asked ≡ Some (head_of own row)

pub some-asked : (asked : Option Id) (rows : List Fields) (own : ℕ) → asked_place asked rows ≡ Some own → IsAsked asked rows own
some-asked None [] own h = absurd cc
some-asked None (row ∷ []) own h =
    let e : 2 ≡ own = cc in
    record { k = 0; row = row; there = refl; own_is = sym e; found = ap (λ n. Some (head_of n row)) e }
some-asked None (row ∷ next ∷ rest) own h = absurd cc
some-asked (Some id) rows own h = by (position (names id) rows) refl h where
  by : (o : Option ℕ) → position (names id) rows ≡ o → option_map (λ k. 2 + k) o ≡ Some own → IsAsked (Some id) rows own
  by None e g = absurd cc
  by (Some k) e g =
      let at : 2 + k ≡ own = cc in
      let row = get_or rows k [] in
      let there = slice_get-get_or rows k [] (position-Some (names id) rows k [] e).0 in
      record {
        k = k;
        row = row;
        there = there;
        own_is = sym at;
        found = found_at (has_id id) (numbered head_of 2 rows) k (position-numbered 2 rows id ∙ e) ∙ head-there 2 rows k row there
            ∙ ap (λ n. Some (head_of n row)) at;
      }

pub none-asked : (asked : Option Id) (rows : List Fields) → asked_place asked rows ≡ None → asked_for (numbered head_of 2 rows) asked ≡ None
none-asked None [] h = refl
none-asked None (row ∷ []) h = absurd cc
none-asked None (row ∷ next ∷ rest) h = refl
none-asked (Some id) rows h = found_none (has_id id) (numbered head_of 2 rows) (position-numbered 2 rows id ∙ by (position (names id) rows) h) where
  by : (o : Option ℕ) → option_map (λ k. 2 + k) o ≡ None → o ≡ None
  by None e = refl
  by (Some k) e = absurd cc

-- ---- the candidates of a contest

stands-later : (rows : List Fields) (id : Id) (k : ℕ) (row : Fields) → is_among (map contest_id rows) id ≡ false → slice_get rows k ≡ Some row →
    is_same (contest_id row) id ≡ false
stands-later [] id k row h g = absurd cc
stands-later (r ∷ rows) id zero row h g =
    let e : r ≡ row = cc in
    ap (names id) (sym e) ∙ (or-false (names id r) (is_among (map contest_id rows) id) h).0
stands-later (r ∷ rows) id (suc k) row h g = stands-later rows id k row (or-false (names id r) (is_among (map contest_id rows) id) h).1 g

pub own-candidates : (rows : List Fields) (k : ℕ) (row : Fields) → all_differ (map contest_id rows) ≡ true → slice_get rows k ≡ Some row →
    candidates_for rows (contest_id row) ≡ candidates_in row
own-candidates [] k row d g = absurd cc
own-candidates (r ∷ rows) zero row d g =
    let e : r ≡ row = cc in
    ap (λ (x : Fields). if is_same (contest_id r) (contest_id x) then candidates_in r else candidates_for rows (contest_id x)) (sym e)
    ∙ ap (λ b. if b then candidates_in r else candidates_for rows (contest_id r)) (same-itself (contest_id r))
    ∙ ap candidates_in e
own-candidates (r ∷ rows) (suc k) row d g =
    let (out, rest) = and_parts (not (is_among (map contest_id rows) (contest_id r))) (all_differ (map contest_id rows)) d in
    let other = nat_list_eq_equiv.symm (contest_id r) (contest_id row)
    ∙ stands-later rows (contest_id r) k row (not-true (is_among (map contest_id rows) (contest_id r)) out) g in
    ap (λ b. if b then candidates_in r else candidates_for rows (contest_id row)) other ∙ own-candidates rows k row rest g

-- ---- the ballots of a contest

abbrev pub votes_in : List Fields → Id → ℕ → Bool
votes_in rows id at = is_same (ballot_contest (record_at rows at)) id

pub ballots-numbered : (rows heads : List Fields) (id : Id) (first : ℕ) (bs : List Fields) →
    ((k : ℕ) (row : Fields) → slice_get bs k ≡ Some row → record_at rows (first + k) ≡ row)
    → ballots_in id (numbered (ballot_said heads) first bs) ≡ map (λ at. ballot_said heads at (record_at rows at))
    (filter (votes_in rows id) (range_with_len first (length bs)))
ballots-numbered rows heads id first [] h = refl
ballots-numbered rows heads id first (row ∷ bs) h =
    by (is_same (ballot_contest row) id)
    (ballots-numbered rows heads id (first + 1) bs (λ k other g. let e : (first + 1) + k ≡ first + suc k = omega arith in ap (record_at rows) e
    ∙ h (suc k) other g))
    ∙ ap (λ (r : Fields). map said (if is_same (ballot_contest r) id then first ∷ rest else rest)) (sym here)
  where
    said : ℕ → Ballot
    said at = ballot_said heads at (record_at rows at)

    rest : List ℕ
    rest = filter (votes_in rows id) (range_with_len (first + 1) (length bs))

    here : record_at rows first ≡ row
    here = let e : first ≡ first + 0 = omega arith in ap (record_at rows) e ∙ h 0 row refl

    more : List Ballot
    more = ballots_in id (numbered (ballot_said heads) (first + 1) bs)

    by : (b : Bool) → more ≡ map said rest → (if b then ballot_said heads first row ∷ more else more) ≡ map said (if b then first ∷ rest else rest)
    by true e = ap (λ r. ballot_said heads first r ∷ more) (sym here) ∙ ap (λ bs. said first ∷ bs) e
    by false e = e
