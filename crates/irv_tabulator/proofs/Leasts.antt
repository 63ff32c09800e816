-- The smallest tally of the remaining candidates, and who has it.
use Rattle.std.proofs.Common.{◌==◌, ◌≡◌, ◌≢◌, ℕ, zero, suc, ◌+◌, ◌-◌, ◌<◌, ◌≤◌, ◌^◌, Bool, true, false, cond, inl, inr, List, [], ◌∷◌, ◌++◌, Some, length, map, take, filter, get_or, slice_get, slice_index, refl, sym, ap, ap₂, subst, arith, eq-eqb, eqb-true, le_antisymm, ◌∙◌}
use Rattle.std.proofs.lemmas.Bool.{cases_Bool, cases_eq, cases_lt}
use Rattle.std.proofs.lemmas.List.{take_more}
use Rattle.std.proofs.lemmas.List.Elements.{filter-append}
use Rattle.std.proofs.lemmas.List.Sums.{sum_by_push}
use Rattle.std.proofs.lemmas.List.FromFn.{get_or-map-range_with_len}
use Rattle.std.specs.List.{range_with_len}
use Rattle.irv_base.specs.Candidates.{candidates, has, members, set_of}
use Rattle.irv_base.specs.Records.{tally}
use Rattle.irv_base.specs.declared.limits.TheConstants.{ROOM}
use Rattle.irv_base.specs.Tabulation.{least, least_tally, sharing_least}
use Rattle.irv_base.proofs.Members.{Member, here, there, member_at, member_cases, member_nil, member-map, from_map, member-filter, from_filter, member-from_in, in-from_member, member-from_contains, from_range, candidate-member}
use Rattle.irv_base.proofs.Distinct.{Distinct, distinct-head, distinct-tail}
use Rattle.irv_base.proofs.Sets.{set_of_is, has-set_of}
use Rattle.irv_base.proofs.Least.{least-member, least_is}
use Rattle.irv_base.proofs.Sames.{Same, set_of-same, distinct-filter, least-le, shared-same}
use Rattle.set_tallies.specs.Bags.{tallies}
use Rattle.irv_base.specs.Tabulation.{goes_before, loses}
use Rattle.irv_base.proofs.Losing.{Goes, goes-facts, goes-test, goes-loser}
use Rattle.irv_tabulator.proofs.Progress.{IsRest, IsWithout, rest-more, distinct_filter}

-- ---- the member at a place
pub got : (xs : List ℕ) (i c : ℕ) → slice_get xs i ≡ Some c → (i < length xs) × (get_or xs i 0 ≡ c)
got [] zero c e = cc
got [] (suc i) c e = cc
got (x ∷ xs) zero c e = let s : x ≡ c = cc in (omega arith, s)
got (x ∷ xs) (suc i) c e = let (l, h) = got xs i c e in (omega arith, h)

pub got-member : (xs : List ℕ) (i c : ℕ) → slice_get xs i ≡ Some c → Member c xs
got-member [] zero c e = cc
got-member [] (suc i) c e = cc
got-member (x ∷ xs) zero c e = let s : x ≡ c = cc in member_at s
got-member (x ∷ xs) (suc i) c e = there (got-member xs i c e)

pub member-got : {c : ℕ} {xs : List ℕ} → Member c xs → (i : ℕ) × (i < length xs) × (slice_get xs i ≡ Some c)
member-got here = (0, omega arith, refl)
member-got (there m) = let (i, l, e) = member-got m in (suc i, omega arith, e)

some-one : (a b : ℕ) → Some a ≡ Some b → a ≡ b
some-one a b e = cc

pub got-has : (set i c : ℕ) → slice_get (members set) i ≡ Some c → has set c ≡ true
got-has set i c e = (from_filter (has set) (candidates ROOM) (got-member (members set) i c e)).1

-- the members are in increasing order
rising : (p : ℕ → Bool) (a n i j c d : ℕ) → i < j → slice_get (filter p (range_with_len a n)) i ≡ Some c → slice_get (filter p (range_with_len a n)) j ≡ Some d →
    c < d
rising p a zero zero j c d l e f = cc
rising p a zero (suc i) j c d l e f = cc
rising p a (suc n) i j c d l e f =
    go (p a) i j l e f (λ i j l e f. rising p (a + 1) n i j c d l e f)
    (λ k f. from_range d (a + 1) n (from_filter p (range_with_len (a + 1) n) (got-member (filter p (range_with_len (a + 1) n)) k d f)).0) where
      go : (b : Bool) (i j : ℕ) → i < j → slice_get (cond b (a ∷ filter p (range_with_len (a + 1) n)) (filter p (range_with_len (a + 1) n))) i ≡ Some c →
          slice_get (cond b (a ∷ filter p (range_with_len (a + 1) n)) (filter p (range_with_len (a + 1) n))) j ≡ Some d →
          ((i j : ℕ) → i < j → slice_get (filter p (range_with_len (a + 1) n)) i ≡ Some c → slice_get (filter p (range_with_len (a + 1) n)) j ≡ Some d → c < d) →
          ((k : ℕ) → slice_get (filter p (range_with_len (a + 1) n)) k ≡ Some d → (a + 1 ≤ d) × (d < a + 1 + n)) → c < d
      go false i j l e f later from = later i j l e f
      go true i zero l e f later from = absurd (omega (arith, l))
      go true zero (suc j) l e f later from = let s : a ≡ c = some-one a c e in let h = (from j f).0 in omega (arith, s, h)
      go true (suc i) (suc j) l e f later from = later i j (omega (arith, l)) e f

pub members-rise : (set i j c d : ℕ) → i < j → slice_get (members set) i ≡ Some c → slice_get (members set) j ≡ Some d → c < d
members-rise set i j c d l e f = rising (has set) 0 ROOM i j c d l e f

-- ---- the lowest
-- this member goes before each of the others among the first i members
pub record IsLowest (row : List ℕ) (set i c : ℕ) : Type 0 where
  pub place : ℕ
  pub before : place < i
  pub at : slice_get (members set) place ≡ Some c
  pub first : (k d : ℕ) → k < i → slice_get (members set) k ≡ Some d → d ≢ c → goes_before (slice_index row) c d ≡ true

pub lowest-first : (row : List ℕ) (set c : ℕ) → slice_get (members set) 0 ≡ Some c → IsLowest row set 1 c
lowest-first row set c e = record {
  place = 0;
  before = omega arith;
  at = e;
  first = λ k d l f ne.
      let zero' : k ≡ 0 = omega (arith, l) in
      absurd (ne (some-one d c (sym f ∙ ap (slice_get (members set)) zero' ∙ e)));
}

pub lowest-other : (row : List ℕ) (set i c d : ℕ) → slice_get (members set) i ≡ Some d → slice_index row c ≤ slice_index row d → IsLowest row set i c →
    IsLowest row set (i + 1) c
lowest-other row set i c d e le h = record {
  place = h.place;
  before = let l = h.before in omega (arith, l);
  at = h.at;
  first = λ k x l f ne. elim (cases_lt k i) [
    | inl b ↦ h.first k x b f ne
    | inr g ↦
        let last : k ≡ i = omega (arith, g, l) in
        let same : x ≡ d = some-one x d (sym f ∙ ap (slice_get (members set)) last ∙ e) in
        let rise : c < d = members-rise set h.place i c d h.before h.at e in
        subst (λ y. goes_before (slice_index row) c y ≡ true) (sym same)
        (goes-test (slice_index row) c d (record { fewer = le; same = λ _. rise }))
  ];
}

pub lowest-next : (row : List ℕ) (set i c d : ℕ) → slice_get (members set) i ≡ Some d → slice_index row d < slice_index row c → IsLowest row set i c →
    IsLowest row set (i + 1) d
lowest-next row set i c d e lt h = record {
  place = i;
  before = omega arith;
  at = e;
  first = λ k x l f ne. elim (cases_lt k i) [
    | inr g ↦
        let last : k ≡ i = omega (arith, g, l) in
        absurd (ne (some-one x d (sym f ∙ ap (slice_get (members set)) last ∙ e)))
    | inl b ↦
        let le : slice_index row c ≤ slice_index row x = elim (cases_eq x c) [
          | inl s ↦ let same = ap (slice_index row) s in omega (arith, same)
          | inr apart ↦ (goes-facts (slice_index row) c x (h.first k x b f apart)).fewer
        ] in
        goes-test (slice_index row) d x (record { fewer = omega (arith, le, lt); same = λ same. absurd (omega (arith, le, lt, same)) })
  ];
}

pub lowest-whole : (row : List ℕ) (set c : ℕ) → ((d : ℕ) → has set d ≡ true → d < ROOM) → IsLowest row set (length (members set)) c → (d : ℕ) →
    has set d ≡ true → d ≢ c → goes_before (slice_index row) c d ≡ true
lowest-whole row set c below h d t ne =
    let m : Member d (members set) = member-filter (has set) (candidates ROOM) (candidate-member d ROOM (below d t)) t in
    let (k, l, e) = member-got m in
    h.first k d l e ne

-- ---- those who share a tally
pub sharing-yes : (p : ℕ → Bool) (xs : List ℕ) (i c : ℕ) → slice_get xs i ≡ Some c → p c ≡ true → filter p (take (i + 1) xs) ≡ filter p (take i xs) ++ c ∷ []
sharing-yes p xs i c e t =
    let (l, at) = got xs i c e in
    ap (filter p) (take_more xs i 0 l ∙ ap (λ x. take i xs ++ x ∷ []) at) ∙ filter-append p (take i xs) (c ∷ [])
    ∙ ap (λ b. filter p (take i xs) ++ cond b (c ∷ []) []) t

pub sharing-no : (p : ℕ → Bool) (xs : List ℕ) (i c : ℕ) → slice_get xs i ≡ Some c → p c ≡ false → filter p (take (i + 1) xs) ≡ filter p (take i xs)
sharing-no p xs i c e t =
    let (l, at) = got xs i c e in
    ap (filter p) (take_more xs i 0 l ∙ ap (λ x. take i xs ++ x ∷ []) at) ∙ filter-append p (take i xs) (c ∷ [])
    ∙ ap (λ b. filter p (take i xs) ++ cond b (c ∷ []) []) t
    ∙ Rattle.std.proofs.lemmas.List.append-nil (filter p (take i xs))

member-take : (c : ℕ) (xs : List ℕ) (i : ℕ) → Member c (take i xs) → Member c xs
member-take c xs zero m = absurd (member_nil m)
member-take c [] (suc i) m = m
member-take c (x ∷ xs) (suc i) m = elim (member_cases m) [ inl e ↦ member_at e | inr r ↦ there (member-take c xs i r) ]

distinct-take : (xs : List ℕ) (i : ℕ) → Distinct xs → Distinct (take i xs)
distinct-take xs zero d = Rattle.irv_base.proofs.Distinct.none
distinct-take [] (suc i) d = d
distinct-take (x ∷ xs) (suc i) d = Rattle.irv_base.proofs.Distinct.more (λ m. distinct-head d (member-take x xs i m)) (distinct-take xs i (distinct-tail d))

later-out : (xs : List ℕ) (i c : ℕ) → Distinct xs → slice_get xs i ≡ Some c → Member c (take i xs) → ⊥
later-out xs zero c d e m = member_nil m
later-out [] (suc i) c d e m = member_nil m
later-out (x ∷ xs) (suc i) c d e m =
    elim (member_cases m) [
      | inl s ↦ let (l, at) = got xs i c e in
          distinct-head d (member-from_contains x xs (i, l, Rattle.std.proofs.lemmas.List.get_or_default xs i x 0 l ∙ at ∙ sym s))
      | inr r ↦ later-out xs i c (distinct-tail d) e r
    ]

pub members-apart : (set : ℕ) → Distinct (members set)
members-apart set = distinct_filter (has set) (candidates ROOM) (Rattle.irv_base.proofs.Distinct.distinct-range 0 ROOM)

-- the next one isn't in the set of those so far
pub new-share : (p : ℕ → Bool) (set i c tied : ℕ) → slice_get (members set) i ≡ Some c → tied ≡ set_of (filter p (take i (members set))) → has tied c ≡ false
new-share p set i c tied e at =
    let apart = distinct_filter p (take i (members set)) (distinct-take (members set) i (members-apart set)) in
    ap (λ s. has s c) at ∙ has-set_of (filter p (take i (members set))) c apart
    ∙ Rattle.irv_base.proofs.Members.out-from_none c (filter p (take i (members set)))
    (λ m. later-out (members set) i c (members-apart set) e (from_filter p (take i (members set)) m).0)

pub set-push : (xs : List ℕ) (c : ℕ) → set_of (xs ++ c ∷ []) ≡ set_of xs + 2 ^ c
set-push xs c = sum_by_push (λ d. 2 ^ d) xs c

-- ---- the row of a set
pub in-row : (records : List (List ℕ)) (n set c : ℕ) → c < n → slice_index (tallies records n set) c ≡ tally records set c
in-row records n set c l = get_or-map-range_with_len (tally records set) 0 n c c 0 l (omega arith)

filter-same : (p q : ℕ → Bool) (xs : List ℕ) → ((c : ℕ) → Member c xs → p c ≡ q c) → filter p xs ≡ filter q xs
filter-same p q [] h = refl
filter-same p q (x ∷ xs) h = ap₂ (λ b ys. cond b (x ∷ ys) ys) (h x here) (filter-same p q xs (λ c m. h c (there m)))

pub record Round (n : ℕ) (records : List (List ℕ)) (row : List ℕ) (set c : ℕ) : Type 0 where
  pub tallied : row ≡ tallies records n set
  pub rest : IsRest set (members set)
  pub below : (d : ℕ) → has set d ≡ true → d < n
  pub remains : has set c ≡ true
  pub first : (d : ℕ) → has set d ≡ true → d ≢ c → goes_before (slice_index row) c d ≡ true

module _ (n : ℕ) (records : List (List ℕ)) (row : List ℕ) (set c : ℕ) (r : Round n records row set c) where
  whole : set_of (members set) ≡ set
  whole = sym (set_of_is set (members set) r.rest.apart r.rest.same)

  value : (d : ℕ) → has set d ≡ true → slice_index row d ≡ tally records set d
  value d h = ap (λ xs. slice_index xs d) r.tallied ∙ in-row records n set d (r.below d h)

  fewest : (d : ℕ) → has set d ≡ true → slice_index row c ≤ slice_index row d
  fewest d h =
      elim (cases_eq d c) [
        | inl e ↦ let same = ap (slice_index row) e in omega (arith, same)
        | inr ne ↦ (goes-facts (slice_index row) c d (r.first d h ne)).fewer
      ]

  is-least : slice_index row c ≡ least_tally records (members set)
  is-least =
      let votes : ℕ → ℕ = tally records (set_of (members set)) in
      let m : Member c (members set) = member-from_in c (members set) (sym (r.rest.same c) ∙ r.remains) in
      let least-at : least (map votes (members set)) ≤ votes c = least-member (votes c) (map votes (members set)) (member-map votes m) in
      let (d, k, e) = from_map votes (least (map votes (members set))) (members set) (least_is (member-map votes m)) in
      let has-d : has set d ≡ true = r.rest.same d ∙ in-from_member k in
      let a : slice_index row c ≤ slice_index row d = fewest d has-d in
      let vc : slice_index row c ≡ votes c = value c r.remains ∙ ap (λ s. tally records s c) (sym whole) in
      let vd : slice_index row d ≡ votes d = value d has-d ∙ ap (λ s. tally records s d) (sym whole) in
      omega (arith, least-at, e, a, vc, vd)

  pub sharers : filter (λ d. slice_index row d == slice_index row c) (members set) ≡ sharing_least records (members set)
  sharers = filter-same (λ d. slice_index row d == slice_index row c) (λ d. tally records (set_of (members set)) d == least_tally records (members set))
      (members set)
      (λ d m. ap₂ (λ x y. x == y) (value d (r.rest.same d ∙ in-from_member m) ∙ ap (λ s. tally records s d) (sym whole)) is-least)

  -- those who share the smallest tally, however they are listed
  pub tied-of : (tied : ℕ) (rest : List ℕ) → IsRest set rest → tied ≡ set_of (filter (λ d. slice_index row d == slice_index row c) (members set)) →
      tied ≡ set_of (sharing_least records rest)
  tied-of tied rest s who =
      who ∙ ap set_of sharers ∙ shared-same records (members set) rest r.rest.apart s.apart
      (record {
        left = λ d m. member-from_in d rest (sym (s.same d) ∙ r.rest.same d ∙ in-from_member m);
        right = λ d m. member-from_in d (members set) (sym (r.rest.same d) ∙ s.same d ∙ in-from_member m);
      })

  pub loser : (less : ℕ) → IsWithout set c less → (rest : List ℕ) → IsRest less rest → loses records c rest ≡ true
  loser less w rest s =
      let more' = rest-more set c less rest w s in
      let set' : set_of (c ∷ rest) ≡ set = sym (set_of_is set (c ∷ rest) more'.apart more'.same) in
      goes-loser records c rest (λ d m.
      let ne : d ≢ c = λ e. distinct-head more'.apart (subst (λ x. Member x rest) e m) in
      let has-d : has set d ≡ true = more'.same d ∙ in-from_member (there m) in
      let g = goes-facts (slice_index row) c d (r.first d has-d ne) in
      let vc : tally records (set_of (c ∷ rest)) c ≡ slice_index row c = ap (λ s. tally records s c) set' ∙ sym (value c r.remains) in
      let vd : tally records (set_of (c ∷ rest)) d ≡ slice_index row d = ap (λ s. tally records s d) set' ∙ sym (value d has-d) in
      record { fewer = let le = g.fewer in omega (arith, vc, vd, le); same = λ e. g.same (omega (arith, vc, vd, e)) })
