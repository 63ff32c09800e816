-- What the rounds so far say about every way to continue.
use Rattle.std.proofs.Common.{◌==◌, ◌≡◌, ◌≢◌, ℕ, zero, suc, ◌+◌, ◌-◌, ◌<◌, ◌≤◌, ◌^◌, Bool, true, false, not, cond, ◌&&◌, ◌||◌, nat_lt, nat_le, inl, inr, List, [], ◌∷◌, ◌++◌, Option, Some, length, take, drop, filter, get_or, set, slice_get, slice_index, refl, sym, ap, subst, arith, eq-eqb, ne_eqb, eqb-true, lt-ltb, ltb-true, length-append, append_assoc, ◌∙◌}
use Rattle.std.proofs.lemmas.Bool.{cases_Bool, cases_eq, both_ways, and_parts, and_from}
use Rattle.std.proofs.lemmas.List.{take_more_set}
use Rattle.irv_base.specs.Candidates.{candidates, has, is_in, members}
use Rattle.irv_base.specs.Orders.{is_order, Refuses}
use Rattle.irv_base.specs.declared.order.BadOrder.{BadOrder}
use Rattle.irv_base.specs.declared.order.BadOrder.TheVariants.{Length, Range, Repeated}
use Rattle.irv_base.specs.declared.limits.TheConstants.{ROOM}
use Rattle.irv_base.specs.Tabulation.{is_tabulated, loses}
use Rattle.irv_base.proofs.Members.{Member, here, there, member_cases, member_nil, member-filter, from_filter, member-from_in, in-from_member, out-from_none, none-from_out, from_candidates, candidate-member, member-from_contains, member_at, member-append_right}
use Rattle.irv_base.proofs.Distinct.{Distinct, none, more, distinct-head, distinct-tail, distinct-le, distinct-range, length-range, distinct-split}
use Rattle.irv_base.proofs.Sets.{set_of_is, set_of-lt}
use Rattle.irv_base.proofs.Orders.{order_facts, order_test}

-- a list of the members of a set, each once
pub record IsRest (set : ℕ) (rest : List ℕ) : Type 0 where
  pub apart : Distinct rest
  pub same : (c : ℕ) → has set c ≡ is_in rest c

pub record Shape (n : ℕ) (done : List ℕ) (set : ℕ) : Type 0 where
  pub order : (rest : List ℕ) → IsRest set rest → is_order n (done ++ rest) ≡ true
  pub below : (c : ℕ) → has set c ≡ true → c < n

abbrev pub Rounds : List (List ℕ) → List ℕ → ℕ → Type 0
Rounds records done set = (rest : List ℕ) → IsRest set rest → is_tabulated records rest ≡ true → is_tabulated records (done ++ rest) ≡ true

-- ---- the members in increasing order
pub distinct_filter : (p : ℕ → Bool) (xs : List ℕ) → Distinct xs → Distinct (filter p xs)
distinct_filter p [] d = none
distinct_filter p (x ∷ xs) d = kept (p x) (distinct_filter p xs (distinct-tail d)) where
  kept : (b : Bool) → Distinct (filter p xs) → Distinct (cond b (x ∷ filter p xs) (filter p xs))
  kept true k = more (λ m. distinct-head d (from_filter p xs m).0) k
  kept false k = k

pub members-rest : (n set : ℕ) → n ≤ ROOM → ((c : ℕ) → has set c ≡ true → c < n) → IsRest set (members set)
members-rest n set room below = record {
  apart = distinct_filter (has set) (candidates ROOM) (distinct-range 0 ROOM);
  same = λ c. elim (cases_Bool (has set c)) [
    | inl t ↦ let l : c < n = below c t in t ∙ sym (in-from_member (member-filter (has set) (candidates ROOM) (candidate-member c ROOM (omega arith)) t))
    | inr f ↦ f ∙ sym (out-from_none c (members set) (λ m. both_ways (has set c) f (from_filter (has set) (candidates ROOM) m).1))
  ];
}

pub set-below : (n set : ℕ) → n ≤ ROOM → ((c : ℕ) → has set c ≡ true → c < n) → set < 2 ^ n
set-below n set room below =
    let r = members-rest n set room below in
    subst (λ s. s < 2 ^ n) (sym (set_of_is set (members set) r.apart r.same)) (set_of-lt n (members set) r.apart (λ c m. below c (r.same c ∙ in-from_member m)))

-- ---- at the start
pub first-shape : (n set : ℕ) → ((c : ℕ) → has set c ≡ nat_lt c n) → Shape n [] set
first-shape n set all = record {
  below = λ c h. ltb-true c n (sym (all c) ∙ h);
  order = λ rest r.
      let inside : (c : ℕ) → Member c rest → c < n = λ c m. ltb-true c n (sym (all c) ∙ r.same c ∙ in-from_member m) in
      let here' : (c : ℕ) → Member c (candidates n) → Member c rest = λ c m. member-from_in c rest (sym (r.same c) ∙ all c ∙ lt-ltb c n (from_candidates m)) in
      let most : length rest ≤ length (candidates n) = distinct-le rest (candidates n) r.apart (λ c m. candidate-member c n (inside c m)) in
      let least : length (candidates n) ≤ length rest = distinct-le (candidates n) rest (distinct-range 0 n) here' in
      order_test n rest (omega (arith, most, least, length-range 0 n)) r.apart inside;
}

pub first-rounds : (records : List (List ℕ)) (set : ℕ) → Rounds records [] set
first-rounds records set rest r h = h

-- ---- one more candidate is eliminated
pub record IsWithout (set c less : ℕ) : Type 0 where
  pub was : has set c ≡ true
  pub others : (d : ℕ) → has less d ≡ (has set d && not (d == c))

and-no : (b : Bool) → (b && false) ≡ false
and-no true = refl
and-no false = refl

and-yes : (b : Bool) → (b && true) ≡ b
and-yes true = refl
and-yes false = refl

pub gone : (set c less : ℕ) → IsWithout set c less → has less c ≡ false
gone set c less w = w.others c ∙ ap (λ b. has set c && not b) (eq-eqb c c refl) ∙ and-no (has set c)

pub stays : (set c less d : ℕ) → IsWithout set c less → d ≢ c → has less d ≡ has set d
stays set c less d w ne = w.others d ∙ ap (λ b. has set d && not b) (ne_eqb d c ne) ∙ and-yes (has set d)

pub rest-more : (set c less : ℕ) (rest : List ℕ) → IsWithout set c less → IsRest less rest → IsRest set (c ∷ rest)
rest-more set c less rest w r = record {
  apart = more (none-from_out (sym (r.same c) ∙ gone set c less w)) r.apart;
  same = λ d. elim (cases_eq d c) [
    | inl e ↦ ap (has set) e ∙ w.was ∙ sym (in-from_member (Rattle.irv_base.proofs.Members.member_at (sym e)))
    | inr ne ↦ sym (stays set c less d w ne) ∙ r.same d ∙ sym (ap (λ b. b || is_in rest d) (ne_eqb c d (λ e. ne (sym e))))
  ];
}

pub shape-more : (n : ℕ) (done : List ℕ) (set c less : ℕ) → IsWithout set c less → Shape n done set → Shape n (done ++ c ∷ []) less
shape-more n done set c less w s = record {
  order = λ rest r. ap (is_order n) (append_assoc done (c ∷ []) rest) ∙ s.order (c ∷ rest) (rest-more set c less rest w r);
  below = λ d h. s.below d (and_parts (has set d) (not (d == c)) (sym (w.others d) ∙ h)).0;
}

pub rounds-more : (records : List (List ℕ)) (done : List ℕ) (set c less : ℕ) → IsWithout set c less →
    ((rest : List ℕ) → IsRest less rest → loses records c rest ≡ true) →
    Rounds records done set → Rounds records (done ++ c ∷ []) less
rounds-more records done set c less w loser s rest r h =
    ap (is_tabulated records) (append_assoc done (c ∷ []) rest)
    ∙ s (c ∷ rest) (rest-more set c less rest w r) (and_from (loses records c rest) (is_tabulated records rest) (loser rest r) h)

-- ---- the number of candidates who remain
pub remaining : (n : ℕ) (done : List ℕ) (set : ℕ) → n ≤ ROOM → Shape n done set → length done + length (members set) ≡ n
remaining n done set room s =
    let r = members-rest n set room s.below in
    sym (length-append done (members set)) ∙ (order_facts n (done ++ members set) (s.order (members set) r)).long

pub drop-done : (done rest : List ℕ) → drop (length done) (done ++ rest) ≡ rest
drop-done [] rest = refl
drop-done (c ∷ done) rest = drop-done done rest

-- ---- where the eliminated are kept
pub take-long : (k : ℕ) (xs : List ℕ) → k ≤ length xs → length (take k xs) ≡ k
take-long zero xs l = refl
take-long (suc k) [] l = absurd (omega arith)
take-long (suc k) (x ∷ xs) l = ap suc (take-long k xs (omega arith))

pub place-more : (places : List ℕ) (round c : ℕ) → 1 ≤ round → round ≤ ROOM → length places ≡ ROOM →
    take (round + 1 - 1) (set places (round - 1) c) ≡ take (round - 1) places ++ c ∷ []
place-more places round c some few wide = ap (λ k. take k (set places (round - 1) c)) (omega arith) ∙ take_more_set places (round - 1) c (omega arith)

pub place-last : (places : List ℕ) (n c : ℕ) → 1 ≤ n → n ≤ ROOM → length places ≡ ROOM → take n (set places (n - 1) c) ≡ take (n - 1) places ++ c ∷ []
place-last places n c some few wide = ap (λ k. take k (set places (n - 1) c)) (omega arith) ∙ take_more_set places (n - 1) c (omega arith)

-- ---- the last one
single : (xs : List ℕ) (w : ℕ) → length xs ≡ 1 → slice_get xs 0 ≡ Some w → xs ≡ w ∷ []
single [] w l e = absurd (omega arith)
single (x ∷ []) w l e = let s : x ≡ w = cc in ap (λ y. y ∷ []) s
single (x ∷ y ∷ xs) w l e = absurd (omega arith)

pub last-one : (n : ℕ) (done : List ℕ) (set w : ℕ) → n ≤ ROOM → Shape n done set → length done + 1 ≡ n → slice_get (members set) 0 ≡ Some w →
    IsRest set (w ∷ [])
last-one n done set w room s long e =
    let one : length (members set) ≡ 1 = omega (arith, remaining n done set room s, long) in
    subst (IsRest set) (single (members set) w one e) (members-rest n set room s.below)

-- an order is never refused
pub not-refused : (n : ℕ) (list : List ℕ) (fault : BadOrder) → is_order n list ≡ true → Refuses n list fault → ⊥
not-refused n list (Length found) o r = r.1 (order_facts n list o).long
not-refused n list (Range i) o r =
    let f = order_facts n list o in
    let l : i < length list = omega (arith, f.long, r.0.within) in
    let m : Member (slice_index list i) list = member-from_contains (slice_index list i) list
    (i, l, Rattle.std.proofs.lemmas.List.get_or_default list i (slice_index list i) 0 l) in
    both_ways (nat_lt (slice_index list i) n) r.1 (lt-ltb (slice_index list i) n (f.below (slice_index list i) m))
not-refused n list (Repeated i) o r =
    let f = order_facts n list o in
    let l : i < length list = omega (arith, f.long, r.0.within) in
    let split : list ≡ take i list ++ slice_index list i ∷ drop (i + 1) list = sym (Rattle.std.proofs.Common.take-append-drop i list)
    ∙ ap (λ ys. take i list ++ ys) (Rattle.std.proofs.lemmas.List.drop_more list i 0 l) in
    (distinct-split (take i list) (slice_index list i) (drop (i + 1) list) (subst Distinct split f.apart)).1
    (member-from_in (slice_index list i) (take i list) r.2)
