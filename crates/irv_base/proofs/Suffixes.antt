-- Suffixes, and the arrays in which they are stored.
use Rattle.std.proofs.Common.{◌≡◌, ℕ, zero, suc, ◌+◌, ◌-◌, ◌^◌, ◌<◌, ◌≤◌, true, false, not, nat_lt, List, [], ◌∷◌, ◌++◌, length, take, drop, set, get_or, replicate, refl, inl, inr, sym, ap, subst, arith, lt-ltb, ltb-true, length-append, ◌∙◌}
use Rattle.std.specs.List.{list_all}
use Rattle.std.proofs.lemmas.List.{length-replicate}
use Rattle.std.proofs.lemmas.Bool.{and_parts, and_from, both_ways, not_from_false, not-true}
use Rattle.irv_base.specs.Candidates.{candidates, is_in, is_distinct, set_of, has}
use Rattle.irv_base.specs.Orders.{is_in_range, is_order, is_repeated, Refuses}
use Rattle.irv_base.specs.Suffixes.{is_suffix}
use Rattle.irv_base.specs.Places.{IsSuffix}
use Rattle.irv_base.specs.declared.limits.TheConstants.{ROOM}
use Rattle.irv_base.specs.declared.order.BadOrder.{BadOrder}
use Rattle.irv_base.specs.declared.order.BadOrder.TheVariants.{Length, Range, Repeated}
use Rattle.irv_base.proofs.Members.{Member, here, there, member_cases, candidate-member, out-from_none, none-from_out}
use Rattle.irv_base.proofs.Distinct.{Distinct, distinct-head, distinct-tail, distinct-from_test, below-from_test, distinct-le, length-range}
use Rattle.irv_base.proofs.Orders.{order_facts, order_test}
use Rattle.irv_base.proofs.Padded.{room-for_more, set-end}
use Rattle.irv_base.proofs.Sets.{set_of-cons, has-set_of, set_of-lt}

-- ---- suffixes of orders of n candidates
pub suffix-distinct : (n : ℕ) (t : List ℕ) → is_suffix n t ≡ true → Distinct t
suffix-distinct n t h = distinct-from_test t (and_parts (is_distinct t) (list_all (λ c. nat_lt c n) t) h).0

pub suffix-below : (n : ℕ) (t : List ℕ) → is_suffix n t ≡ true → list_all (λ c. nat_lt c n) t ≡ true
suffix-below n t h = (and_parts (is_distinct t) (list_all (λ c. nat_lt c n) t) h).1

pub suffix_more : (n c : ℕ) (t : List ℕ) → c < n → is_in t c ≡ false → is_suffix n t ≡ true → is_suffix n (c ∷ t) ≡ true
suffix_more n c t l out h =
    let (d, b) = and_parts (is_distinct t) (list_all (λ c. nat_lt c n) t) h in
    and_from (is_distinct (c ∷ t)) (list_all (λ c. nat_lt c n) (c ∷ t))
    (and_from (not (is_in t c)) (is_distinct t) (not_from_false (is_in t c) out) d)
    (and_from (nat_lt c n) (list_all (λ c. nat_lt c n) t) (lt-ltb c n l) b)

-- the first candidate of a suffix, and those after it
pub suffix-head : (n c : ℕ) (t : List ℕ) → is_suffix n (c ∷ t) ≡ true → (c < n) × (is_in t c ≡ false)
suffix-head n c t h =
    let (d, b) = and_parts (is_distinct (c ∷ t)) (list_all (λ c. nat_lt c n) (c ∷ t)) h in (
      ltb-true c n (and_parts (nat_lt c n) (list_all (λ c. nat_lt c n) t) b).0,
      not-true (is_in t c) (and_parts (not (is_in t c)) (is_distinct t) d).0,
    )

pub suffix-rest : (n c : ℕ) (t : List ℕ) → is_suffix n (c ∷ t) ≡ true → is_suffix n t ≡ true
suffix-rest n c t h =
    let (d, b) = and_parts (is_distinct (c ∷ t)) (list_all (λ c. nat_lt c n) (c ∷ t)) h in
    and_from (is_distinct t) (list_all (λ c. nat_lt c n) t)
    (and_parts (not (is_in t c)) (is_distinct t) d).1 (and_parts (nat_lt c n) (list_all (λ c. nat_lt c n) t) b).1

pub suffix-short : (n : ℕ) (t : List ℕ) → is_suffix n t ≡ true → length t ≤ n
suffix-short n t h =
    let below : (z : ℕ) → Member z t → z < n = below-from_test n t (suffix-below n t h) in
    let le = distinct-le t (candidates n) (suffix-distinct n t h) (λ z m. candidate-member z n (below z m)) in
    omega (arith, le, length-range 0 n)

pub suffix-has : (n : ℕ) (t : List ℕ) (c : ℕ) → is_suffix n t ≡ true → has (set_of t) c ≡ is_in t c
suffix-has n t c h = has-set_of t c (suffix-distinct n t h)

pub suffix-set : (n : ℕ) (t : List ℕ) → is_suffix n t ≡ true → set_of t < 2 ^ n
suffix-set n t h = set_of-lt n t (suffix-distinct n t h) (below-from_test n t (suffix-below n t h))

-- a suffix of all candidates is an order
pub suffix_whole : (n : ℕ) (t : List ℕ) → is_suffix n t ≡ true → length t ≡ n → is_order n t ≡ true
suffix_whole n t h long = order_test n t long (suffix-distinct n t h) (below-from_test n t (suffix-below n t h))

-- ---- in an array
zero-end : (n : ℕ) (t : List ℕ) → replicate (suc n) 0 ++ t ≡ replicate n 0 ++ 0 ∷ t
zero-end zero t = refl
zero-end (suc n) t = ap (λ s. 0 ∷ s) (zero-end n t)

drop-zeros : (n : ℕ) (t : List ℕ) → drop n (replicate n 0 ++ t) ≡ t
drop-zeros zero t = refl
drop-zeros (suc n) t = drop-zeros n t

pub suffix-long : (start set : ℕ) (places now : List ℕ) → IsSuffix start places set → drop start places ≡ now → start + length now ≡ ROOM
suffix-long start set places now s same = omega (arith, s.few, s.long, ap length same)

-- ---- one more candidate in front
suffix-proper : (start mask : ℕ) (places now : List ℕ) → IsSuffix start places mask → drop start places ≡ now → is_suffix ROOM now ≡ true
suffix-proper start mask places now s same = ap (is_suffix ROOM) (sym same) ∙ s.proper

pub room_before : (start mask c : ℕ) (places now : List ℕ) → IsSuffix start places mask → drop start places ≡ now → c < ROOM → is_in now c ≡ false → 1 ≤ start
room_before start mask c places now s same below out =
    let proper : is_suffix ROOM now ≡ true = suffix-proper start mask places now s same in
    let all_below : (d : ℕ) → Member d now → d < ROOM = below-from_test ROOM now (suffix-below ROOM now proper) in
    let room : length now < ROOM = room-for_more ROOM c now (suffix-distinct ROOM now proper) all_below (none-from_out out) below in
    omega (arith, suffix-long start mask places now s same, room)

pub record Front (start c more : ℕ) (places now : List ℕ) : Type 0 where
  pub list : drop (start - 1) (set places (start - 1) c) ≡ c ∷ now
  pub suffix : IsSuffix (start - 1) (set places (start - 1) c) more

pub put_before : (start mask c more : ℕ) (places now : List ℕ) → IsSuffix start places mask → drop start places ≡ now → c < ROOM → is_in now c ≡ false →
    (has mask c ≡ false → more ≡ mask + 2 ^ c) → Front start c more places now
put_before start mask c more places now s same below out number = record {
  list = list;
  suffix = record {
    few = omega (arith, ap length list, long, some);
    long = omega (arith, ap length list, long, some);
    padded = filled ∙ ap (λ t. replicate (start - 1) 0 ++ t) (sym list);
    proper = ap (is_suffix ROOM) list ∙ suffix_more ROOM c now below out proper;
    members = all ∙ sym (ap set_of list);
  };
}
  where
    proper : is_suffix ROOM now ≡ true
    proper = suffix-proper start mask places now s same

    long : start + length now ≡ ROOM
    long = suffix-long start mask places now s same

    some : 1 ≤ start
    some = room_before start mask c places now s same below out

    filled : set places (start - 1) c ≡ replicate (start - 1) 0 ++ c ∷ now
    filled =
        let next : start ≡ suc (start - 1) = omega (arith, some) in
        let before : places ≡ replicate (start - 1) 0 ++ 0 ∷ now =
        s.padded ∙ ap (λ t. replicate start 0 ++ t) same ∙ ap (λ k. replicate k 0 ++ now) next ∙ zero-end (start - 1) now in
        ap (λ xs. set xs (start - 1) c) before ∙ set-end (replicate (start - 1) 0) now (start - 1) 0 c (length-replicate {A = ℕ} (start - 1) 0)

    list : drop (start - 1) (set places (start - 1) c) ≡ c ∷ now
    list = ap (drop (start - 1)) filled ∙ drop-zeros (start - 1) (c ∷ now)

    all : more ≡ set_of (c ∷ now)
    all =
        let mask_is : mask ≡ set_of now = s.members ∙ ap set_of same in
        let absent : has mask c ≡ false = ap (λ m. has m c) mask_is ∙ suffix-has ROOM now c proper ∙ out in
        omega (arith, number absent, mask_is, set_of-cons c now)

-- ---- an order is never refused
at-member : (xs : List ℕ) (i : ℕ) → i < length xs → Member (get_or xs i 0) xs
at-member [] i l = absurd (omega arith)
at-member (x ∷ xs) zero l = here
at-member (x ∷ xs) (suc i) l = there (at-member xs i (omega arith))

not_repeated : (xs : List ℕ) (i : ℕ) → Distinct xs → i < length xs → is_in (take i xs) (get_or xs i 0) ≡ false
not_repeated [] i d l = absurd (omega arith)
not_repeated (x ∷ xs) zero d l = refl
not_repeated (x ∷ xs) (suc i) d l =
    let inside : Member (get_or xs i 0) xs = at-member xs i (omega arith) in
    let later : is_in (take i xs) (get_or xs i 0) ≡ false = not_repeated xs i (distinct-tail d) (omega arith) in
    out-from_none (get_or xs i 0) (x ∷ take i xs)
    (λ m. elim (member_cases m) [ inl e ↦ distinct-head d (subst (λ y. Member y xs) (sym e) inside) | inr r ↦ none-from_out later r ])

pub never-refused : (n : ℕ) (list : List ℕ) (bad : BadOrder) → is_order n list ≡ true → Refuses n list bad → ⊥
never-refused n list (Length found) h r = r.1 (order_facts n list h).long
never-refused n list (Range i) h r =
    let o = order_facts n list h in
    let l : i < length list = omega (arith, r.0.within, o.long) in
    both_ways (is_in_range n list i) r.1 (lt-ltb (get_or list i 0) n (o.below (get_or list i 0) (at-member list i l)))
never-refused n list (Repeated i) h r =
    let o = order_facts n list h in
    both_ways (is_repeated list i) (not_repeated list i o.apart (omega (arith, r.0.within, o.long))) r.2
