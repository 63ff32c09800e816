-- The number of suffixes that a front expands.
use Rattle.std.proofs.Common.{◌≡◌, inl, inr, ℕ, zero, suc, ◌+◌, ◌-◌, ◌<◌, ◌≤◌, Bool, true, false, not, ◌&&◌, nat_lt, cond, min, List, [], ◌∷◌, ◌++◌, filter, flat_map, length, count_by, All, Contains, if◌then◌else◌, refl, sym, ap, subst, arith, lt-ltb, ltb-true, length-append, ◌⊎◌}
use Rattle.std.proofs.lemmas.Bool.{and_parts, and_from, cases_Bool, cases_lt}
use Rattle.std.proofs.lemmas.List.Sums.{sum_by-append, sum_by-cons, length-filter, count_by-le-length}
use Rattle.std.proofs.lemmas.List.Elements.{All-contains}
use Rattle.irv_base.specs.Candidates.{candidates, is_in}
use Rattle.irv_base.specs.Orders.{is_order, EndsIn}
use Rattle.irv_base.proofs.Members.{Member, here, there, member_cases, member-append_left, member-append_right, member-append_cases, from_filter, contains-from_member, member-from_contains}
use Rattle.irv_base.proofs.Distinct.{none, distinct-range}
use Rattle.irv_base.proofs.Orders.{order_facts}
use Rattle.assertions.specs.Suffixes.{is_suffix, suffixes_ending}
use Rattle.assertions.specs.Hardness.{low}
use Rattle.assertions.proofs.Endings.{Suffix, suffix_facts}
use Rattle.assertions.proofs.Enumerated.{suffix_test, from_suffixes_ending, suffixes_ending-member}
use Rattle.set_tallies.specs.Bags.{Kept, IsOf}
use Rattle.suffix_tree.specs.declared.scored.Scored.{Scored}
use Rattle.irv_base.specs.Names.{is_same}
use Rattle.bound_search.specs.Places.{EndsInOne, ends_in}
use Rattle.bound_search.specs.Fronts.{Frontier, IsPart, IsOpen, IsAfter, IsFront, IsClosed, AreBelow}
use Rattle.bound_search.specs.Race.{is_part_below, parts_below, suffixes_of}
use Rattle.bound_search.proofs.Endings.{low_in, same-self, ends-self, same-from, one_place, distinct-filter, order_is_suffix}
use Rattle.bound_search.proofs.Keeping.{open_low}

split : {X : Type 0} {x : X} {ys : List X} → Member x ys → (a : List X) × (b : List X) × (ys ≡ a ++ x ∷ b)
split (here {xs = xs}) = ([], xs, refl)
split (there {y = y} m) = let (a, b, e) = split m in (y ∷ a, b, ap (λ z. y ∷ z) e)

one_counted : {X : Type 0} (p : X → Bool) (x : X) (xs : List X) → count_by p (x ∷ xs) ≡ cond (p x) 1 0 + count_by p xs
one_counted p x xs = sum_by-cons (λ y. cond (p y) 1 0) x xs

some_counted : {X : Type 0} (p : X → Bool) {x : X} {xs : List X} → Member x xs → p x ≡ true → 1 ≤ count_by p xs
some_counted p {x} (here {xs = xs}) t = let e : cond (p x) 1 0 ≡ (let u : ℕ = 1 in u) = ap (λ b. cond b 1 0) t in omega (arith, one_counted p x xs, e)
some_counted p (there {y = y} {xs = xs} m) t = omega (arith, one_counted p y xs, some_counted p m t)

-- distinct lists, each among others that pass, are at most as many as these
pub no_more_than : (q : List ℕ → Bool) (xs ys : List (List ℕ)) → ((s : List ℕ) → count_by (is_same s) xs ≤ 1) →
    ((x : List ℕ) → Member x xs → Member x ys × (q x ≡ true)) → length xs ≤ count_by q ys
no_more_than q [] ys once h = omega arith
no_more_than q (x ∷ xs) ys once h =
    let (m, t) = h x here in
    let (a, b, e) = split m in
    let ih : length xs ≤ count_by q (a ++ b) = no_more_than q xs (a ++ b) (λ s. omega (arith, once s, one_counted (is_same s) x xs))
    (λ z k. (other a b e z k, (h z (there k)).1)) in
    let one : cond (q x) 1 0 ≡ (let u : ℕ = 1 in u) = ap (λ v. cond v 1 0) t in
    let whole : count_by q (a ++ x ∷ b) ≡ count_by q a + count_by q (x ∷ b) = sum_by-append (λ y. cond (q y) 1 0) a (x ∷ b) in
    let less : count_by q (a ++ b) ≡ count_by q a + count_by q b = sum_by-append (λ y. cond (q y) 1 0) a b in
    omega (arith, ih, one, whole, less, one_counted q x b, ap (count_by q) e)
  where
    other : (a b : List (List ℕ)) → ys ≡ a ++ x ∷ b → (z : List ℕ) → Member z xs → Member z (a ++ b)
    other a b e z k =
        elim (member-append_cases a (x ∷ b) (subst (Member z) e (h z (there k)).0)) [
          | inl l ↦ member-append_left b l
          | inr r ↦ elim (member_cases r) [
            | inl same ↦
                let twice : 1 ≤ count_by (is_same x) xs = some_counted (is_same x) (subst (λ w. Member w xs) (sym same) k) (same-self x) in
                let first : cond (is_same x x) 1 0 ≡ (let u : ℕ = 1 in u) = ap (λ v. cond v 1 0) (same-self x) in
                absurd (omega (arith, once x, one_counted (is_same x) x xs, twice, first))
            | inr r' ↦ member-append_right a r'
          ]
        ]

-- ---- each listed suffix appears there once
counted_flat : {X : Type 0} (p : X → Bool) (f : ℕ → List X) (q g : ℕ → Bool) → ((c : ℕ) → count_by p (f c) ≤ cond (q c && g c) 1 0) → (cs : List ℕ) →
    count_by p (flat_map f cs) ≤ count_by g (filter q cs)
counted_flat p f q g h [] = omega arith
counted_flat p f q g h (c ∷ cs) =
    let e : count_by p (f c ++ flat_map f cs) ≡ count_by p (f c) + count_by p (flat_map f cs) = sum_by-append (λ y. cond (p y) 1 0) (f c) (flat_map f cs) in
    omega (arith, e, counted_flat p f q g h cs, kept (q c) (h c))
  where
    kept : (b : Bool) → count_by p (f c) ≤ cond (b && g c) 1 0 →
        count_by p (f c) + count_by g (filter q cs) ≤ count_by g (cond b (c ∷ filter q cs) (filter q cs))
    kept true le = omega (arith, le, one_counted g c (filter q cs))
    kept false le = omega (arith, le)

pub listed_once : (n k : ℕ) (t s : List ℕ) → count_by (is_same s) (suffixes_ending n k t) ≤ cond (ends_in s t) 1 0
listed_once n zero t s = omega (arith, one_counted (is_same s) t [], one_place s t [] none)
listed_once n (suc k) t s =
    let rest = counted_flat (is_same s) (λ c. if is_in t c then [] else suffixes_ending n k (c ∷ t)) (λ c. not (is_in t c)) (λ c. ends_in s (c ∷ t))
    (λ c. below c (is_in t c) (listed_once n k (c ∷ t) s)) (candidates n) in
    let place = one_place s t (filter (λ c. not (is_in t c)) (candidates n)) (distinct-filter (λ c. not (is_in t c)) (distinct-range 0 n)) in
    omega (arith, one_counted (is_same s) t (flat_map (λ c. if is_in t c then [] else suffixes_ending n k (c ∷ t)) (candidates n)), rest, place)
  where
    below : (c : ℕ) (b : Bool) → count_by (is_same s) (suffixes_ending n k (c ∷ t)) ≤ cond (ends_in s (c ∷ t)) 1 0 →
        count_by (is_same s) (cond b [] (suffixes_ending n k (c ∷ t))) ≤ cond (not b && ends_in s (c ∷ t)) 1 0
    below c true le = omega arith
    below c false le = le

pub filter_counts : (p q : List ℕ → Bool) (xs : List (List ℕ)) → count_by p (filter q xs) ≤ count_by p xs
filter_counts p q [] = omega arith
filter_counts p q (x ∷ xs) = go (q x) (filter_counts p q xs) where
  go : (b : Bool) → count_by p (filter q xs) ≤ count_by p xs → count_by p (cond b (x ∷ filter q xs) (filter q xs)) ≤ count_by p (x ∷ xs)
  go true le = omega (arith, le, one_counted p x (filter q xs), one_counted p x xs)
  go false le = omega (arith, le, one_counted p x xs)

pub at_most_one : (b : Bool) → cond b 1 0 ≤ 1
at_most_one true = omega arith
at_most_one false = omega arith

-- ---- what a front has expanded
part_listed : (n : ℕ) (piece x : List ℕ) → IsPart n piece x → Member x (suffixes_of n piece)
part_listed n piece x p =
    let (before, e) = p.inside in
    let s : Suffix n (before ++ piece) = subst (Suffix n) e (suffix_facts n x p.proper) in
    let few : length before ≤ n - length piece = omega (arith, p.short, ap length e, length-append before piece) in
    subst (λ y. Member y (suffixes_of n piece)) (sym e) (suffixes_ending-member n (n - length piece) before piece s few)

pub most_below : (bag : Kept) (records : List (List ℕ)) (done : List (List ℕ)) (limit : ℕ) (f : Frontier) → IsAfter bag done f →
    All (λ s. low bag.n records s < limit) done →
    f.expanded ≤ parts_below bag.n records limit f.piece.list
most_below bag records done limit f k below =
    subst (λ x. x ≤ count_by (is_part_below bag.n records limit) (suffixes_of bag.n f.piece.list)) k.count
    (no_more_than (is_part_below bag.n records limit) done (suffixes_of bag.n f.piece.list) (λ s. omega (arith, k.once s)) (λ x m.
    let c = contains-from_member m in
    let p : IsPart bag.n f.piece.list x = All-contains (IsPart bag.n f.piece.list) done x k.parts c in
    let e : low bag.n records x < limit = All-contains (λ s. low bag.n records s < limit) done x below c in (
      part_listed bag.n f.piece.list x p,
      and_from (nat_lt (length x) bag.n) (nat_lt (low bag.n records x) limit) (lt-ltb (length x) bag.n p.short) (lt-ltb (low bag.n records x) limit e),
    )))

pub most_expanded : (bag : Kept) (records : List (List ℕ)) (done : List (List ℕ)) (limit : ℕ) (f : Frontier) → IsOf bag records → IsAfter bag done f →
    AreBelow bag limit done →
    f.expanded ≤ parts_below bag.n records limit f.piece.list
most_expanded bag records done limit f of k below = most_below bag records done limit f k (below records of)

pub least_expanded : (bag : Kept) (records : List (List ℕ)) (f : Frontier) → IsOf bag records → is_suffix bag.n f.piece.list ≡ true → IsFront bag f →
    IsClosed f →
    count_by (is_part_below bag.n records (min f.bound f.least)) (suffixes_of bag.n f.piece.list) ≤ f.expanded
least_expanded bag records f of piece (done, k) closed =
    let q : List ℕ → Bool = is_part_below bag.n records (min f.bound f.least) in
    let parts : List (List ℕ) = suffixes_of bag.n f.piece.list in
    let few : length (filter q parts) ≤ count_by (λ s. true) done =
    no_more_than (λ s. true) (filter q parts) done
    (λ s. omega (
      arith,
      filter_counts (is_same s) q parts,
      listed_once bag.n (bag.n - length f.piece.list) f.piece.list s,
      at_most_one (ends_in s f.piece.list),
    ))
    (λ x m. (expanded x m, refl)) in
    omega (arith, few, length-filter q parts, count_by-le-length (λ (s : List ℕ). true) done, k.count)
  where
    expanded : (x : List ℕ) → Member x (filter (is_part_below bag.n records (min f.bound f.least)) (suffixes_of bag.n f.piece.list)) → Member x done
    expanded x m =
        let (m', t) = from_filter (is_part_below bag.n records (min f.bound f.least)) (suffixes_of bag.n f.piece.list) m in
        let (short, below) = and_parts (nat_lt (length x) bag.n) (nat_lt (low bag.n records x) (min f.bound f.least)) t in
        let l : low bag.n records x < min f.bound f.least = ltb-true (low bag.n records x) (min f.bound f.least) below in
        let longer = from_suffixes_ending bag.n (bag.n - length f.piece.list) f.piece.list x (suffix_facts bag.n f.piece.list piece) m' in
        let proper : is_suffix bag.n x ≡ true = suffix_test longer.suffix in
        elim (k.covers records of x proper (longer.before, longer.split) (omega (arith, l)) (omega (arith, l))) [
          | inl d ↦ member-from_contains x done d
          | inr (o, open_one, ends) ↦
              let e = open_low bag f.piece.list o (All-contains (IsOpen bag f.piece.list) f.suffixes o k.each open_one) records of in
              let up : f.bound ≤ o.low = All-contains (λ (o : Scored). f.bound ≤ o.low) f.suffixes o closed open_one in
              let le = low_in bag.n records x o.tail.list proper ends in
              absurd (omega (arith, e, up, le, l))
        ]

-- an order of the piece below both the bound and the smallest margin found ends in an open suffix
pub orders_stay_open : (bag : Kept) (records : List (List ℕ)) (f : Frontier) → IsOf bag records → IsFront bag f → (s : List ℕ) → is_order bag.n s ≡ true →
    EndsIn s f.piece.list →
    low bag.n records s < f.bound → low bag.n records s < f.least → EndsInOne f.suffixes s
orders_stay_open bag records f of (done, k) s h inside l m =
    elim (k.covers records of s (order_is_suffix bag.n s h) inside l m) [
      | inl d ↦
          let p : IsPart bag.n f.piece.list s = All-contains (IsPart bag.n f.piece.list) done s k.parts d in
          absurd (omega (arith, p.short, (order_facts bag.n s h).long))
      | inr o ↦ o
    ]

-- if no open suffix is below the bound, no order of the piece is below both the bound and the smallest margin found
pub closed_above : (bag : Kept) (records : List (List ℕ)) (f : Frontier) → IsOf bag records → IsFront bag f → IsClosed f → (s : List ℕ) →
    is_order bag.n s ≡ true → EndsIn s f.piece.list →
    (f.bound ≤ low bag.n records s) ⊎ (f.least ≤ low bag.n records s)
closed_above bag records f of (done, k) closed s h inside =
    elim (cases_lt (low bag.n records s) f.bound) [
      | inr le ↦ inl le
      | inl l ↦ elim (cases_lt (low bag.n records s) f.least) [
        | inr le ↦ inr le
        | inl m ↦
            let (o, open_one, ends) = orders_stay_open bag records f of (done, k) s h inside l m in
            let e = open_low bag f.piece.list o (All-contains (IsOpen bag f.piece.list) f.suffixes o k.each open_one) records of in
            let up : f.bound ≤ o.low = All-contains (λ (o : Scored). f.bound ≤ o.low) f.suffixes o closed open_one in
            let le = low_in bag.n records s o.tail.list (order_is_suffix bag.n s h) ends in
            absurd (omega (arith, e, up, le, l))
      ]
    ]

-- ---- if a suffix below the limit that isn't a whole order is left, there is one more than were expanded
module _ (bag : Kept) (records : List (List ℕ)) (done : List (List ℕ)) (limit : ℕ) (f : Frontier) (one : Scored) (of : IsOf bag records)
    (k : IsAfter bag done f) where
  -- the suffix that is left ends in an open suffix, itself
  left_once : Contains f.suffixes one → (s : List ℕ) → count_by (is_same s) (one.tail.list ∷ done) ≤ 1
  left_once still s =
      elim (cases_Bool (is_same s one.tail.list)) [
        | inl yes' ↦
            let e = same-from s one.tail.list yes' in
            let ends : ends_in s one.tail.list ≡ true = subst (λ x. ends_in x one.tail.list ≡ true) (sym e) (ends-self one.tail.list) in
            let some : 1 ≤ count_by (λ o. ends_in s o.tail.list) f.suffixes =
            some_counted (λ (o : Scored). ends_in s o.tail.list) (member-from_contains one f.suffixes still) ends in
            omega (arith, some, k.once s, one_counted (is_same s) one.tail.list done, at_most_one (is_same s one.tail.list))
        | inr f' ↦
            let z : cond (is_same s one.tail.list) 1 0 ≡ (let u : ℕ = 0 in u) = ap (λ v. cond v 1 0) f' in
            omega (arith, z, k.once s, one_counted (is_same s) one.tail.list done)
      ]

  listed_below : (x : List ℕ) → IsPart bag.n f.piece.list x → low bag.n records x < limit →
      Member x (suffixes_of bag.n f.piece.list) × (is_part_below bag.n records limit x ≡ true)
  listed_below x p e = (
    part_listed bag.n f.piece.list x p,
    and_from (nat_lt (length x) bag.n) (nat_lt (low bag.n records x) limit) (lt-ltb (length x) bag.n p.short) (lt-ltb (low bag.n records x) limit e),
  )

  pub one_more : All (λ s. low bag.n records s < limit) done → Contains f.suffixes one → length one.tail.list < bag.n → one.low < limit →
      f.expanded < parts_below bag.n records limit f.piece.list
  one_more below still short lower =
      let t : List ℕ = one.tail.list in
      let o : IsOpen bag f.piece.list one = All-contains (IsOpen bag f.piece.list) f.suffixes one k.each still in
      let low_one : low bag.n records t < limit = omega (arith, lower, open_low bag f.piece.list one o records of) in
      let part : IsPart bag.n f.piece.list t = record { proper = o.proper; inside = o.inside; short = short } in
      let all : length (t ∷ done) ≤ parts_below bag.n records limit f.piece.list =
      no_more_than (is_part_below bag.n records limit) (t ∷ done) (suffixes_of bag.n f.piece.list) (left_once still) (λ x m. elim (member_cases m) [
        | inl e ↦ subst (λ (y : List ℕ). Member y (suffixes_of bag.n f.piece.list) × (is_part_below bag.n records limit y ≡ true)) e
            (listed_below t part low_one)
        | inr m' ↦
            let d = contains-from_member m' in
            listed_below x (All-contains (IsPart bag.n f.piece.list) done x k.parts d) (All-contains (λ s. low bag.n records s < limit) done x below d)
      ]) in
      omega (arith, all, k.count)
