-- The tables of two shares, added.
use Rattle.std.proofs.Common.{◌≡◌, ℕ, zero, suc, ◌+◌, ◌*◌, ◌/◌, ◌%◌, ◌^◌, ◌<◌, ◌≤◌, Bool, true, false, cond, List, ◌∷◌, ◌++◌, length, map, take, get_or, sum_by, count_by, drop, Some, Result, Vec, Global, IfOk, refl, sym, ap, ap₂, subst, arith, length-append, ◌∙◌}
use Rattle.std.specs.Fork.{slice_chunk}
use Rattle.std.specs.List.{slice_get}
use Rattle.std.proofs.Math.Nat.{add-mul, zero-mul}
use Rattle.std.proofs.Math.Seq.{get_or-append_seam}
use Rattle.std.proofs.lemmas.List.{take_all, take-take, drop-take, take-append-drop, get_or-drop, length-drop}
use Rattle.std.proofs.lemmas.Option.{get_or_from_slice_get, slice_get_within}
use Rattle.std.proofs.lemmas.List.FromFn.{get_or-map-range_with_len, length-map-range_with_len}
use Rattle.std.proofs.lemmas.List.Sums.{count_by-le-length, sum_by-append, sum_by_more}
use Rattle.irv_base.specs.Candidates.{candidates}
use Rattle.irv_base.specs.declared.memory.Memory.{Memory}
use Rattle.set_tallies.specs.Bags.{misses}
use Rattle.set_tallies.specs.Befores.{has_missed}
use Rattle.set_tallies.specs.Shares.{AreShares}
use Rattle.set_tallies.specs.Sums.{column, apart, IsCountOf}
use Rattle.set_tallies.proofs.Apart.{at, place-le}
use Rattle.set_tallies.proofs.Columns.{place-at, place-below, column-at, column-long}
use Rattle.set_tallies.proofs.Totals.{total-plus}

-- no ballot is counted twice at one place
pub number-le : (n : ℕ) (rankings : List (List ℕ)) (table : List ℕ) → IsCountOf n rankings table → (i : ℕ) → i < length table →
    get_or table i 0 ≤ length rankings
number-le n rankings table is i l =
    let inside : i < n * 2 ^ n = omega (arith, l, is.long) in
    let there = place-at n n table i (some n inside) inside in
    let c : ℕ = i % n in
    omega (
      arith,
      sym there.2,
      place-le (column n n table c) (i / n) (omega (arith, there.1, column-long n n table c)),
      is.says 0 c there.0,
      count_by-le-length (has_missed 0 c) rankings,
    )
  where
    some : (n : ℕ) → i < n * 2 ^ n → 1 ≤ n
    some zero m = absurd (omega arith)
    some (suc n) m = omega arith

module _ (n : ℕ) (xs ys : List (List ℕ)) (a b : List ℕ) (is : IsCountOf n xs a) (its : IsCountOf n ys b) where
  pub both-fit : (i : ℕ) → i < length a → get_or a i 0 + get_or b i 0 ≤ length (xs ++ ys)
  both-fit i l = omega (arith, number-le n xs a is i l, number-le n ys b its i (omega (arith, l, is.long, its.long)), length-append xs ys)

  abbrev both : List ℕ
  both = map (λ i. get_or a i 0 + get_or b i 0) (candidates (length a))

  both-at : (s c : ℕ) → s < 2 ^ n → c < n → get_or (column n n both c) s 0 ≡ get_or (column n n a c) s 0 + get_or (column n n b c) s 0
  both-at s c m l =
      column-at n n both c s m
      ∙ get_or-map-range_with_len (λ i. get_or a i 0 + get_or b i 0) 0 (length a) (s * n + c) (s * n + c) 0 (omega (arith, is.long, place-below n n s c m l))
      (omega arith)
      ∙ ap₂ (λ x y. x + y) (sym (column-at n n a c s m)) (sym (column-at n n b c s m))

  apiece : (t : Bool) (x y z : ℕ) → x ≡ y + z → cond t x 0 ≡ cond t y 0 + cond t z 0
  apiece true x y z e = e
  apiece false x y z e = refl

  pub both-counted : IsCountOf n (xs ++ ys) (map (λ i. get_or a i 0 + get_or b i 0) (candidates (length a)))
  both-counted = record {
    long = length-map-range_with_len (λ i. get_or a i 0 + get_or b i 0) 0 (length a) ∙ is.long;
    says = λ s c l.
        let sum = column n n both c in
        let own = column n n a c in
        let its_own = column n n b c in
        ap (λ k. sum_by (at s sum) (candidates k)) (column-long n n both c)
        ∙ total-plus (at s own) (at s its_own) (at s sum) 0 (2 ^ n)
        (λ i p m. apiece (misses s i) (get_or sum i 0) (get_or own i 0) (get_or its_own i 0) (both-at i c (omega (arith, m)) l))
        ∙ ap₂ (λ x y. x + y)
        (ap (λ k. sum_by (at s own) (candidates k)) (sym (column-long n n a c)) ∙ is.says s c l)
        (ap (λ k. sum_by (at s its_own) (candidates k)) (sym (column-long n n b c)) ∙ its.says s c l)
        ∙ sym (sum_by-append (λ r. cond (has_missed s c r) 1 0) xs ys);
  }

-- ---- a share, ballot by ballot

-- one more ballot is counted
pub counted-more : (passes : List ℕ → Bool) (rankings : List (List ℕ)) (first k : ℕ) (ranking : List ℕ) → slice_get rankings (first + k) ≡ Some ranking →
    count_by passes (take (k + 1) (drop first rankings)) ≡ count_by passes (take k (drop first rankings)) + cond (passes ranking) 1 0
counted-more passes rankings first k ranking there =
    let own = drop first rankings in
    let within : k < length own = omega (arith, slice_get_within rankings (first + k) ranking there, length-drop first rankings) in
    let at : get_or own k ranking ≡ ranking =
    get_or-drop first rankings k ranking ∙ get_or_from_slice_get rankings (first + k) ranking ranking there in
    sum_by_more (λ r. cond (passes r) 1 0) own k ranking within ∙ ap (λ r. count_by passes (take k own) + cond (passes r) 1 0) at

-- ---- the shares, one by one
pub none-counted : (n size : ℕ) (rankings : List (List ℕ)) (table : List ℕ) → length table ≡ n * 2 ^ n →
    ((s c : ℕ) → c < n → apart s (column n n table c) ≡ 0) → IsCountOf n (take (0 * size) rankings) table
none-counted n size rankings table long none = record {
  long = long;
  says = λ s c l. none s c l ∙ ap (λ j. count_by (has_missed s c) (take j rankings)) (sym (zero-mul size));
}

pub share-at : (n size : ℕ) (rankings : List (List ℕ)) (shares before rest : List (Result (Vec ℕ Global) Memory)) (share : Result (Vec ℕ Global) Memory) →
    shares ≡ before ++ share ∷ rest → AreShares n size rankings shares →
    IfOk share (λ table. IsCountOf n (slice_chunk rankings size (length before)) table.items)
share-at n size rankings shares before rest share whole are =
    let now : AreShares n size rankings (before ++ share ∷ rest) = subst (AreShares n size rankings) whole are in
    let inside : length before < length (before ++ share ∷ rest) = omega (arith, length-append before (share ∷ rest)) in
    subst (λ r. IfOk r (λ table. IsCountOf n (slice_chunk rankings size (length before)) table.items)) (get_or-append_seam before share rest share)
    (now.each (length before) share inside)

pub all-counted : (n size : ℕ) (rankings : List (List ℕ)) (shares yielded : List (Result (Vec ℕ Global) Memory)) (table : List ℕ) → shares ≡ yielded →
    AreShares n size rankings shares → IsCountOf n (take (length yielded * size) rankings) table → IsCountOf n rankings table
all-counted n size rankings shares yielded table whole are =
    subst (λ rs. IsCountOf n rs table) (take_all (length yielded * size) rankings (omega (arith, are.all, ap (λ rs. length rs * size) whole)))

-- the first chunks, and one more chunk
pub one-chunk-more : {X : Type 0} (xs : List X) (size k more : ℕ) → more ≡ k + 1 → take (k * size) xs ++ slice_chunk xs size k ≡ take (more * size) xs
one-chunk-more xs size k more is =
    let ys = take (k * size + size) xs in
    let next : k * size + size ≡ more * size = omega (arith, add-mul k 1 size, ap (λ j. j * size) is) in
    ap₂ (λ us vs. us ++ vs) (sym (take-take (k * size) (k * size + size) xs (omega arith))) (sym (drop-take (k * size) size xs))
    ∙ take-append-drop (k * size) ys
    ∙ ap (λ j. take j xs) next
