-- The number of suffixes that aren't whole orders and end in a candidate.
use Rattle.std.proofs.Common.{Bool, List, [], ap, arith, cond, count_by, false, filter, flat_map, inl, inr, le_trans, length, length-append, ltb-true, nat_le, nat_lt, not, refl, subst, suc, sym, true, zero, ℕ, ◌&&◌, ◌*◌, ◌+◌, ◌-◌, ◌<◌, ◌∙◌, ◌∷◌, ◌≡◌, ◌≤◌}
use Rattle.std.proofs.Math.Nat.{mul-le-mul_left, mul-le-mul_right}
use Rattle.std.proofs.lemmas.Bool.{cases_Bool}
use Rattle.std.proofs.lemmas.List.Elements.{filter-append}
use Rattle.std.proofs.lemmas.List.Filters.{length-filter_both}
use Rattle.std.proofs.lemmas.List.Sums.{length-filter}
use Rattle.irv_base.specs.Candidates.{candidates, is_in}
use Rattle.irv_base.proofs.Distinct.{distinct-le, length-range}
use Rattle.irv_base.proofs.Members.{Member, candidate-member, from_candidates, here, in-from_member, member-filter, there}
use Rattle.assertions.specs.Assertions.{margin}
use Rattle.assertions.specs.Certificate.{cover_count, order_count}
use Rattle.assertions.specs.Hardness.{low}
use Rattle.assertions.specs.Suffixes.{comes_before, factorial, parts_ending, suffixes_ending}
use Rattle.assertions.proofs.Endings.{Suffix, one_alone}
use Rattle.assertions.proofs.Enumerated.{child, children_ending}

-- ---- the maximum number of those that put k more candidates in front
bound : ℕ → ℕ
bound zero = 0
bound (suc k) = 1 + suc k * bound k

bound-factorial : (k : ℕ) → bound k + 1 ≤ 2 * factorial k
unfolding bound
bound-factorial zero = omega arith
bound-factorial (suc zero) = omega arith
bound-factorial (suc (suc k)) =
    let ih : bound (suc k) + 1 ≤ 2 * factorial (suc k) = bound-factorial (suc k) in
    let more : suc (suc k) * (bound (suc k) + 1) ≤ suc (suc k) * (2 * factorial (suc k)) = mul-le-mul_left (suc (suc k)) ih in
    joined k (bound (suc k)) (factorial (suc k)) more
  where
    joined : (k b f : ℕ) → suc (suc k) * (b + 1) ≤ suc (suc k) * (2 * f) → 1 + suc (suc k) * b + 1 ≤ 2 * (suc (suc k) * f)
    joined k b f h = omega arith

-- ---- children of a suffix
module _ (p : List ℕ → Bool) (f : ℕ → List (List ℕ)) (inside : ℕ → Bool) (most : ℕ) (none_of : (c : ℕ) → inside c ≡ true → f c ≡ []) where
  flat_map-few : (cs : List ℕ) → ((c : ℕ) → Member c cs → inside c ≡ false → length (filter p (f c)) ≤ most) →
      length (filter p (flat_map f cs)) ≤ length (filter (λ c. not (inside c)) cs) * most
  flat_map-few [] few = omega arith
  flat_map-few (c ∷ cs) few =
      subst (λ x. x ≤ length (filter (λ c. not (inside c)) (c ∷ cs)) * most) (sym (ap length (filter-append p (f c) (flat_map f cs))
      ∙ length-append (filter p (f c)) (filter p (flat_map f cs))))
      (go (inside c) refl (flat_map-few cs (λ d m. few d (there m))))
    where
      go : (b : Bool) → inside c ≡ b → length (filter p (flat_map f cs)) ≤ length (filter (λ c. not (inside c)) cs) * most →
          length (filter p (f c)) + length (filter p (flat_map f cs)) ≤ length
          (cond (not b) (c ∷ filter (λ c. not (inside c)) cs) (filter (λ c. not (inside c)) cs)) * most
      go true e ih = let empty : length (filter p (f c)) ≡ 0 = ap (λ s. length (filter p s)) (none_of c e) in omega arith
      go false e ih =
          let first : length (filter p (f c)) ≤ most = few c here e in
          joined (length (filter p (f c))) (length (filter p (flat_map f cs))) (length (filter (λ c. not (inside c)) cs)) first ih
        where
          joined : (a b m : ℕ) → a ≤ most → b ≤ m * most → a + b ≤ suc m * most
          joined a b m h k = omega arith

-- the candidates outside a suffix
outside-few : (n : ℕ) (t : List ℕ) → Suffix n t → length (filter (λ c. not (is_in t c)) (candidates n)) + length t ≤ n
outside-few n t s =
    let le : length t ≤ length (filter (is_in t) (candidates n)) =
    distinct-le t (filter (is_in t) (candidates n)) s.apart (λ z m. member-filter (is_in t) (candidates n) (candidate-member z n (s.below z m))
    (in-from_member m)) in
    let all : length (filter (is_in t) (candidates n)) + length (filter (λ c. not (is_in t c)) (candidates n)) ≡ length (candidates n) =
    length-filter_both (is_in t) (λ c. not (is_in t c)) (λ c. refl) (candidates n) in
    omega (arith, length-range 0 n)

abbrev short : ℕ → List ℕ → Bool
short n s = nat_lt (length s) n

parts-few : (n k : ℕ) (t : List ℕ) → Suffix n t → k + length t ≡ n → length (filter (short n) (suffixes_ending n k t)) ≤ bound k
unfolding bound
parts-few n zero t s long = whole (short n t) (not_below (length t) n (omega arith)) where
  not_below : (a b : ℕ) → b ≤ a → nat_lt a b ≡ false
  not_below a b h = elim (cases_Bool (nat_lt a b)) [ inl e ↦ let lt : a < b = ltb-true a b e in absurd (omega arith) | inr f ↦ f ]

  whole : (b : Bool) → b ≡ false → length (cond b (t ∷ []) []) ≤ 0
  whole true e = cc
  whole false e = omega arith
parts-few n (suc k) t s long =
    let children : length (filter (short n) (flat_map (children_ending n k t) (candidates n))) ≤ length (filter (λ c. not (is_in t c)) (candidates n)) * bound
    k =
    flat_map-few (short n) (children_ending n k t) (is_in t) (bound k) (λ c e. rw e refl) (candidates n)
    (λ c m out. rw out (parts-few n k (c ∷ t) (child n c t s (from_candidates m) out) (omega arith))) in
    let few : length (filter (λ c. not (is_in t c)) (candidates n)) ≤ suc k = omega (arith, outside-few n t s) in
    joined (short n t) (filter (short n) (flat_map (children_ending n k t) (candidates n))) (le_trans children (mul-le-mul_right (bound k) few))
  where
    joined : (b : Bool) (xs : List (List ℕ)) → length xs ≤ suc k * bound k → length (cond b (t ∷ xs) xs) ≤ 1 + suc k * bound k
    joined true xs h = omega arith
    joined false xs h = omega arith

pub parts_are_few : (n c : ℕ) → c < n → length (parts_ending n c) ≤ 2 * factorial (n - 1)
parts_are_few n c below =
    let le : length (parts_ending n c) ≤ bound (n - 1) = parts-few n (n - 1) (c ∷ []) (one_alone n c below) (omega arith) in
    omega (arith, bound-factorial (n - 1))

count_by-few : {X : Type 0} (p : X → Bool) (xs : List X) → count_by p xs ≤ length xs
count_by-few p xs = omega (arith, length-filter p xs, length-filter_both p (λ x. not (p x)) (λ x. refl) xs)

pub counts_are_few : (n c margin : ℕ) (low : List ℕ → ℕ) (order : List ℕ) → c < n →
    (cover_count n low margin c ≤ 2 * factorial (n - 1)) × (order_count n low margin order c ≤ 2 * factorial (n - 1))
counts_are_few n c margin low order below = (
  le_trans (count_by-few (λ suffix. nat_lt (low suffix) margin) (parts_ending n c)) (parts_are_few n c below),
  le_trans (count_by-few (λ suffix. nat_le (low suffix) margin && comes_before suffix order) (parts_ending n c)) (parts_are_few n c below),
)
