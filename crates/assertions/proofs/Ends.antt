-- The shortest suffix of an order that reaches a margin.
use Rattle.std.proofs.Common.{List, [], ap, append_assoc, arith, false, if◌then◌else◌, inl, inr, le-leb, leb-true, length, length-append, lt-ltb, nat_le, nat_lt, ne_eqb, not, subst, suc, sym, true, zero, ℕ, ◌++◌, ◌-◌, ◌<◌, ◌==◌, ◌∙◌, ◌∷◌, ◌≡◌, ◌≢◌, ◌≤◌}
use Rattle.std.proofs.lemmas.Bool.{and_from, and_parts, cases_lt, not_from_false}
use Rattle.irv_base.specs.Candidates.{candidates, is_in}
use Rattle.irv_base.specs.Orders.{Elects, EndsIn}
use Rattle.irv_base.proofs.Distinct.{Distinct, distinct-head, distinct-rest}
use Rattle.irv_base.proofs.Members.{Member, candidate-member, from_filter, here, member-append_right, member-filter, member-flat_map, out-from_none, there}
use Rattle.irv_base.proofs.Orders.{Order, last_split}
use Rattle.assertions.specs.Assertions.{margin}
use Rattle.assertions.specs.Certificate.{certificate_ends, is_end}
use Rattle.assertions.specs.Hardness.{low}
use Rattle.assertions.specs.Suffixes.{alternative_suffixes, suffixes_ending}

pub is_end-low : (low : List ℕ → ℕ) (margin : ℕ) (s : List ℕ) → is_end low margin s ≡ true → margin ≤ low s
is_end-low low margin [] h = cc
is_end-low low margin (c ∷ []) h = leb-true margin (low (c ∷ [])) h
is_end-low low margin (c ∷ d ∷ t) h = leb-true margin (low (c ∷ d ∷ t)) (and_parts (nat_le margin (low (c ∷ d ∷ t))) (nat_lt (low (d ∷ t)) margin) h).0

-- the end that an order has
pub record EndOf (n : ℕ) (low : List ℕ → ℕ) (margin k : ℕ) (t order : List ℕ) : Type 0 where
  pub suffix : List ℕ
  pub before : List ℕ
  pub split : order ≡ before ++ suffix
  pub is : is_end low margin suffix ≡ true
  pub listed : Member suffix (suffixes_ending n k t)

pub suffixes_ending-self : (n k : ℕ) (t : List ℕ) → Member t (suffixes_ending n k t)
suffixes_ending-self n zero t = here
suffixes_ending-self n (suc k) t = here

pub end_of : (n : ℕ) (low : List ℕ → ℕ) (margin k x : ℕ) (t before order : List ℕ) → order ≡ before ++ x ∷ t → length before ≡ k → Distinct order →
    ((c : ℕ) → Member c order → c < n) →
    margin ≤ low order → (margin ≤ low (x ∷ t) → is_end low margin (x ∷ t) ≡ true) → EndOf n low margin k (x ∷ t) order
end_of n low margin zero x t [] order same long d below le starts =
    record { suffix = x ∷ t; before = []; split = same; is = starts (subst (λ s. margin ≤ low s) same le); listed = here }
end_of n low margin zero x t (b ∷ before) order same long d below le starts = cc
end_of n low margin (suc k) x t [] order same long d below le starts = cc
end_of n low margin (suc k) x t (b ∷ bs) order same long d below le starts =
    elim (cases_lt (low (x ∷ t)) margin) [
      | inr g ↦ record { suffix = x ∷ t; before = b ∷ bs; split = same; is = starts g; listed = here }
      | inl l ↦
          let (before, c, e) = last_split b bs in
          let same' : order ≡ before ++ c ∷ x ∷ t = same ∙ ap (λ s. s ++ x ∷ t) e ∙ append_assoc before (c ∷ []) (x ∷ t) in
          let short : length before ≡ k = omega (arith, ap length e, length-append before (c ∷ [])) in
          let r = end_of n low margin k c (x ∷ t) before order same' short d below le
          (λ g. and_from (nat_le margin (low (c ∷ x ∷ t))) (nat_lt (low (x ∷ t)) margin) (le-leb margin (low (c ∷ x ∷ t)) g) (lt-ltb (low (x ∷ t)) margin l)) in
          let inside : Member c order = subst (Member c) (sym same') (member-append_right before here) in
          let out : is_in (x ∷ t) c ≡ false = out-from_none c (x ∷ t) (distinct-head (distinct-rest before (c ∷ x ∷ t) (subst Distinct same' d))) in
          let m : Member r.suffix (suffixes_ending n k (c ∷ x ∷ t)) = r.listed in
          record {
            suffix = r.suffix;
            before = r.before;
            split = r.split;
            is = r.is;
            listed = there (member-flat_map (λ c. if is_in (x ∷ t) c then [] else suffixes_ending n k (c ∷ x ∷ t)) (candidate-member c n (below c inside))
                (rw out m));
          }
    ]

pub end-member : (n winner c : ℕ) (low : List ℕ → ℕ) (margin : ℕ) (s : List ℕ) → c ≢ winner → c < n → Member s (suffixes_ending n (n - 1) (c ∷ [])) →
    is_end low margin s ≡ true →
    Member s (certificate_ends n winner low margin)
end-member n winner c low margin s ne below m is =
    member-filter (is_end low margin) (alternative_suffixes n winner)
    (member-flat_map (λ c. suffixes_ending n (n - 1) (c ∷ []))
    (member-filter (λ c. not (c == winner)) (candidates n) (candidate-member c n below) (not_from_false (c == winner) (ne_eqb c winner ne))) m)
    is

pub from_end : (n winner : ℕ) (low : List ℕ → ℕ) (margin : ℕ) (s : List ℕ) → Member s (certificate_ends n winner low margin) → is_end low margin s ≡ true
from_end n winner low margin s m = (from_filter (is_end low margin) (alternative_suffixes n winner) m).1

-- each alternative order whose hardness is at least the margin has one
pub alternative-end : (n winner c : ℕ) (low : List ℕ → ℕ) (margin : ℕ) (order : List ℕ) → Order n order → c ≢ winner → Elects order c → margin ≤ low order →
    (s : List ℕ) × Member s (certificate_ends n winner low margin) × EndsIn order s
alternative-end n winner c low margin order o ne (before, same) le =
    let short : length before ≡ n - 1 = omega (arith, o.long, ap length same, length-append before (c ∷ [])) in
    let inside : Member c order = subst (Member c) (sym same) (member-append_right before here) in
    let r = end_of n low margin (n - 1) c [] before order same short o.apart o.below le (λ g. le-leb margin (low (c ∷ [])) g) in
    (r.suffix, end-member n winner c low margin r.suffix ne (o.below c inside) r.listed r.is, (r.before, r.split))
