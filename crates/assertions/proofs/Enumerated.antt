-- The suffixes that end in a given one are listed, each once, in order.
use Rattle.std.proofs.Common.{Bool, Contains, List, [], ap, append_assoc, arith, cond, eq-eqb, false, if◌then◌else◌, inl, inr, length, length-append, lt-ltb, nat_lt, refl, reverse, subst, suc, sym, true, zero, ℕ, ◌&&◌, ◌++◌, ◌+◌, ◌<◌, ◌==◌, ◌↔◌, ◌∙◌, ◌∷◌, ◌≡◌, ◌≤◌}
use Rattle.std.proofs.lemmas.Bool.{and_from, or_right}
use Rattle.std.specs.List.{list_all}
use Rattle.irv_base.specs.Candidates.{candidates, is_distinct, is_in}
use Rattle.irv_base.specs.Orders.{EndsIn}
use Rattle.irv_base.proofs.Distinct.{distinct-head, distinct-le, distinct-rest, length-range, more, test-distinct}
use Rattle.irv_base.proofs.Members.{Member, candidate-member, contains-from_member, from_candidates, from_flat_map, here, list_all-each, member-append_right, member-flat_map, member-from_contains, member_cases, member_nil, none-from_out, out-from_none, there}
use Rattle.irv_base.proofs.Orders.{last_split}
use Rattle.assertions.specs.Lists.{stands_before}
use Rattle.assertions.specs.Suffixes.{is_suffix, suffixes_ending}
use Rattle.assertions.proofs.Endings.{Suffix, suffix_facts}
use Rattle.assertions.proofs.Ends.{suffixes_ending-self}
use Rattle.assertions.proofs.Firsts.{IsBefore, across-endings, reverse_ending}
use Rattle.assertions.proofs.Sorted.{Sorted, sorted-flat_map, sorted-range}

pub suffix_test : {n : ℕ} {t : List ℕ} → Suffix n t → is_suffix n t ≡ true
suffix_test {n} {t} s =
    and_from (is_distinct t) (list_all (λ c. nat_lt c n) t) (test-distinct s.apart) (list_all-each (λ c. nat_lt c n) t (λ c m. lt-ltb c n (s.below c m)))

pub suffix-few : {n : ℕ} {t : List ℕ} → Suffix n t → length t ≤ n
suffix-few {n} {t} s =
    let le : length t ≤ length (candidates n) = distinct-le t (candidates n) s.apart (λ z m. candidate-member z n (s.below z m)) in
    omega (arith, length-range 0 n)

pub suffix-rest : {n : ℕ} (before t : List ℕ) → Suffix n (before ++ t) → Suffix n t
suffix-rest before t s = record { apart = distinct-rest before t s.apart; below = λ c m. s.below c (member-append_right before m) }

-- a child
pub child : (n c : ℕ) (t : List ℕ) → Suffix n t → c < n → is_in t c ≡ false → Suffix n (c ∷ t)
child n c t s l out = record {
  apart = more (none-from_out out) s.apart;
  below = λ z m.
      elim (member_cases m) [ inl e ↦ subst (λ x. x < n) e l | inr r ↦ s.below z r ];
}

abbrev pub children_ending : ℕ → ℕ → List ℕ → ℕ → List (List ℕ)
children_ending n k t c = if is_in t c then [] else suffixes_ending n k (c ∷ t)

pub from_children : (n k : ℕ) (t : List ℕ) (c : ℕ) (s : List ℕ) → Member s (children_ending n k t c) →
    (is_in t c ≡ false) × Member s (suffixes_ending n k (c ∷ t))
from_children n k t c s m = go (is_in t c) refl m where
  go : (b : Bool) → is_in t c ≡ b → Member s (cond b [] (suffixes_ending n k (c ∷ t))) → (is_in t c ≡ false) × Member s (suffixes_ending n k (c ∷ t))
  go true e m = absurd (member_nil m)
  go false e m = (e, m)

pub record Longer (n k : ℕ) (t s : List ℕ) : Type 0 where
  pub suffix : Suffix n s
  pub before : List ℕ
  pub split : s ≡ before ++ t
  pub few : length before ≤ k

pub from_suffixes_ending : (n k : ℕ) (t s : List ℕ) → Suffix n t → Member s (suffixes_ending n k t) → Longer n k t s
from_suffixes_ending n zero t s p m =
    elim (member_cases m) [
      | inl e ↦ record { suffix = subst (Suffix n) e p; before = []; split = sym e; few = omega arith }
      | inr r ↦ absurd (member_nil r)
    ]
from_suffixes_ending n (suc k) t s p m =
    elim (member_cases m) [
      | inl e ↦ record { suffix = subst (Suffix n) e p; before = []; split = sym e; few = omega arith }
      | inr r ↦
          let (c, inside, q) = from_flat_map (children_ending n k t) s (candidates n) r in
          let (out, q') = from_children n k t c s q in
          let longer = from_suffixes_ending n k (c ∷ t) s (child n c t p (from_candidates inside) out) q' in
          let few : length longer.before ≤ k = longer.few in
          record {
            suffix = longer.suffix;
            before = longer.before ++ c ∷ [];
            split = longer.split ∙ sym (append_assoc longer.before (c ∷ []) t);
            few = omega (arith, length-append longer.before (c ∷ []));
          }
    ]

pub suffixes_ending-member : (n k : ℕ) (before t : List ℕ) → Suffix n (before ++ t) → length before ≤ k → Member (before ++ t) (suffixes_ending n k t)
suffixes_ending-member n k [] t s few = suffixes_ending-self n k t
suffixes_ending-member n zero (x ∷ xs) t s few = absurd (omega arith)
suffixes_ending-member n (suc k) (x ∷ xs) t s few =
    let (before, c, e) = last_split x xs in
    let same : (x ∷ xs) ++ t ≡ before ++ c ∷ t = ap (λ s. s ++ t) e ∙ append_assoc before (c ∷ []) t in
    let s' : Suffix n (before ++ c ∷ t) = subst (Suffix n) same s in
    let short : length before ≤ k = omega (arith, ap length e, length-append before (c ∷ [])) in
    let m : Member (before ++ c ∷ t) (suffixes_ending n k (c ∷ t)) = suffixes_ending-member n k before (c ∷ t) s' short in
    let out : is_in t c ≡ false = out-from_none c t (distinct-head (distinct-rest before (c ∷ t) s'.apart)) in
    subst (λ o. Member o (suffixes_ending n (suc k) t)) (sym same)
    (there (member-flat_map (children_ending n k t) (candidate-member c n (s'.below c (member-append_right before here))) (rw out m)))

pub suffixes_ending_are : (n k : ℕ) (t s : List ℕ) → is_suffix n t ≡ true →
    (Contains (suffixes_ending n k t) s ↔ ((is_suffix n s ≡ true) × EndsIn s t × (length s ≤ k + length t)))
suffixes_ending_are n k t s proper = (forth, back) where
  forth : Contains (suffixes_ending n k t) s → (is_suffix n s ≡ true) × EndsIn s t × (length s ≤ k + length t)
  forth h =
      let l = from_suffixes_ending n k t s (suffix_facts n t proper) (member-from_contains s (suffixes_ending n k t) h) in
      let few : length l.before ≤ k = l.few in
      (suffix_test l.suffix, (l.before, l.split), omega (arith, ap length l.split, length-append l.before t))

  back : (is_suffix n s ≡ true) × EndsIn s t × (length s ≤ k + length t) → Contains (suffixes_ending n k t) s
  back h =
      let before = h.1.0 in
      let same : s ≡ before ++ t = h.1.1 in
      let le : length s ≤ k + length t = h.2 in
      contains-from_member (subst (λ x. Member x (suffixes_ending n k t)) (sym same)
      (suffixes_ending-member n k before t (subst (Suffix n) same (suffix_facts n s h.0)) (omega (arith, ap length same, length-append before t))))

-- ---- each once, in order
stands_before-longer : (xs : List ℕ) (y : ℕ) (ys : List ℕ) → stands_before xs (xs ++ y ∷ ys) ≡ true
stands_before-longer [] y ys = refl
stands_before-longer (x ∷ xs) y ys =
    or_right (nat_lt x x) ((x == x) && stands_before xs (xs ++ y ∷ ys))
    (and_from (x == x) (stands_before xs (xs ++ y ∷ ys)) (eq-eqb x x refl) (stands_before-longer xs y ys))

before-longer : (t : List ℕ) (c : ℕ) (s : List ℕ) → EndsIn s (c ∷ t) → IsBefore t s
before-longer t c s (before, e) = subst (λ r. stands_before (reverse t) r ≡ true) (sym (reverse_ending s t c before e))
    (stands_before-longer (reverse t) c (reverse before))

pub ends_longer : (n k : ℕ) (t s : List ℕ) → Member s (suffixes_ending n k t) → EndsIn s t
ends_longer n zero t s m = elim (member_cases m) [ inl e ↦ ([], sym e) | inr r ↦ absurd (member_nil r) ]
ends_longer n (suc k) t s m =
    elim (member_cases m) [
      | inl e ↦ ([], sym e)
      | inr r ↦
          let (c, inside, q) = from_flat_map (children_ending n k t) s (candidates n) r in
          let (out, q') = from_children n k t c s q in
          let (before, e) = ends_longer n k (c ∷ t) s q' in
          (before ++ c ∷ [], e ∙ sym (append_assoc before (c ∷ []) t))
    ]

pub suffixes_ending-sorted : (n k : ℕ) (t : List ℕ) → Sorted IsBefore (suffixes_ending n k t)
suffixes_ending-sorted n zero t = Rattle.assertions.proofs.Sorted.more (λ y m. absurd (member_nil m)) Rattle.assertions.proofs.Sorted.none
suffixes_ending-sorted n (suc k) t =
    Rattle.assertions.proofs.Sorted.more
    (λ y m.
    let (c, inside, q) = from_flat_map (children_ending n k t) y (candidates n) m in
    let (out, q') = from_children n k t c y q in
    before-longer t c y (ends_longer n k (c ∷ t) y q'))
    (sorted-flat_map ◌<◌ IsBefore (children_ending n k t) (λ c. within c (is_in t c) (suffixes_ending-sorted n k (c ∷ t)))
    (λ c d x y h m q.
    let (out, m') = from_children n k t c x m in
    let (out', q') = from_children n k t d y q in
    across-endings x y t c d h (ends_longer n k (c ∷ t) x m') (ends_longer n k (d ∷ t) y q'))
    (sorted-range 0 n))
  where
    within : (c : ℕ) (b : Bool) → Sorted IsBefore (suffixes_ending n k (c ∷ t)) → Sorted IsBefore (cond b [] (suffixes_ending n k (c ∷ t)))
    within c true s = Rattle.assertions.proofs.Sorted.none
    within c false s = s
