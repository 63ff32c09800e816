-- The alternative orders are in increasing order when read backwards, so the first that passes a test is the smallest that passes
-- it.
use Rattle.std.proofs.Common.{Bool, Contains, List, None, Option, Some, [], ap, append_assoc, eq-eqb, find, flat_map, if◌then◌else◌, inl, inr, lt-ltb, nat_lt, not, refl, reverse, subst₂, suc, sym, true, zero, ℕ, ◌&&◌, ◌++◌, ◌-◌, ◌<◌, ◌==◌, ◌∙◌, ◌∷◌, ◌≡◌, ◌⊎◌}
use Rattle.std.proofs.lemmas.Bool.{and_from, cases_Bool, or_left, or_right}
use Rattle.std.proofs.lemmas.List.{reverse-append}
use Rattle.std.proofs.lemmas.List.Folds.{find-append}
use Rattle.std.specs.Option.{option_or}
use Rattle.irv_base.specs.Candidates.{candidates, is_in}
use Rattle.irv_base.specs.Orders.{EndsIn}
use Rattle.irv_base.proofs.Members.{Member, find-member, from_find, from_flat_map, member-append_cases, member-from_contains, member_cases, member_nil}
use Rattle.assertions.specs.Assertions.{margin}
use Rattle.assertions.specs.Certificate.{certificate_order}
use Rattle.assertions.specs.Lists.{stands_before}
use Rattle.assertions.specs.Suffixes.{alternative_orders, comes_before, orders_ending}
use Rattle.assertions.proofs.Sorted.{Sorted, more, none, sorted-filter, sorted-range}

-- the first order that passes comes before each other order that does, if this holds within each piece and across pieces
module _ (f : ℕ → List (List ℕ)) (R : List ℕ → List ℕ → Type 0) (p : List ℕ → Bool)
    (within : (c : ℕ) (x y : List ℕ) → find p (f c) ≡ Some x → Member y (f c) → p y ≡ true → (x ≡ y) ⊎ R x y)
    (across : (c d : ℕ) (x y : List ℕ) → c < d → Member x (f c) → Member y (f d) → R x y) where
  first_of : {cs : List ℕ} → Sorted ◌<◌ cs → (x y : List ℕ) → find p (flat_map f cs) ≡ Some x → Member y (flat_map f cs) → p y ≡ true → (x ≡ y) ⊎ R x y
  first_of none x y e m t = absurd (member_nil m)
  first_of (more {x = c} {xs = cs} first r) x y e m t = go (find p (f c)) refl (sym (find-append p (f c) (flat_map f cs)) ∙ e) (first_of r x y) where
    go : (o : Option (List ℕ)) → find p (f c) ≡ o → option_or (find p (f c)) (find p (flat_map f cs)) ≡ Some x →
        (find p (flat_map f cs) ≡ Some x → Member y (flat_map f cs) → p y ≡ true → (x ≡ y) ⊎ R x y) → (x ≡ y) ⊎ R x y
    go None s k ih =
        let later : find p (flat_map f cs) ≡ Some x = sym (ap (λ o. option_or o (find p (flat_map f cs))) s) ∙ k in
        elim (member-append_cases (f c) (flat_map f cs) m) [
          | inl q ↦ let (z, found) = find-member p y (f c) q t in cc
          | inr q ↦ ih later q t
        ]
    go (Some z) s k ih =
        let same : z ≡ x = cc (ap (λ o. option_or o (find p (flat_map f cs))) s) in
        let s' : find p (f c) ≡ Some x = s ∙ ap Some same in
        elim (member-append_cases (f c) (flat_map f cs) m) [
          | inl q ↦ within c x y s' q t
          | inr q ↦
              let (d, n, q') = from_flat_map f y cs q in
              inr (across c d x y (first d n) (from_find p x (f c) s').0 q')
        ]

pub ending : (n k : ℕ) (t order : List ℕ) → Member order (orders_ending n k t) → EndsIn order t
ending n zero t order m = elim (member_cases m) [ inl e ↦ ([], sym e) | inr r ↦ absurd (member_nil r) ]
ending n (suc k) t order m =
    let (c, inn, k') = from_flat_map (λ c. if is_in t c then [] else orders_ending n k (c ∷ t)) order (candidates n) m in
    elim (cases_Bool (is_in t c)) [
      | inl in' ↦ absurd (member_nil (rw in' at k'))
      | inr out ↦
          let m' : Member order (orders_ending n k (c ∷ t)) = rw out at k' in
          let (before, e) = ending n k (c ∷ t) order m' in
          (before ++ c ∷ [], e ∙ sym (append_assoc before (c ∷ []) t))
    ]

abbrev pub IsBefore : List ℕ → List ℕ → Type 0
IsBefore x y = comes_before x y ≡ true

pub stands_before-append : (p u v : List ℕ) (c d : ℕ) → c < d → stands_before (p ++ c ∷ u) (p ++ d ∷ v) ≡ true
stands_before-append [] u v c d h = or_left (nat_lt c d) ((c == d) && stands_before u v) (lt-ltb c d h)
stands_before-append (x ∷ p) u v c d h =
    or_right (nat_lt x x) ((x == x) && stands_before (p ++ c ∷ u) (p ++ d ∷ v))
    (and_from (x == x) (stands_before (p ++ c ∷ u) (p ++ d ∷ v)) (eq-eqb x x refl) (stands_before-append p u v c d h))

pub reverse_ending : (order t : List ℕ) (c : ℕ) (before : List ℕ) → order ≡ before ++ c ∷ t → reverse order ≡ reverse t ++ c ∷ reverse before
reverse_ending order t c before e =
    ap reverse e ∙ reverse-append before (c ∷ t) ∙ ap (λ s. s ++ reverse before) (reverse-append (c ∷ []) t)
    ∙ append_assoc (reverse t) (c ∷ []) (reverse before)

pub across-endings : (x y t : List ℕ) (c d : ℕ) → c < d → EndsIn x (c ∷ t) → EndsIn y (d ∷ t) → IsBefore x y
across-endings x y t c d h (a, e) (b, g) =
    subst₂ (λ u v. stands_before u v ≡ true) (sym (reverse_ending x t c a e)) (sym (reverse_ending y t d b g))
    (stands_before-append (reverse t) (reverse a) (reverse b) c d h)

pub one_more-across : (n k : ℕ) (t : List ℕ) (c d : ℕ) (x y : List ℕ) → c < d →
    Member x (if is_in t c then [] else orders_ending n k (c ∷ t)) → Member y (if is_in t d then [] else orders_ending n k (d ∷ t)) → IsBefore x y
one_more-across n k t c d x y h a b = across-endings x y t c d h (ends c x a) (ends d y b) where
  ends : (c : ℕ) (x : List ℕ) → Member x (if is_in t c then [] else orders_ending n k (c ∷ t)) → EndsIn x (c ∷ t)
  ends c x m =
      elim (cases_Bool (is_in t c)) [
        | inl in' ↦ absurd (member_nil (rw in' at m))
        | inr out ↦ let m' : Member x (orders_ending n k (c ∷ t)) = rw out at m in ending n k (c ∷ t) x m'
      ]

first_ending : (n k : ℕ) (t : List ℕ) (p : List ℕ → Bool) (x y : List ℕ) → find p (orders_ending n k t) ≡ Some x → Member y (orders_ending n k t) →
    p y ≡ true → (x ≡ y) ⊎ IsBefore x y
first_ending n zero t p x y e m r =
    let (k, passes) = from_find p x (t ∷ []) e in
    elim (member_cases k) [
      | inl a ↦ elim (member_cases m) [ inl b ↦ inl (sym a ∙ b) | inr q ↦ absurd (member_nil q) ]
      | inr q ↦ absurd (member_nil q)
    ]
first_ending n (suc k) t p x y e m r =
    first_of (λ c. if is_in t c then [] else orders_ending n k (c ∷ t)) IsBefore p
    (λ c x y e m r. elim (cases_Bool (is_in t c)) [
      | inl in' ↦ absurd (member_nil (rw in' at m))
      | inr out ↦
          let e' : find p (orders_ending n k (c ∷ t)) ≡ Some x = rw out at e in
          let m' : Member y (orders_ending n k (c ∷ t)) = rw out at m in
          first_ending n k (c ∷ t) p x y e' m' r
    ])
    (one_more-across n k t)
    (sorted-range 0 n) x y e m r

pub first_alternative : (n winner : ℕ) (p : List ℕ → Bool) (found order : List ℕ) → find p (alternative_orders n winner) ≡ Some found →
    Member order (alternative_orders n winner) → p order ≡ true → (found ≡ order) ⊎ IsBefore found order
first_alternative n winner p found order e m r =
    first_of (λ c. orders_ending n (n - 1) (c ∷ [])) IsBefore p
    (λ c x y. first_ending n (n - 1) (c ∷ []) p x y)
    (λ c d x y lt a b. across-endings x y [] c d lt (ending n (n - 1) (c ∷ []) x a) (ending n (n - 1) (d ∷ []) y b))
    (sorted-filter ◌<◌ (λ c. not (c == winner)) (sorted-range 0 n)) found order e m r

pub order_is_first : (n winner margin : ℕ) (hardness : List ℕ → ℕ) (found order : List ℕ) → certificate_order n winner hardness margin ≡ Some found →
    Contains (alternative_orders n winner) order → hardness order ≡ margin → (found ≡ order) ⊎ (comes_before found order ≡ true)
order_is_first n winner margin hardness found order e h r =
    first_alternative n winner (λ order. hardness order == margin) found order e (member-from_contains order (alternative_orders n winner) h)
    (eq-eqb (hardness order) margin r)
