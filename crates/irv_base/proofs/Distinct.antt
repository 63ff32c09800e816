-- Lists in which nothing appears twice, for candidates and for other things.
use Rattle.std.proofs.Common.{◌≡◌, ℕ, zero, suc, ◌+◌, ◌<◌, ◌≤◌, true, not, nat_lt, ◌⊎◌, inl, inr, List, [], ◌∷◌, ◌++◌, length, refl, sym, ap, subst, arith, ltb-true}
use Rattle.std.specs.List.{list_all, range_with_len}
use Rattle.std.proofs.lemmas.Bool.{and_parts, and_from, cases_Bool, not-true}
use Rattle.irv_base.specs.Candidates.{is_in, is_distinct}
use Rattle.irv_base.proofs.Members.{Member, here, there, member_at, member_cases, member_nil, member-append_cases, member-append_left, member-append_right, member-from_in, none-from_out, out-from_none, from_list_all, from_range}

pub data Distinct {X : Type 0} : List X → Type 0 where
  none : Distinct []
  more : {c : X} {cs : List X} → (Member c cs → ⊥) → Distinct cs → Distinct (c ∷ cs)

pub distinct-head : {X : Type 0} {c : X} {cs : List X} → Distinct (c ∷ cs) → Member c cs → ⊥
distinct-head (more h d) = h

pub distinct-tail : {X : Type 0} {c : X} {cs : List X} → Distinct (c ∷ cs) → Distinct cs
distinct-tail (more h d) = d

-- a place of a distinct list: its element doesn't appear before it
pub distinct-split : {X : Type 0} (before : List X) (c : X) (rest : List X) → Distinct (before ++ c ∷ rest) → Distinct before × (Member c before → ⊥)
distinct-split [] c rest d = (none, member_nil)
distinct-split (b ∷ before) c rest d =
    let (apart, out) = distinct-split before c rest (distinct-tail d) in (
      more (λ m. distinct-head d (member-append_left (c ∷ rest) m)) apart,
      λ m. elim (member_cases m) [
        | inl e ↦ distinct-head d (member-append_right before (member_at (sym e)))
        | inr r ↦ out r
      ],
    )

pub distinct-rest : {X : Type 0} (before t : List X) → Distinct (before ++ t) → Distinct t
distinct-rest [] t d = d
distinct-rest (c ∷ before) t d = distinct-rest before t (distinct-tail d)

-- ---- by tests
pub distinct-from_test : (cs : List ℕ) → is_distinct cs ≡ true → Distinct cs
distinct-from_test [] h = none
distinct-from_test (c ∷ cs) h =
    let (out, rest) = and_parts (not (is_in cs c)) (is_distinct cs) h in
    more (none-from_out (not-true (is_in cs c) out)) (distinct-from_test cs rest)

pub below-from_test : (n : ℕ) (cs : List ℕ) → list_all (λ c. nat_lt c n) cs ≡ true → (c : ℕ) → Member c cs → c < n
below-from_test n cs h c m = ltb-true c n (from_list_all (λ c. nat_lt c n) m h)

-- ---- counting by membership
-- the list without one place of x
shorter : {X : Type 0} {x : X} {ys : List X} → Member x ys → (zs : List X) × (length ys ≡ suc (length zs)) × ((z : X) → Member z ys → (x ≡ z) ⊎ Member z zs)
shorter (here {xs = xs}) = (xs, refl, λ z m. member_cases m)
shorter {x} (there {y = y} {xs = xs} m) =
    let (zs, long, rest) = shorter m in (
      y ∷ zs,
      ap suc long,
      λ z k. elim (member_cases k) [
        | inl e ↦ inr (member_at e)
        | inr r ↦ elim (rest z r) [ inl e ↦ inl e | inr s ↦ inr (there s) ]
      ],
    )

-- distinct elements of another list are at most as many as that list has
pub distinct-le : {X : Type 0} (xs ys : List X) → Distinct xs → ((z : X) → Member z xs → Member z ys) → length xs ≤ length ys
distinct-le [] ys d h = omega arith
distinct-le {X} (x ∷ xs) ys d h =
    let (zs, long, rest) = shorter (h x here) in
    let le : length xs ≤ length zs = distinct-le xs zs (distinct-tail d) (λ z m. other z m (rest z (h z (there m)))) in
    omega arith
  where
    other : {zs : List X} (z : X) → Member z xs → (x ≡ z) ⊎ Member z zs → Member z zs
    other z m s = elim s [ inl e ↦ absurd (distinct-head d (subst (λ y. Member y xs) (sym e) m)) | inr r ↦ r ]

-- a list is distinct, or a shorter one has its elements
pub distinct_or_shorter : (xs : List ℕ) → Distinct xs ⊎ ((zs : List ℕ) × (length zs < length xs) × ((z : ℕ) → Member z xs → Member z zs))
distinct_or_shorter [] = inl none
distinct_or_shorter (x ∷ xs) =
    elim (cases_Bool (is_in xs x)) [
      | inl t ↦ inr (xs, omega arith, λ z m. elim (member_cases m) [ inl e ↦ subst (λ y. Member y xs) e (member-from_in x xs t) | inr r ↦ r ])
      | inr f ↦ elim (distinct_or_shorter xs) [
        | inl d ↦ inl (more (none-from_out f) d)
        | inr s ↦ inr (x ∷ s.0, suc_lt s.1, λ z m. elim (member_cases m) [ inl e ↦ member_at e | inr r ↦ there (s.2 z r) ])
      ]
    ]
  where
    suc_lt : {a b : ℕ} → a < b → suc a < suc b
    suc_lt h = omega arith

pub length-range : (a n : ℕ) → length (range_with_len a n) ≡ n
length-range a zero = refl
length-range a (suc n) = ap suc (length-range (a + 1) n)

pub distinct-range : (a n : ℕ) → Distinct (range_with_len a n)
distinct-range a zero = none
distinct-range a (suc n) = more (λ m. let h = from_range a (a + 1) n m in absurd (omega arith)) (distinct-range (a + 1) n)

-- ---- one more element at the end
pub distinct-push : {X : Type 0} (xs : List X) (c : X) → Distinct xs → (Member c xs → ⊥) → Distinct (xs ++ c ∷ [])
distinct-push [] c d out = more member_nil none
distinct-push (x ∷ xs) c d out =
    more
    (λ m. elim (member-append_cases xs (c ∷ []) m) [
      | inl a ↦ distinct-head d a
      | inr b ↦ elim (member_cases b) [ inl e ↦ out (member_at (sym e)) | inr r ↦ member_nil r ]
    ])
    (distinct-push xs c (distinct-tail d) (λ m. out (there m)))

pub test-distinct : {xs : List ℕ} → Distinct xs → is_distinct xs ≡ true
test-distinct none = refl
test-distinct (more {c = c} {cs = cs} out d) = and_from (not (is_in cs c)) (is_distinct cs) (ap not (out-from_none c cs out)) (test-distinct d)
