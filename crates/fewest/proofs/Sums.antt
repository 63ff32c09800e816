-- Sums, over a list, of what passes a test.
use Rattle.std.proofs.Common.{◌≡◌, ℕ, ◌+◌, ◌≤◌, Bool, true, false, cond, ◌==◌, inl, inr, List, [], ◌∷◌, sum_by, refl, sym, ap, arith, eq-eqb, eqb-true, ne_eqb, ◌∙◌}
use Rattle.std.proofs.lemmas.Bool.{cases_Bool, cases_eq, both_ways, false_from_ne_true}
use Rattle.std.proofs.lemmas.List.Sums.{sum_by-cons}
use Rattle.irv_base.proofs.Distinct.{Distinct, distinct-head, distinct-tail}
use Rattle.irv_base.proofs.Members.{Member, here, there, member_cases, member_nil}

-- the number if the test passes, or 0
abbrev pub when : Bool → ℕ → ℕ
when b k = cond b k 0

spread : (b : Bool) (i j : ℕ) → when b (i + j) ≡ when b i + when b j
spread true i j = refl
spread false i j = refl

nothing : (b : Bool) (j : ℕ) → when b 0 + j ≡ 0 + j
nothing true j = refl
nothing false j = refl

module _ {X : Type 0} where
  pub sum-add : (f g : X → ℕ) (xs : List X) → sum_by (λ x. f x + g x) xs ≡ sum_by f xs + sum_by g xs
  sum-add f g [] = refl
  sum-add f g (x ∷ xs) =
      let a = sum_by-cons (λ x. f x + g x) x xs in
      let b = sum_by-cons f x xs in
      let c = sum_by-cons g x xs in
      let ih = sum-add f g xs in
      omega (arith, a, b, c, ih)

  pub sum-same : (f g : X → ℕ) (xs : List X) → ((x : X) → Member x xs → f x ≡ g x) → sum_by f xs ≡ sum_by g xs
  sum-same f g [] h = refl
  sum-same f g (x ∷ xs) h =
      let b = sum_by-cons f x xs in
      let c = sum_by-cons g x xs in
      let e = h x here in
      let ih = sum-same f g xs (λ y m. h y (there m)) in
      omega (arith, b, c, e, ih)

  pub sum-le : (f g : X → ℕ) (xs : List X) → ((x : X) → Member x xs → f x ≤ g x) → sum_by f xs ≤ sum_by g xs
  sum-le f g [] h = omega arith
  sum-le f g (x ∷ xs) h =
      let b = sum_by-cons f x xs in
      let c = sum_by-cons g x xs in
      let e = h x here in
      let ih = sum-le f g xs (λ y m. h y (there m)) in
      omega (arith, b, c, e, ih)

  pub sum-zero : (f : X → ℕ) (xs : List X) → ((x : X) → Member x xs → f x ≡ 0) → sum_by f xs ≡ 0
  sum-zero f [] h = refl
  sum-zero f (x ∷ xs) h =
      let b = sum_by-cons f x xs in
      let e = h x here in
      let ih = sum-zero f xs (λ y m. h y (there m)) in
      omega (arith, b, e, ih)

  -- if only one element passes
  pub sum-one : (p : X → Bool) (k : ℕ) (a : X) (xs : List X) → Distinct xs → Member a xs → p a ≡ true → ((x : X) → p x ≡ true → a ≡ x) →
      sum_by (λ x. cond (p x) k 0) xs ≡ k
  sum-one p k a [] d m t h = absurd (member_nil m)
  sum-one p k a (x ∷ xs) d m t h =
      let b = sum_by-cons (λ x. cond (p x) k 0) x xs in
      elim (cases_Bool (p x)) [
        | inl yes' ↦
            let same : a ≡ x = h x yes' in
            let e : cond (p x) k 0 ≡ k = ap (λ b. cond b k 0) yes' in
            let z : sum_by (λ x. cond (p x) k 0) xs ≡ 0 =
            sum-zero (λ x. cond (p x) k 0) xs (λ y m'. ap (λ b. cond b k 0)
            (false_from_ne_true (p y) (λ q. distinct-head d (Rattle.std.proofs.Common.subst (λ v. Member v xs) (sym (h y q) ∙ same) m')))) in
            omega (arith, b, e, z)
        | inr no' ↦
            let e : cond (p x) k 0 ≡ 0 = ap (λ b. cond b k 0) no' in
            elim (member_cases m) [
              | inl same ↦ absurd (both_ways (p x) no' (ap p same ∙ t))
              | inr m' ↦ let ih = sum-one p k a xs (distinct-tail d) m' t h in omega (arith, b, e, ih)
            ]
      ]

module _ {X : Type 0} where
  -- summing by keys first gives the same as summing at once
  pub sum-keys : (within : ℕ → Bool) (key : X → ℕ) (f : X → ℕ) (keys : List ℕ) (xs : List X) → Distinct keys →
      ((x : X) → Member x xs → Member (key x) keys) →
      sum_by (λ v. cond (within v) (sum_by (λ x. cond (key x == v) (f x) 0) xs) 0) keys ≡ sum_by (λ x. cond (within (key x)) (f x) 0) xs
  sum-keys within key f keys [] d h = sum-zero (λ v. when (within v) 0) keys (λ v m. both (within v)) where
    both : (b : Bool) → when b 0 ≡ 0
    both true = refl
    both false = refl
  sum-keys within key f keys (x ∷ xs) d h =
      let ih = sum-keys within key f keys xs d (λ y m. h y (there m)) in
      let front = sum-same (λ v. cond (within v) (sum_by (λ x. cond (key x == v) (f x) 0) (x ∷ xs)) 0)
      (λ v. cond (key x == v) (cond (within (key x)) (f x) 0) 0 + cond (within v) (sum_by (λ x. cond (key x == v) (f x) 0) xs) 0) keys
      (λ v m. one v) in
      let parts = sum-add (λ v. cond (key x == v) (cond (within (key x)) (f x) 0) 0)
      (λ v. cond (within v) (sum_by (λ x. cond (key x == v) (f x) 0) xs) 0) keys in
      let point = sum-one (λ v. key x == v) (cond (within (key x)) (f x) 0) (key x) keys d (h x here) (eq-eqb (key x) (key x) refl)
      (λ v t. eqb-true (key x) v t) in
      let b = sum_by-cons (λ x. cond (within (key x)) (f x) 0) x xs in
      omega (arith, ih, front, parts, point, b)
    where
      one : (v : ℕ) → cond (within v) (sum_by (λ x. cond (key x == v) (f x) 0) (x ∷ xs)) 0
          ≡ cond (key x == v) (cond (within (key x)) (f x) 0) 0 + cond (within v) (sum_by (λ x. cond (key x == v) (f x) 0) xs) 0
      one v =
          ap (λ s. cond (within v) s 0) (sum_by-cons (λ x. cond (key x == v) (f x) 0) x xs)
          ∙ elim (cases_eq (key x) v) [
            | inl e ↦
                let t = eq-eqb (key x) v e in
                ap (λ b. cond (within v) (cond b (f x) 0 + sum_by (λ x. cond (key x == v) (f x) 0) xs) 0) t
                ∙ spread (within v) (f x) (sum_by (λ x. cond (key x == v) (f x) 0) xs)
                ∙ ap (λ w. cond (within w) (f x) 0 + cond (within v) (sum_by (λ x. cond (key x == v) (f x) 0) xs) 0) (sym e)
                ∙ sym (ap (λ b. cond b (cond (within (key x)) (f x) 0) 0 + cond (within v) (sum_by (λ x. cond (key x == v) (f x) 0) xs) 0) t)
            | inr ne ↦
                let t = ne_eqb (key x) v ne in
                ap (λ b. cond (within v) (cond b (f x) 0 + sum_by (λ x. cond (key x == v) (f x) 0) xs) 0) t
                ∙ spread (within v) 0 (sum_by (λ x. cond (key x == v) (f x) 0) xs)
                ∙ nothing (within v) (cond (within v) (sum_by (λ x. cond (key x == v) (f x) 0) xs) 0)
                ∙ sym (ap (λ b. cond b (cond (within (key x)) (f x) 0) 0 + cond (within v) (sum_by (λ x. cond (key x == v) (f x) 0) xs) 0) t)
          ]
