-- What refutes a suffix that has a kept parent.
use Rattle.std.proofs.Common.{◌≡◌, ℕ, ◌<◌, Bool, true, false, not, ◌&&◌, ◌||◌, ◌==◌, inl, inr, List, [], ◌∷◌, length, get_or, refl, sym, ap, arith, eq-eqb, ne_eqb, ◌∙◌}
use Rattle.std.specs.List.{list_any}
use Rattle.std.proofs.lemmas.Bool.{not-true, cases_eq, both_ways, false_from_ne_true}
use Rattle.assertions.specs.declared.assertion.Assertion.{Assertion}
use Rattle.assertions.specs.declared.assertion.Assertion.TheVariants.{Neb, Nen}
use Rattle.assertions.specs.Refutation.{part_from, refutes}
use Rattle.irv_base.specs.Candidates.{is_in, set_of, has}
use Rattle.irv_base.proofs.Members.{Member, here, there, list_any-member}
use Rattle.irv_base.proofs.Distinct.{Distinct}
use Rattle.assertions.proofs.Parts.{part_from-same, part_from-other}
use Rattle.irv_base.proofs.Sets.{has-set_of}
use Rattle.irv_base.specs.Suffixes.{is_suffix}
use Rattle.suffix_walk.specs.Kept.{is_parent_kept}
use Rattle.irv_base.proofs.Suffixes.{suffix-distinct}
use Rattle.cover_checker.specs.Covers.{stands}
use Rattle.cover_checker.specs.Indexed.{is_new}

in-other : (t : List ℕ) (c w : ℕ) → (c ≡ w → ⊥) → is_in (c ∷ t) w ≡ is_in t w
in-other t c w ne = rw (ne_eqb c w ne) refl

in-same : (t : List ℕ) (c w : ℕ) → c ≡ w → is_in (c ∷ t) w ≡ true
in-same t c w e = rw (eq-eqb c w e) refl

pub new_is : (a : Assertion) (c : ℕ) (t : List ℕ) → Distinct (c ∷ t) → refutes a t ≡ false → refutes a (c ∷ t) ≡ is_new a c (set_of (c ∷ t))
new_is (Neb w l) c t d h =
    elim (cases_eq c l) [
      | inl e ↦
          ap (λ b. b && not (is_in (part_from (c ∷ t) l) w)) (in-same t c l e) ∙ ap (λ s. not (is_in s w)) (part_from-same c l t e)
          ∙ ap not (sym (has-set_of (c ∷ t) w d)) ∙ sym (ap (λ b. b && not (has (set_of (c ∷ t)) w)) (eq-eqb l c (sym e)))
      | inr ne ↦
          ap (λ b. b && not (is_in (part_from (c ∷ t) l) w)) (in-other t c l ne) ∙ ap (λ s. is_in t l && not (is_in s w)) (part_from-other c l t ne)
          ∙ h ∙ sym (ap (λ b. b && not (has (set_of (c ∷ t)) w)) (ne_eqb l c (λ e. ne (sym e))))
    ]
new_is (Nen w l rest) c t d h =
    elim (cases_eq c w) [
      | inl e ↦
          ap (λ b. b && (set_of (part_from (c ∷ t) w) == rest)) (in-same t c w e) ∙ ap (λ s. set_of s == rest) (part_from-same c w t e)
          ∙ sym (ap (λ b. b && (set_of (c ∷ t) == rest)) (eq-eqb w c (sym e)))
      | inr ne ↦
          ap (λ b. b && (set_of (part_from (c ∷ t) w) == rest)) (in-other t c w ne) ∙ ap (λ s. is_in t w && (set_of s == rest)) (part_from-other c w t ne)
          ∙ h ∙ sym (ap (λ b. b && (set_of (c ∷ t) == rest)) (ne_eqb w c (λ e. ne (sym e))))
    ]

pub any-same : (p q : Assertion → Bool) (list : List Assertion) → ((a : Assertion) → Member a list → p a ≡ q a) → list_any p list ≡ list_any q list
any-same p q [] h = refl
any-same p q (a ∷ list) h = ap (λ b. b || list_any p list) (h a here) ∙ ap (λ b. q a || b) (any-same p q list (λ x m. h x (there m)))

pub stands_is : (n : ℕ) (list : List Assertion) (s : List ℕ) → is_suffix n s ≡ true → 0 < length s → is_parent_kept (stands list) s ≡ true →
    stands list s ≡ not (list_any (λ a. is_new a (get_or s 0 0) (set_of s)) list)
stands_is n list [] proper some kept = absurd (omega arith)
stands_is n list (c ∷ t) proper some kept =
    ap not (any-same (λ a. refutes a (c ∷ t)) (λ a. is_new a c (set_of (c ∷ t))) list
    (λ a m. new_is a c t (suffix-distinct n (c ∷ t) proper) (free t kept a m)))
  where
    nothing : (a : Assertion) → refutes a [] ≡ false
    nothing (Neb w l) = refl
    nothing (Nen w l s) = refl

    free : (t : List ℕ) → is_parent_kept (stands list) (c ∷ t) ≡ true → (a : Assertion) → Member a list → refutes a t ≡ false
    free [] k a m = nothing a
    free (d ∷ t) k a m =
        false_from_ne_true (refutes a (d ∷ t)) (λ r.
        both_ways (list_any (λ a. refutes a (d ∷ t)) list) (not-true (list_any (λ a. refutes a (d ∷ t)) list) k)
        (list_any-member (λ a. refutes a (d ∷ t)) {x = a} m r))
