-- Sets that are added, in order.
use Rattle.std.proofs.Common.{◌≡◌, inl, inr, ℕ, ◌+◌, false, true, List, ◌∷◌, Contains, sym, subst, arith}
use Rattle.std.specs.List.Sorted.{IsPermutation}
use Rattle.std.proofs.lemmas.Bool.{both_ways, cases_eq}
use Rattle.std.proofs.lemmas.List.Sorted.{Contains-permutation, IsPermutation-sym}
use Rattle.irv_base.specs.Candidates.{has}
use Rattle.irv_base.proofs.Members.{contains-from_member, here, member-from_contains, member_cases, there}
use Rattle.set_search.specs.Waits.{AreAddedUpTo, waiting_at}
use Rattle.set_search.specs.declared.waiting.Waiting.{Waiting}

module _ (n : ℕ) (records : List (List ℕ)) (low set closed : ℕ) (old : List Waiting) where
  pub added-none : AreAddedUpTo n records low set closed 0 old old
  added-none = record { kept = λ o m. m; each = λ c l out. absurd (omega arith); only = λ o m. inl m }

  pub added-left : (k : ℕ) (now : List Waiting) → has closed k ≡ true → AreAddedUpTo n records low set closed k old now →
      AreAddedUpTo n records low set closed (k + 1) old now
  added-left k now inside h = record {
    kept = h.kept;
    each = λ c l out. elim (cases_eq c k) [
      | inl e ↦ absurd (both_ways (has closed c) out (subst (λ x. has closed x ≡ true) (sym e) inside))
      | inr ne ↦ h.each c (omega arith) out
    ];
    only = λ o m. elim (h.only o m) [ inl a ↦ inl a | inr r ↦ let (c, l, out, e) = r in inr (c, omega arith, out, e) ];
  }

  pub added-more : (k : ℕ) (now next : List Waiting) (o : Waiting) → has closed k ≡ false → o ≡ waiting_at n records low set k → IsPermutation (o ∷ now) next →
      AreAddedUpTo n records low set closed k old now → AreAddedUpTo n records low set closed (k + 1) old next
  added-more k now next o out is p h = record {
    kept = λ x m. later x (h.kept x m);
    each = λ c l out'. elim (cases_eq c k) [
      | inl e ↦ subst (λ y. Contains next (waiting_at n records low set y)) (sym e) (subst (Contains next) is first)
      | inr ne ↦ later (waiting_at n records low set c) (h.each c (omega arith) out')
    ];
    only = λ x m.
        let q = member-from_contains x (o ∷ now) (Contains-permutation next (o ∷ now) x (IsPermutation-sym (o ∷ now) next p) m) in
        elim (member_cases q) [
          | inl e ↦ let same : x ≡ waiting_at n records low set k = subst (λ y. y ≡ waiting_at n records low set k) e is in inr (k, omega arith, out, same)
          | inr r ↦ elim (h.only x (contains-from_member r)) [
            | inl a ↦ inl a
            | inr s ↦ let (c, l, out', e) = s in inr (c, omega arith, out', e)
          ]
        ];
  }
    where
      later : (x : Waiting) → Contains now x → Contains next x
      later x m = Contains-permutation (o ∷ now) next x p (contains-from_member (there (member-from_contains x now m)))

      first : Contains next o
      first = Contains-permutation (o ∷ now) next o p (contains-from_member here)
