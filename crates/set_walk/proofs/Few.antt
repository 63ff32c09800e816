-- The maximum number of sets that stand: neither the empty set, nor the set of only the winner, nor the set of all does.
use Rattle.std.proofs.Common.{◌≡◌, ◌≢◌, ℕ, ◌-◌, ◌^◌, ◌<◌, ◌≤◌, Bool, true, inl, inr, List, [], ◌∷◌, ◌++◌, length, length-append, Ok, refl, sym, ap, subst, arith, le_trans, ◌∙◌}
use Rattle.std.specs.List.{range_with_len}
use Rattle.assertions.proofs.Endings.{one_alone}
use Rattle.assertions.proofs.Enumerated.{suffix_test}
use Rattle.irv_base.specs.Candidates.{candidates, has, set_of}
use Rattle.irv_base.specs.Suffixes.{is_suffix}
use Rattle.irv_base.proofs.Distinct.{Distinct, distinct-le, distinct-push, distinct-range, length-range}
use Rattle.irv_base.proofs.Members.{Member, here, member-append_cases, member-append_right, member_cases, member_nil, range-member, from_candidates}
use Rattle.irv_base.proofs.Sames.{distinct-filter}
use Rattle.irv_base.proofs.Sets.{has-member, member-from_has}
use Rattle.irv_base.proofs.Suffixes.{suffix-distinct, suffix-set}
use Rattle.set_walk.specs.Answers.{first_within}
use Rattle.set_walk.specs.Walks.{standing, is_standing, first_by_sets}
use Rattle.set_walk.proofs.Counted.{counted_stand}
use Rattle.set_walk.proofs.Enough.{enough}
use Rattle.assertions.proofs.Anew.{same-long}
use Rattle.set_walk.proofs.Standing.{from_standing}

module _ (n winner : ℕ) (goes : ℕ → ℕ → Bool) (low : winner < n) (two : 1 < n) where
  abbrev alone : List ℕ
  alone = winner ∷ []

  alone-proper : is_suffix n alone ≡ true
  alone-proper = suffix_test (one_alone n winner low)

  all-proper : is_suffix n (candidates n) ≡ true
  all-proper = suffix_test (record { apart = distinct-range 0 n; below = λ c m. from_candidates m })

  -- a set that stands has a candidate other than the winner, and isn't the set of all
  not-standing : (cs : List ℕ) → is_suffix n cs ≡ true → ((c : ℕ) → c ≢ winner → Member c cs → length cs < n → ⊥) →
      Member (set_of cs) (standing n winner goes) → ⊥
  not-standing cs proper h m =
      let (t, s) = from_standing n winner goes (set_of cs) m in
      let (b, e) = s.is.elects in
      let k : Member s.is.elected t = subst (Member s.is.elected) (sym e) (member-append_right b here) in
      let inside : has (set_of cs) s.is.elected ≡ true =
      ap (λ x. has x s.is.elected) (sym s.same) ∙ has-member (suffix-distinct n t s.is.proper) k in
      let long = same-long n t cs s.is.proper proper s.same in
      let short = s.short in
      h s.is.elected s.is.other (member-from_has cs s.is.elected (suffix-distinct n cs proper) inside) (omega (arith, long, short))

  none-out : Member (set_of []) (standing n winner goes) → ⊥
  none-out = not-standing [] refl (λ c ne m l. absurd (member_nil m))

  alone-out : Member (set_of alone) (standing n winner goes) → ⊥
  alone-out = not-standing alone alone-proper
      (λ c ne m l. elim (member_cases m) [ inl e ↦ absurd (ne (sym e)) | inr r ↦ absurd (member_nil r) ])

  all-out : Member (set_of (candidates n)) (standing n winner goes) → ⊥
  all-out = not-standing (candidates n) all-proper (λ c ne m l. let e = length-range 0 n in omega (arith, l, e))

  abbrev one : List ℕ
  one = standing n winner goes ++ set_of [] ∷ []

  abbrev pair : List ℕ
  pair = one ++ set_of alone ∷ []

  one-apart : Distinct one
  one-apart =
      distinct-push (standing n winner goes) (set_of []) (distinct-filter (is_standing n winner goes) (range_with_len 0 (2 ^ n)) (distinct-range 0 (2 ^ n))) none-out

  pair-apart : Distinct pair
  pair-apart =
      distinct-push one (set_of alone) one-apart (λ m. elim (member-append_cases (standing n winner goes) (set_of [] ∷ []) m) [
        | inl k ↦ alone-out k
        | inr k ↦ elim (member_cases k) [
          | inl e ↦ let long = same-long n [] alone refl alone-proper e in absurd (omega (arith, long))
          | inr r ↦ absurd (member_nil r)
        ]
      ])

  three-apart : Distinct (pair ++ set_of (candidates n) ∷ [])
  three-apart =
      distinct-push pair (set_of (candidates n)) pair-apart (λ m. elim (member-append_cases one (set_of alone ∷ []) m) [
        | inl k ↦ elim (member-append_cases (standing n winner goes) (set_of [] ∷ []) k) [
          | inl j ↦ all-out j
          | inr j ↦ elim (member_cases j) [
            | inl e ↦ let long = same-long n [] (candidates n) refl all-proper e in let q = length-range 0 n in absurd (omega (arith, long, q, two))
            | inr r ↦ absurd (member_nil r)
          ]
        ]
        | inr k ↦ elim (member_cases k) [
          | inl e ↦ let long = same-long n alone (candidates n) alone-proper all-proper e in let q = length-range 0 n in absurd (omega (arith, long, q, two))
          | inr r ↦ absurd (member_nil r)
        ]
      ])

  in-range : (cs : List ℕ) → is_suffix n cs ≡ true → Member (set_of cs) (range_with_len 0 (2 ^ n))
  in-range cs proper = let l = suffix-set n cs proper in range-member (set_of cs) 0 (2 ^ n) (omega arith) (omega (arith, l))

  all-in : (s : ℕ) → Member s (pair ++ set_of (candidates n) ∷ []) → Member s (range_with_len 0 (2 ^ n))
  all-in s m =
      elim (member-append_cases pair (set_of (candidates n) ∷ []) m) [
        | inl k ↦ elim (member-append_cases one (set_of alone ∷ []) k) [
          | inl j ↦ elim (member-append_cases (standing n winner goes) (set_of [] ∷ []) j) [
            | inl i ↦ let (t, w) = from_standing n winner goes s i in subst (λ x. Member x (range_with_len 0 (2 ^ n))) w.same (in-range t w.is.proper)
            | inr i ↦ only [] refl i
          ]
          | inr j ↦ only alone alone-proper j
        ]
        | inr k ↦ only (candidates n) all-proper k
      ]
    where
      only : (cs : List ℕ) → is_suffix n cs ≡ true → Member s (set_of cs ∷ []) → Member s (range_with_len 0 (2 ^ n))
      only cs proper m =
          elim (member_cases m) [
            | inl e ↦ subst (λ x. Member x (range_with_len 0 (2 ^ n))) e (in-range cs proper)
            | inr r ↦ absurd (member_nil r)
          ]

  pub standing_are_fewer : length (standing n winner goes) ≤ 2 ^ n - 3
  standing_are_fewer =
      let le = distinct-le (pair ++ set_of (candidates n) ∷ []) (range_with_len 0 (2 ^ n)) three-apart all-in in
      let a = length-append (standing n winner goes) (set_of [] ∷ []) in
      let b = length-append one (set_of alone ∷ []) in
      let c = length-append pair (set_of (candidates n) ∷ []) in
      let q = length-range 0 (2 ^ n) in
      omega (arith, le, a, b, c, q)

  pub never_spent : (sets : ℕ) → 2 ^ n - 3 ≤ sets → first_within n winner sets goes ≡ Ok (first_by_sets n winner goes)
  never_spent sets le = enough n winner sets goes (le_trans (counted_stand n winner goes).0 (le_trans standing_are_fewer le))
