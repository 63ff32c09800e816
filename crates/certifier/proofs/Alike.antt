-- A walk sees the same below two suffixes of one set that are both below the limit.
use Rattle.std.proofs.Common.{◌≡◌, ℕ, zero, suc, ◌+◌, ◌-◌, ◌^◌, ◌<◌, ◌≤◌, max, Bool, true, false, inl, inr, List, [], ◌∷◌, ◌++◌, length, map, flat_map, if◌then◌else◌, Option, None, refl, sym, ap, subst, arith, le-ltb, lt-ltb, ltb-true, ltb-false, ◌∙◌}
use Rattle.std.proofs.lemmas.Bool.{cases_Bool, cases_lt}
use Rattle.std.proofs.lemmas.List.{map-append}
use Rattle.irv_base.specs.Candidates.{candidates, is_in, has, set_of}
use Rattle.irv_base.specs.Suffixes.{is_suffix}
use Rattle.irv_base.proofs.Members.{Member, here, there, from_candidates}
use Rattle.irv_base.proofs.Sets.{set_of-cons}
use Rattle.irv_base.proofs.Suffixes.{suffix_more, suffix-has}
use Rattle.assertions.specs.declared.assertion.Assertion.{Assertion}
use Rattle.assertions.specs.Suffixes.{suffixes_ending}
use Rattle.assertions.specs.Hardness.{low, refuter}
use Rattle.assertions.specs.Certificate.{is_end}
use Rattle.assertions.specs.Steps.{step, step_refuter}
use Rattle.assertions.proofs.Anew.{low_by_steps, refuter_by_steps, same-long}
use Rattle.suffix_walk.specs.Kept.{all_ending}
use Rattle.suffix_walk.proofs.Runs.{parent-kept}
use Rattle.certifier.specs.Walks.{is_under}
use Rattle.certifier.specs.Known.{IsOfSet}
use Rattle.certifier.proofs.Ends.{end-yes, end-no, end-past}

-- what a walk sees of a suffix: whether it is below the limit, how long it is, and the refuter, if it is an end
pub record Sight : Type 0 where
  pub under : Bool
  pub long : ℕ
  pub refuter : Option Assertion

module _ (n : ℕ) (records : List (List ℕ)) (limit : ℕ) where
  abbrev pub end_refuter : List ℕ → Option Assertion
  end_refuter t = if is_end (low n records) limit t then refuter n records t else None

  abbrev pub sight : List ℕ → Sight
  sight t = record { under = is_under n records limit t; long = length t; refuter = end_refuter t }

  -- ---- for a suffix with one more candidate in front
  module _ (c : ℕ) (s : List ℕ) (proper : is_suffix n (c ∷ s) ≡ true) (some : 0 < length s) where
    raised : low n records (c ∷ s) ≡ max (low n records s) (step n records (set_of s) c)
    raised = low_by_steps n records c s proper

    sees-under : low n records s < limit → step n records (set_of s) c < limit → sight (c ∷ s)
        ≡ record { under = true; long = suc (length s); refuter = None }
    sees-under lt l =
        let less : low n records (c ∷ s) < limit = omega (arith, raised, lt, l) in
        rw (lt-ltb (low n records (c ∷ s)) limit less, end-no n records limit (c ∷ s) less) refl

    sees-end : low n records s < limit → limit ≤ step n records (set_of s) c → sight (c ∷ s)
        ≡ record { under = false; long = suc (length s); refuter = step_refuter n records (set_of s) c }
    sees-end lt le =
        let more : limit ≤ low n records (c ∷ s) = omega (arith, raised, lt, le) in
        let parent = parent-kept (is_under n records limit) c s some (lt-ltb (low n records s) limit lt) in
        rw (
          le-ltb (low n records (c ∷ s)) limit more,
          end-yes n records limit (c ∷ s) (omega arith) parent more,
          refuter_by_steps n records c s proper (omega (arith, lt, le)),
        ) refl

    sees-past : limit ≤ low n records s → sight (c ∷ s) ≡ record { under = false; long = suc (length s); refuter = None }
    sees-past le =
        let more : limit ≤ low n records (c ∷ s) = omega (arith, raised, le) in
        rw (le-ltb (low n records (c ∷ s)) limit more, end-past n records limit c s some le) refl

  sees-alike : (c : ℕ) (s t : List ℕ) → is_suffix n (c ∷ s) ≡ true → is_suffix n (c ∷ t) ≡ true → 0 < length s → 0 < length t →
      set_of s ≡ set_of t → sight s ≡ sight t → sight (c ∷ s) ≡ sight (c ∷ t)
  sees-alike c s t p q some some' set same =
      let under : is_under n records limit s ≡ is_under n records limit t = ap (λ x. x.under) same in
      let long : length s ≡ length t = ap (λ x. x.long) same in
      elim (cases_lt (low n records s) limit) [
        | inr le ↦
            let le' : limit ≤ low n records t = ltb-false (low n records t) limit (sym under ∙ le-ltb (low n records s) limit le) in
            sees-past c s p some le ∙ ap (λ k. record { under = false; long = suc k; refuter = None }) long ∙ sym (sees-past c t q some' le')
        | inl lt ↦
            let lt' : low n records t < limit = ltb-true (low n records t) limit (sym under ∙ lt-ltb (low n records s) limit lt) in
            elim (cases_lt (step n records (set_of s) c) limit) [
              | inl l ↦ sees-under c s p some lt l ∙ ap (λ k. record { under = true; long = suc k; refuter = None }) long
                  ∙ sym (sees-under c t q some' lt' (subst (λ z. step n records z c < limit) set l))
              | inr le ↦ sees-end c s p some lt le ∙ ap (λ k. record { under = false; long = suc k; refuter = step_refuter n records (set_of s) c }) long
                  ∙ ap (λ z. record { under = false; long = suc (length t); refuter = step_refuter n records z c }) set
                  ∙ sym (sees-end c t q some' lt' (subst (λ z. limit ≤ step n records z c) set le))
            ]
      ]

  -- ---- of all that end in two suffixes
  abbrev ending : ℕ → List ℕ → ℕ → List (List ℕ)
  ending k t c = if is_in t c then [] else suffixes_ending n k (c ∷ t)

  sights-below : (k : ℕ) (s t : List ℕ) → is_suffix n s ≡ true → is_suffix n t ≡ true → set_of s ≡ set_of t →
      ((c : ℕ) → is_suffix n (c ∷ s) ≡ true → is_suffix n (c ∷ t) ≡ true →
      map sight (suffixes_ending n k (c ∷ s)) ≡ map sight (suffixes_ending n k (c ∷ t))) →
      (cs : List ℕ) → ((c : ℕ) → Member c cs → c < n) →
      map sight (flat_map (ending k s) cs) ≡ map sight (flat_map (ending k t) cs)
  sights-below k s t p q set next [] below = refl
  sights-below k s t p q set next (c ∷ cs) below =
      map-append sight (ending k s c) (flat_map (ending k s) cs) ∙ ap (λ xs. xs ++ map sight (flat_map (ending k s) cs)) one
      ∙ ap (λ xs. map sight (ending k t c) ++ xs) (sights-below k s t p q set next cs (λ d m. below d (there m)))
      ∙ sym (map-append sight (ending k t c) (flat_map (ending k t) cs))
    where
      same_in : is_in s c ≡ is_in t c
      same_in = sym (suffix-has n s c p) ∙ ap (λ z. has z c) set ∙ suffix-has n t c q

      one : map sight (ending k s c) ≡ map sight (ending k t c)
      one = elim (cases_Bool (is_in s c)) [
        | inl inside ↦ let inside' : is_in t c ≡ true = sym same_in ∙ inside in rw (inside, inside') refl
        | inr out ↦
            let out' : is_in t c ≡ false = sym same_in ∙ out in
            rw (out, out') (next c (suffix_more n c s (below c here) out p) (suffix_more n c t (below c here) out' q))
      ]

  sights : (k : ℕ) (s t : List ℕ) → is_suffix n s ≡ true → is_suffix n t ≡ true → 0 < length s → 0 < length t → set_of s ≡ set_of t →
      sight s ≡ sight t → map sight (suffixes_ending n k s) ≡ map sight (suffixes_ending n k t)
  sights zero s t p q some some' set same = ap (λ x. x ∷ []) same
  sights (suc k) s t p q some some' set same =
      ap (λ x. x ∷ map sight (flat_map (ending k s) (candidates n))) same
      ∙ ap (λ xs. sight t ∷ xs)
      (sights-below k s t p q set
      (λ c p' q'. sights k (c ∷ s) (c ∷ t) p' q' (omega arith) (omega arith)
      (set_of-cons c s ∙ ap (λ z. 2 ^ c + z) set ∙ sym (set_of-cons c t)) (sees-alike c s t p' q' some some' set same))
      (candidates n) (λ c m. from_candidates m))

  pub same-sights : (set : ℕ) (s t : List ℕ) → IsOfSet n records limit set s → IsOfSet n records limit set t →
      map sight (all_ending n s) ≡ map sight (all_ending n t)
  same-sights set s t h k =
      let same : set_of s ≡ set_of t = h.set_is ∙ sym k.set_is in
      let long = same-long n s t h.proper k.proper same in
      let left : n - length s ≡ n - length t = ap (λ m. n - m) long in
      ap (λ m. map sight (suffixes_ending n m s)) left
      ∙ sights (n - length t) s t h.proper k.proper h.some k.some same
      (alone s h.under ∙ ap (λ m. record { under = true; long = m; refuter = None }) long ∙ sym (alone t k.under))
    where
      alone : (u : List ℕ) → is_under n records limit u ≡ true → sight u ≡ record { under = true; long = length u; refuter = None }
      alone u under = rw (under, end-no n records limit u (ltb-true (low n records u) limit under)) refl
