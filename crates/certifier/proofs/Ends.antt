-- The ends of a walk among the suffixes that end in a given one, from those of its children.
use Rattle.std.proofs.Common.{◌≡◌, ℕ, zero, suc, ◌-◌, ◌<◌, ◌≤◌, Bool, true, false, nat_lt, nat_le, inl, inr, List, [], ◌∷◌, ◌++◌, length, filter, flat_map, if◌then◌else◌, refl, sym, ap, arith, le-leb, le-ltb, le_trans, ◌∙◌}
use Rattle.std.specs.declared.cmp.Ordering.{Ordering}
use Rattle.std.proofs.lemmas.List.Elements.{filter-append}
use Rattle.std.proofs.lemmas.List.Sums.{fold-append}
use Rattle.std.proofs.lemmas.Bool.{lt-leb, and_from, and_left, and_right, cases_Bool, cases_lt}
use Rattle.irv_base.specs.Candidates.{candidates, is_in}
use Rattle.irv_base.proofs.Members.{Member, here, there, member_cases, member_nil, from_flat_map, from_candidates}
use Rattle.assertions.specs.declared.assertion.Assertion.{Assertion}
use Rattle.irv_base.specs.Suffixes.{is_suffix}
use Rattle.assertions.specs.Suffixes.{suffixes_ending}
use Rattle.assertions.specs.Hardness.{low}
use Rattle.assertions.specs.Certificate.{is_end}
use Rattle.assertions.specs.Scores.{Score}
use Rattle.assertions.proofs.Lows.{low_grows}
use Rattle.irv_base.proofs.Suffixes.{suffix_more, suffix-head}
use Rattle.suffix_walk.specs.Kept.{is_parent_kept, all_ending}
use Rattle.suffix_walk.proofs.Runs.{child, all_ending-step, all_ending-whole}
use Rattle.certifier.specs.Gathered.{with_score, gathered}
use Rattle.certifier.specs.Walks.{is_under, ends_in, kept_ends}

filter-none : (p : List ℕ → Bool) (xs : List (List ℕ)) → ((x : List ℕ) → Member x xs → p x ≡ false) → filter p xs ≡ []
filter-none p [] h = refl
filter-none p (x ∷ xs) h = rw (h x here) (filter-none p xs (λ y m. h y (there m)))

module _ (n : ℕ) (records : List (List ℕ)) (limit : ℕ) where
  pub grows : (c : ℕ) (s : List ℕ) → is_suffix n (c ∷ s) ≡ true → low n records s ≤ low n records (c ∷ s)
  grows c s proper = low_grows n records s c (suffix-head n c s proper).1

  pub end-yes : (t : List ℕ) → 0 < length t → is_parent_kept (is_under n records limit) t ≡ true → limit ≤ low n records t → is_end (low n records) limit t ≡ true
  end-yes [] some h le = absurd (omega arith)
  end-yes (c ∷ []) some h le = le-leb limit (low n records (c ∷ [])) le
  end-yes (c ∷ d ∷ t) some h le = and_from (nat_le limit (low n records (c ∷ d ∷ t))) (nat_lt (low n records (d ∷ t)) limit)
      (le-leb limit (low n records (c ∷ d ∷ t)) le) h

  pub end-no : (t : List ℕ) → low n records t < limit → is_end (low n records) limit t ≡ false
  end-no [] l = refl
  end-no (c ∷ []) l = lt-leb limit (low n records (c ∷ [])) l
  end-no (c ∷ d ∷ t) l = and_left (nat_le limit (low n records (c ∷ d ∷ t))) (nat_lt (low n records (d ∷ t)) limit) (lt-leb limit (low n records (c ∷ d ∷ t)) l)

  pub end-past : (c : ℕ) (t : List ℕ) → 0 < length t → limit ≤ low n records t → is_end (low n records) limit (c ∷ t) ≡ false
  end-past c [] some le = absurd (omega arith)
  end-past c (d ∷ t) some le = and_right (nat_le limit (low n records (c ∷ d ∷ t))) (nat_lt (low n records (d ∷ t)) limit)
      (le-ltb (low n records (d ∷ t)) limit le)

  -- ---- none beyond an end: among the children, given what holds for each of them
  beyond-step : (k : ℕ) (t : List ℕ) → is_suffix n t ≡ true → limit ≤ low n records t → (s : List ℕ) →
      ((c : ℕ) → is_suffix n (c ∷ t) ≡ true → limit ≤ low n records (c ∷ t) → Member s (suffixes_ending n k (c ∷ t)) → is_end (low n records) limit s ≡ false) →
      Member s (flat_map (λ c. if is_in t c then [] else suffixes_ending n k (c ∷ t)) (candidates n)) → is_end (low n records) limit s ≡ false
  beyond-step k t proper le s next m =
      let (c, inn, k') = from_flat_map (λ c. if is_in t c then [] else suffixes_ending n k (c ∷ t)) s (candidates n) m in
      elim (cases_Bool (is_in t c)) [
        | inl in' ↦ absurd (member_nil (rw in' at k'))
        | inr out ↦
            let m' : Member s (suffixes_ending n k (c ∷ t)) = rw out at k' in
            let proper' = suffix_more n c t (from_candidates inn) out proper in
            next c proper' (le_trans le (grows c t proper')) m'
      ]

  beyond : (k : ℕ) (t : List ℕ) → 0 < length t → is_suffix n t ≡ true → limit ≤ low n records t → (s : List ℕ) →
      Member s (flat_map (λ c. if is_in t c then [] else suffixes_ending n k (c ∷ t)) (candidates n)) → is_end (low n records) limit s ≡ false
  beyond zero t some proper le s m =
      beyond-step zero t proper le s (λ c p g k. elim (member_cases k) [
        | inl e ↦ ap (is_end (low n records) limit) (sym e)
            ∙ end-past c t some le
        | inr r ↦ absurd (member_nil r)
      ]) m
  beyond (suc k) t some proper le s m =
      beyond-step (suc k) t proper le s
      (λ c p g q. elim (member_cases q) [
        | inl e ↦ ap (is_end (low n records) limit) (sym e)
            ∙ end-past c t some le
        | inr r ↦ beyond k (c ∷ t) (omega arith) p g s r
      ]) m

  -- a suffix that is an end is the only one of those that end in it
  ends-here : (t : List ℕ) → 0 < length t → is_suffix n t ≡ true → is_parent_kept (is_under n records limit) t ≡ true → limit ≤ low n records t →
      ends_in n records limit (all_ending n t) ≡ t ∷ []
  ends-here t some proper parent le =
      elim (cases_lt (length t) n) [
        | inl l ↦ ap (ends_in n records limit) (all_ending-step n t l)
            ∙ kept (flat_map (child n t) (candidates n)) (beyond (n - suc (length t)) t some proper le)
        | inr g ↦ ap (ends_in n records limit) (all_ending-whole n t g) ∙ kept [] (λ s m. absurd (member_nil m))
      ]
    where
      kept : (xs : List (List ℕ)) → ((s : List ℕ) → Member s xs → is_end (low n records) limit s ≡ false) →
          filter (is_end (low n records) limit) (t ∷ xs) ≡ t ∷ []
      kept xs h = rw (end-yes t some parent le) (ap (λ r. t ∷ r) (filter-none (is_end (low n records) limit) xs h))

  ends-enters : (t : List ℕ) → low n records t < limit → length t < n → ends_in n records limit (all_ending n t)
      ≡ ends_in n records limit (flat_map (child n t) (candidates n))
  ends-enters t l g = ap (ends_in n records limit) (all_ending-step n t g) ∙ (rw (end-no t l) refl)

  -- ---- what is gathered, at a suffix whose low is known
  module _ (cmp : Assertion → Assertion → Ordering) (score : List ℕ → Score) (entries : List (Assertion × ℕ)) (x : ℕ) (t : List ℕ)
      (known : x ≡ low n records t) where
    pub gathered-here : 0 < length t → is_suffix n t ≡ true → is_parent_kept (is_under n records limit) t ≡ true → limit ≤ x →
        gathered cmp score entries (ends_in n records limit (all_ending n t)) ≡ with_score cmp entries (score t)
    gathered-here some proper parent le = ap (gathered cmp score entries) (ends-here t some proper parent (omega arith))

    pub gathered-enters : x < limit → length t < n → gathered cmp score entries (ends_in n records limit (all_ending n t))
        ≡ gathered cmp score entries (ends_in n records limit (flat_map (child n t) (candidates n)))
    gathered-enters lt g = ap (gathered cmp score entries) (ends-enters t (omega arith) g)

  pub gathered-append : (cmp : Assertion → Assertion → Ordering) (score : List ℕ → Score) (entries : List (Assertion × ℕ)) (xs ys : List (List ℕ)) →
      gathered cmp score entries (ends_in n records limit (xs ++ ys)) ≡ gathered cmp score (gathered cmp score entries (ends_in n records limit xs))
      (ends_in n records limit ys)
  gathered-append cmp score entries xs ys =
      ap (gathered cmp score entries) (filter-append (is_end (low n records) limit) xs ys)
      ∙ fold-append (λ so_far suffix. with_score cmp so_far (score suffix)) entries (ends_in n records limit xs) (ends_in n records limit ys)

  -- ---- the ends that a walk keeps
  module _ (cmp : Assertion → Assertion → Ordering) (score : List ℕ → Score) (entries : List (Assertion × ℕ)) where
    abbrev pub kept_in : Bool → List (List ℕ) → List (Assertion × ℕ)
    kept_in keeps xs = gathered cmp score entries (kept_ends keeps n records limit xs)

    pub kept-here : (keeps : Bool) (x : ℕ) (t : List ℕ) → x ≡ low n records t → 0 < length t → is_suffix n t ≡ true →
        is_parent_kept (is_under n records limit) t ≡ true → limit ≤ x →
        kept_in keeps (all_ending n t) ≡ (if keeps then with_score cmp entries (score t) else entries)
    kept-here true x t known some proper parent le = gathered-here cmp score entries x t known some proper parent le
    kept-here false x t known some proper parent le = refl

    pub kept-none : (keeps : Bool) → kept_in keeps [] ≡ entries
    kept-none true = refl
    kept-none false = refl

    pub kept-enters : (keeps : Bool) (x : ℕ) (t : List ℕ) → x ≡ low n records t → x < limit → length t < n →
        kept_in keeps (all_ending n t) ≡ kept_in keeps (flat_map (child n t) (candidates n))
    kept-enters true x t known lt short = gathered-enters cmp score entries x t known lt short
    kept-enters false x t known lt short = refl

    pub kept-append : (keeps : Bool) (xs ys : List (List ℕ)) →
        kept_in keeps (xs ++ ys) ≡ gathered cmp score (kept_in keeps xs) (kept_ends keeps n records limit ys)
    kept-append true xs ys = gathered-append cmp score entries xs ys
    kept-append false xs ys = refl
