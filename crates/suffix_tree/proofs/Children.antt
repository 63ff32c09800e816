-- The score of a suffix, computed from the score of the suffix that it extends, and the children of a suffix, as far as they are
-- made.
use Rattle.std.proofs.Common.{◌≡◌, ℕ, zero, suc, ◌+◌, ◌<◌, Bool, true, false, not, List, [], ◌∷◌, ◌++◌, map, filter, cond, get_or, All, None, if◌then◌else◌, append-nil, subst, refl, sym, ap, arith, add-one, zero-add, ◌∙◌}
use Rattle.std.proofs.Math.Path.{fun_ext}
use Rattle.std.specs.List.{range_with_len}
use Rattle.std.proofs.lemmas.List.{map-append}
use Rattle.std.proofs.lemmas.List.Elements.{filter-append, All-append}
use Rattle.std.proofs.lemmas.List.Sums.{fold-append}
use Rattle.irv_base.specs.Candidates.{candidates, is_in, has, set_of}
use Rattle.assertions.specs.declared.assertion.Assertion.TheVariants.{Neb}
use Rattle.assertions.specs.Assertions.{true_margin}
use Rattle.assertions.specs.Suffixes.{is_suffix}
use Rattle.assertions.specs.Hardness.{low, refuter}
use Rattle.assertions.specs.Scores.{Score, offered, all_offered, score_of, nebs_against, nens_for}
use Rattle.assertions.proofs.Lows.{refuter_is_none}
use Rattle.assertions.proofs.Scored.{score_of_more, score_of_none}
use Rattle.set_tallies.specs.Bags.{Kept}
use Rattle.suffix_tree.specs.declared.scored.Scored.{Scored}
use Rattle.suffix_tree.specs.Offers.{IsSomeByMargin}
use Rattle.suffix_tree.specs.Suffixes.{Suffix, with_front}
use Rattle.suffix_tree.specs.Scores.{IsScored, IsScoredOver}
use Rattle.suffix_tree.proofs.Tails.{suffix-has}

-- ---- scores
pub none-scored : (bag : Kept) (t : Suffix) → t.list ≡ [] → IsScoredOver bag (record { tail = t; low = 0; by = None })
none-scored bag t e = λ records h. record {
  low_is = sym (ap (low t.n records) e ∙ ap (λ s. s.low) (score_of_none t.n records));
  by_is = sym (ap (refuter t.n records) e ∙ ap (λ s. s.by) (score_of_none t.n records));
}

pub nebs_by_set : (n c : ℕ) (t : List ℕ) → is_suffix n t ≡ true → map (λ w. Neb w c) (filter (λ w. not (has (set_of t) w)) (candidates n)) ≡ nebs_against n c t
nebs_by_set n c t h = ap (λ p. map (λ w. Neb w c) (filter p (candidates n))) (fun_ext (λ w. ap not (suffix-has n t w h)))

pub score-more : (n c set : ℕ) (records : List (List ℕ)) (t : List ℕ) (from with_nebs with_nens : Score) → is_suffix n (c ∷ t) ≡ true → set ≡ set_of (c ∷ t) →
    from ≡ score_of n records t →
    with_nebs ≡ all_offered records from (map (λ w. Neb w c) (filter (λ w. not (has set w)) (candidates n))) →
    with_nens ≡ all_offered records with_nebs (nens_for c set t) → with_nens ≡ score_of n records (c ∷ t)
score-more n c set records t from with_nebs with_nens h same e e1 e2 =
    let nebs : with_nebs ≡ all_offered records (score_of n records t) (nebs_against n c (c ∷ t)) =
    e1
    ∙ ap (λ m. all_offered records from (map (λ w. Neb w c) (filter (λ w. not (has m w)) (candidates n)))) same
    ∙ ap (all_offered records from) (nebs_by_set n c (c ∷ t) h)
    ∙ ap (λ s. all_offered records s (nebs_against n c (c ∷ t))) e in
    e2
    ∙ ap (λ m. all_offered records with_nebs (nens_for c m t)) same
    ∙ ap (λ s. all_offered records s (nens_for c (set_of (c ∷ t)) t)) nebs
    ∙ sym (fold-append (λ s a. offered s (true_margin records a) a) (score_of n records t) (nebs_against n c (c ∷ t)) (nens_for c (set_of (c ∷ t)) t))
    ∙ sym (score_of_more n records c t h)

pub score-from : (records : List (List ℕ)) (s : Scored) → IsScored records s → record { low = s.low; by = s.by } ≡ score_of s.tail.n records s.tail.list
score-from records s h = ap (λ x. record { low = x; by = s.by }) h.low_is ∙ ap (λ x. record { low = low s.tail.n records s.tail.list; by = x }) h.by_is

pub some-by-margin : (records : List (List ℕ)) (n : ℕ) (t : List ℕ) (score : Score) → score ≡ score_of n records t → IsSomeByMargin score
some-by-margin records n t score is none = ap (λ s. s.by) is ∙ refuter_is_none n records t (sym (ap (λ s. s.low) is) ∙ none)

pub scored-child : (records : List (List ℕ)) (t tail : Suffix) (c : ℕ) (score : Score) → tail ≡ with_front t c → score ≡ score_of t.n records (c ∷ t.list) →
    IsScored records (record { tail = tail; low = score.low; by = score.by })
scored-child records t tail c score front e = record {
  low_is = ap (λ s. s.low) e ∙ sym (ap (λ x. low x.n records x.list) front);
  by_is = ap (λ s. s.by) e ∙ sym (ap (λ x. refuter x.n records x.list) front);
}

-- ---- the children so far
range-push : (a n : ℕ) → range_with_len a (suc n) ≡ range_with_len a n ++ (a + n) ∷ []
range-push a zero = ap (λ x. x ∷ []) (omega arith)
range-push a (suc n) = ap (λ s. a ∷ s) (range-push (a + 1) n ∙ ap (λ x. range_with_len (a + 1) n ++ x ∷ []) (omega arith))

candidates-more : (n : ℕ) → candidates (n + 1) ≡ candidates n ++ n ∷ []
candidates-more n = ap candidates (add-one n) ∙ range-push 0 n ∙ ap (λ x. candidates n ++ x ∷ []) (zero-add n)

pub filter-more : {X : Type 0} (f : ℕ → X) (p : ℕ → Bool) (n : ℕ) →
    map f (filter p (candidates (n + 1))) ≡ (if p n then map f (filter p (candidates n)) ++ f n ∷ [] else map f (filter p (candidates n)))
filter-more f p n =
    ap (λ s. map f (filter p s)) (candidates-more n)
    ∙ ap (map f) (filter-append p (candidates n) (n ∷ []))
    ∙ map-append f (filter p (candidates n)) (filter p (n ∷ []))
    ∙ last (p n)
  where
    last : (b : Bool) → map f (filter p (candidates n)) ++ map f (cond b (n ∷ []) [])
        ≡ (if b then map f (filter p (candidates n)) ++ f n ∷ [] else map f (filter p (candidates n)))
    last true = refl
    last false = append-nil (map f (filter p (candidates n)))

abbrev pub children_below : ℕ → Suffix → List Suffix
children_below k t = map (with_front t) (filter (λ c. not (is_in t.list c)) (candidates k))

pub pushed_child : (t : Suffix) (k : ℕ) (items : List Scored) (x : Scored) →
    map (λ s. s.tail) items ≡ children_below k t → is_in t.list k ≡ false → x.tail ≡ with_front t k →
    map (λ s. s.tail) (items ++ x ∷ []) ≡ children_below (k + 1) t
pushed_child t k items x h out e =
    let passes : not (is_in t.list k) ≡ true = ap not out in
    map-append (λ s. s.tail) items (x ∷ [])
    ∙ ap (λ s. s ++ x.tail ∷ []) h
    ∙ ap (λ y. children_below k t ++ y ∷ []) e
    ∙ sym (rw (filter-more (with_front t) (λ c. not (is_in t.list c)) k, passes) refl)

pub skipped_child : (t : Suffix) (k : ℕ) → is_in t.list k ≡ true → children_below k t ≡ children_below (k + 1) t
skipped_child t k is =
    let fails : not (is_in t.list k) ≡ false = ap not is in
    sym (rw (filter-more (with_front t) (λ c. not (is_in t.list c)) k, fails) refl)

pub all_pushed : {S : Type 0} (P : S → Type 0) (items new : List S) (x : S) → All P items → P x → new ≡ items ++ x ∷ [] → All P new
all_pushed {S} P items new x h p e = subst (All P) (sym e) (All-append P items (x ∷ []) h one) where
  at : (k : ℕ) (d : S) → k < 1 → get_or (x ∷ []) k d ≡ x
  at zero d l = refl
  at (suc k) d l = absurd (omega arith)

  one : All P (x ∷ [])
  one k d l = subst P (sym (at k d l)) p
