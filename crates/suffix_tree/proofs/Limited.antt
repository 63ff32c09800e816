-- Suffixes that are scored as far as they are below a limit.
use Rattle.std.proofs.Common.{◌≡◌, ◌==◌, ◌&&◌, ◌||◌, ℕ, suc, ◌+◌, ◌-◌, ◌^◌, ◌<◌, ◌≤◌, nat_lt, Bool, true, false, not, inl, inr, Option, Some, None, List, [], ◌∷◌, ◌++◌, map, filter, cond, get_or, All, refl, sym, subst, ap, ap₂, arith, ltb-true, eqb-true, append-nil, le_trans, ◌∙◌}
use Rattle.std.proofs.lemmas.Bool.{and_parts, le-ltb, or_cases}
use Rattle.std.proofs.lemmas.List.{map-append}
use Rattle.std.proofs.lemmas.List.Elements.{filter-append}
use Rattle.irv_base.specs.Candidates.{candidates, has, is_in, set_of}
use Rattle.irv_base.proofs.Members.{here}
use Rattle.assertions.specs.declared.assertion.Assertion.{Assertion}
use Rattle.assertions.specs.declared.assertion.Assertion.TheVariants.{Neb, Nen}
use Rattle.assertions.specs.Assertions.{true_margin}
use Rattle.assertions.specs.Scores.{Score, offered, all_offered, is_before_that, nens_for, score_of}
use Rattle.assertions.specs.Suffixes.{is_suffix}
use Rattle.set_tallies.specs.Bags.{Kept, Counts, IsOf, AreOf, AreFilledFrom, HasTallies}
use Rattle.suffix_tree.specs.declared.scored.Scored.{Scored}
use Rattle.suffix_tree.specs.Suffixes.{Suffix, with_front}
use Rattle.suffix_tree.specs.Offers.{IsSomeByMargin, with_nens, below}
use Rattle.suffix_tree.specs.Scores.{IsScoredOver, IsScoredBelow, AreScoredBelow}
use Rattle.suffix_tree.proofs.Children.{children_below, filter-more, score-from, score-more, some-by-margin, scored-child, all_pushed}
use Rattle.suffix_tree.proofs.Tails.{set-more, suffix-all, suffix-member, suffix-members, suffix-rest, suffix_more}

-- ---- no offer lowers a score
offered-le : (score : Score) (margin : ℕ) (a : Assertion) → score.low ≤ (offered score margin a).low
offered-le score margin a = go (nat_lt score.low margin || ((score.low == margin) && is_before_that a score.by)) refl where
  go : (b : Bool) → (nat_lt score.low margin || ((score.low == margin) && is_before_that a score.by)) ≡ b →
      score.low ≤ (let s : Score = cond b (record { low = margin; by = Some a }) score in s).low
  go true e = elim (or_cases (nat_lt score.low margin) ((score.low == margin) && is_before_that a score.by) e) [
    | inl l ↦ let lt = ltb-true score.low margin l in omega arith
    | inr r ↦ let same = eqb-true score.low margin (and_parts (score.low == margin) (is_before_that a score.by) r).0 in omega arith
  ]
  go false e = omega arith

nens-le : (row : List ℕ) (c set : ℕ) (behind : List ℕ) (score : Score) → score.low ≤ (with_nens row c set score behind).low
nens-le row c set [] score = omega arith
nens-le row c set (l ∷ rest) score =
    le_trans (offered-le score (get_or row c 0 - get_or row l 0) (Nen c l set))
    (nens-le row c set rest (offered score (get_or row c 0 - get_or row l 0) (Nen c l set)))

-- ---- the score, if it is below the limit
pub below-none : (limit : ℕ) (score : Score) → limit ≤ score.low → None ≡ below limit score
below-none limit score l = ap (λ b. cond b (Some score) None) (sym (le-ltb score.low limit l))

-- the score isn't below the limit once it has reached it
pub nens-reached : (row : List ℕ) (c set limit : ℕ) (behind : List ℕ) (score whole : Score) → limit ≤ score.low → with_nens row c set score behind ≡ whole →
    None ≡ below limit whole
nens-reached row c set limit behind score whole l is =
    below-none limit whole (subst (λ s. limit ≤ s.low) is (le_trans l (nens-le row c set behind score)))

-- computed from a row of tallies, it is the score from the records
pub nens-of : (records : List (List ℕ)) (row : List ℕ) (n set c : ℕ) → HasTallies records n set row → c < n → has set c ≡ true →
    (behind : List ℕ) → All (λ l. l < n) behind → All (λ l. has set l ≡ true) behind → (score : Score) →
    with_nens row c set score behind ≡ all_offered records score (nens_for c set behind)
nens-of records row n set c tallied below inside [] all members score = refl
nens-of records row n set c tallied below inside (l ∷ rest) all members score =
    let margin : get_or row c 0 - get_or row l 0 ≡ true_margin records (Nen c l set) =
    ap₂ (λ x y. x - y) (tallied c below inside) (tallied l (all 0 0 (omega arith)) (members 0 0 (omega arith))) in
    nens-of records row n set c tallied below inside rest (λ k d m. all (suc k) d (omega arith)) (λ k d m. members (suc k) d (omega arith))
    (offered score (get_or row c 0 - get_or row l 0) (Nen c l set))
    ∙ ap (λ m. all_offered records (offered score m (Nen c l set)) (nens_for c set rest)) margin

-- this is the score of the suffix with the candidate in front
pub scored-by_row : (records : List (List ℕ)) (n m c set : ℕ) (t row : List ℕ) (from with_nebs : Score) → is_suffix n (c ∷ t) ≡ true → n ≡ m → c < n →
    set ≡ set_of (c ∷ t) → from ≡ score_of n records t →
    with_nebs ≡ all_offered records from (map (λ w. Neb w c) (filter (λ w. not (has set w)) (candidates n))) →
    HasTallies records m set row → with_nens row c set with_nebs t ≡ score_of n records (c ∷ t)
scored-by_row records n m c set t row from with_nebs longer same below is scored nebs tallied =
    score-more n c set records t from with_nebs (with_nens row c set with_nebs t) longer is scored nebs
    (nens-of records row m set c tallied (subst (λ k. c < k) same below) (suffix-member n c set (c ∷ t) longer is here) t
    (subst (λ k. All (λ l. l < k) t) same (suffix-all n t (suffix-rest n c t longer))) (suffix-members n c set t longer is) with_nebs)

-- the same, from what is known about the parent, the NEBs and the set
pub scored-from_parent : (bag : Kept) (counts : Counts) (parent : Scored) (c set wider : ℕ) (with_nebs : Score) → c < parent.tail.n →
    is_in parent.tail.list c ≡ false → parent.tail.n ≡ bag.n → IsScoredOver bag parent → is_suffix parent.tail.n parent.tail.list ≡ true →
    set ≡ set_of parent.tail.list → (has set c ≡ false → wider ≡ set + 2 ^ c) → AreFilledFrom bag counts →
    ((records : List (List ℕ)) → AreOf counts records → IsSomeByMargin (record { low = parent.low; by = parent.by }) →
    with_nebs ≡ all_offered records (record { low = parent.low; by = parent.by })
    (map (λ w. Neb w c) (filter (λ w. not (has wider w)) (candidates counts.n)))) →
    (records : List (List ℕ)) → IsOf bag records → (row : List ℕ) → HasTallies records bag.n wider row →
    with_nens row c wider with_nebs parent.tail.list ≡ score_of parent.tail.n records (c ∷ parent.tail.list)
scored-from_parent bag counts parent c set wider with_nebs below out contest scored proper is more filled nebs records h row tallied =
    let t = parent.tail in
    let start : Score = record { low = parent.low; by = parent.by } in
    let from = score-from records parent (scored records h) in
    let n : counts.n ≡ t.n = filled.same ∙ sym contest in
    scored-by_row records t.n bag.n c wider t.list row start with_nebs (suffix_more t.n c t.list below out proper) contest below
    (set-more t.n c set wider t.list proper out is more) from
    (nebs records (filled.own records h) (some-by-margin records t.n t.list start from)
    ∙ ap (λ k. all_offered records start (map (λ w. Neb w c) (filter (λ w. not (has wider w)) (candidates k)))) n)
    tallied

-- ---- the suffix with its score
abbrev pub scored_as : Suffix → Score → Scored
scored_as tail score = record { tail = tail; low = score.low; by = score.by }

module _ (bag : Kept) (limit : ℕ) (t : Suffix) (c : ℕ) (whole : Score)
    (is : (records : List (List ℕ)) → IsOf bag records → whole ≡ score_of t.n records (c ∷ t.list)) where
  whole-scored : IsScoredOver bag (scored_as (with_front t c) whole)
  whole-scored records h = scored-child records t (with_front t c) c whole refl (is records h)

  found : (b : Bool) (o : Option Score) → o ≡ cond b (Some whole) None → nat_lt whole.low limit ≡ b → (s : Score) → o ≡ Some s →
      Some (scored_as (with_front t c) s) ≡ cond (nat_lt whole.low limit) (Some (scored_as (with_front t c) whole)) None
  found true o e b s f =
      let same : s ≡ whole = cc in
      ap (λ x. Some (scored_as (with_front t c) x)) same ∙ ap (λ b. cond b (Some (scored_as (with_front t c) whole)) None) (sym b)
  found false o e b s f = let no : Some s ≡ None = sym f ∙ e in cc

  pub child-found : (o : Option Score) → o ≡ below limit whole → (s : Score) → o ≡ Some s →
      IsScoredBelow bag limit (with_front t c) (Some (scored_as (with_front t c) s))
  child-found o e s f = record {
    whole = scored_as (with_front t c) whole;
    tail_is = refl;
    scored = whole-scored;
    found_is = found (nat_lt whole.low limit) o e refl s f;
  }

  none : (b : Bool) (o : Option Score) → o ≡ cond b (Some whole) None → nat_lt whole.low limit ≡ b → o ≡ None →
      (let x : Option Scored = None in x) ≡ cond (nat_lt whole.low limit) (Some (scored_as (with_front t c) whole)) None
  none true o e b f = let no : Some whole ≡ None = sym e ∙ f in cc
  none false o e b f = ap (λ b. cond b (Some (scored_as (with_front t c) whole)) None) (sym b)

  pub child-left_out : (o : Option Score) → o ≡ below limit whole → o ≡ None → IsScoredBelow bag limit (with_front t c) None
  child-left_out o e f = record {
    whole = scored_as (with_front t c) whole;
    tail_is = refl;
    scored = whole-scored;
    found_is = none (nat_lt whole.low limit) o e refl f;
  }

-- ---- the longer suffixes, as far as they are made
abbrev in_list : Option Scored → List Scored
in_list None = []
in_list (Some s) = s ∷ []

one_more : (bag : Kept) (limit : ℕ) (tails : List Suffix) (tail : Suffix) (items : List Scored) (found : Option Scored) →
    AreScoredBelow bag limit tails items → IsScoredBelow bag limit tail found → AreScoredBelow bag limit (tails ++ tail ∷ []) (items ++ in_list found)
one_more bag limit tails tail items found s o = record {
  all = s.all ++ o.whole ∷ [];
  tails_are = map-append (λ x. x.tail) s.all (o.whole ∷ []) ∙ ap₂ (λ xs x. xs ++ x ∷ []) s.tails_are o.tail_is;
  scored = all_pushed (IsScoredOver bag) s.all (s.all ++ o.whole ∷ []) o.whole s.scored o.scored refl;
  found_are = ap₂ (λ xs x. xs ++ in_list x) s.found_are o.found_is ∙ ap (λ ys. filter is_below s.all ++ ys) (last (nat_lt o.whole.low limit))
      ∙ sym (filter-append is_below s.all (o.whole ∷ []));
}
  where
    is_below : Scored → Bool
    is_below x = nat_lt x.low limit

    last : (b : Bool) → in_list (cond b (Some o.whole) None) ≡ cond b (o.whole ∷ []) []
    last true = refl
    last false = refl

module _ (bag : Kept) (limit : ℕ) (t : Suffix) (k : ℕ) (items : List Scored) (s : AreScoredBelow bag limit (children_below k t) items) where
  next : is_in t.list k ≡ false → children_below k t ++ with_front t k ∷ [] ≡ children_below (k + 1) t
  next out =
      let passes : not (is_in t.list k) ≡ true = ap not out in
      sym (rw (filter-more (with_front t) (λ c. not (is_in t.list c)) k, passes) refl)

  pub found-pushed : is_in t.list k ≡ false → (x : Scored) → IsScoredBelow bag limit (with_front t k) (Some x) → (new : List Scored) →
      new ≡ items ++ x ∷ [] → AreScoredBelow bag limit (children_below (k + 1) t) new
  found-pushed out x o new e =
      subst (λ tails. AreScoredBelow bag limit tails new) (next out)
      (subst (AreScoredBelow bag limit (children_below k t ++ with_front t k ∷ [])) (sym e)
      (one_more bag limit (children_below k t) (with_front t k) items (Some x) s o))

  pub none-pushed : is_in t.list k ≡ false → IsScoredBelow bag limit (with_front t k) None → (new : List Scored) → new ≡ items →
      AreScoredBelow bag limit (children_below (k + 1) t) new
  none-pushed out o new e =
      subst (λ tails. AreScoredBelow bag limit tails new) (next out)
      (subst (AreScoredBelow bag limit (children_below k t ++ with_front t k ∷ [])) (append-nil items ∙ sym e)
      (one_more bag limit (children_below k t) (with_front t k) items None s o))

pub none-below : (bag : Kept) (limit : ℕ) (t : Suffix) (items : List Scored) → items ≡ [] → AreScoredBelow bag limit (children_below 0 t) items
none-below bag limit t items e = record { all = []; tails_are = refl; scored = λ i d l. absurd (omega arith); found_are = e }
