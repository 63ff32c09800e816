-- The outcome of a contest from a row with each candidate's first preferences.
use Rattle.std.proofs.Common.{◌≡◌, ◌≢◌, ◌∙◌, ◌==◌, ℕ, ◌-◌, ◌<◌, ◌≤◌, max, not, true, Err, Ok, List, [], ◌∷◌, length, map, filter, fold, get_or, slice_index, refl, sym, ap, subst, arith, eqb-true}
use Rattle.std.proofs.lemmas.List.FromFn.{get_or-map-range_with_len, length-map-range_with_len}
use Rattle.irv_base.specs.Candidates.{all_but, candidates, is_distinct, set_of}
use Rattle.irv_base.proofs.Members.{Member, here, from_candidates, from_filter, member-from_contains}
use Rattle.std.proofs.lemmas.List.{get_or_default}
use Rattle.irv_base.proofs.Distinct.{distinct-range, test-distinct}
use Rattle.plurality.specs.Plurality.{first_preferences, greatest, leaders}
use Rattle.plurality.specs.Plural.{margin, outcome_of, outcome_with}
use Rattle.plurality.proofs.Lists.{distinct-filter, filter-same, map-same, max-bounds}

-- ---- who leads
pub leader-below : (n : ℕ) (records : List (List ℕ)) (c : ℕ) → Member c (leaders n records) → c < n
leader-below n records c m = from_candidates (from_filter (λ d. first_preferences records d == greatest n records) (candidates n) m).0

pub leader-has : (n : ℕ) (records : List (List ℕ)) (c : ℕ) → Member c (leaders n records) → first_preferences records c ≡ greatest n records
leader-has n records c m =
    eqb-true (first_preferences records c) (greatest n records)
    (from_filter (λ d. first_preferences records d == greatest n records) (candidates n) m).1

pub leaders-differ : (n : ℕ) (records : List (List ℕ)) → is_distinct (leaders n records) ≡ true
leaders-differ n records =
    test-distinct (distinct-filter (λ d. first_preferences records d == greatest n records) (candidates n) (distinct-range 0 n))

pub loser-below : (n w loser : ℕ) → Member loser (all_but n w) → loser < n
loser-below n w loser m = from_candidates (from_filter (λ c. not (c == w)) (candidates n) m).0

-- ---- a sole leader has won, and otherwise there is a tie
pub is-tie : (n : ℕ) (records : List (List ℕ)) (those : List ℕ) → length those ≢ 1 →
    outcome_with n records those ≡ Err (record { tied = set_of those; tally = greatest n records })
is-tie n records [] several = refl
is-tie n records (c ∷ []) several = absurd (several refl)
is-tie n records (c ∷ d ∷ those) several = refl

pub is-alone : (those : List ℕ) (w : ℕ) → length those ≡ 1 → w ≡ get_or those 0 w → those ≡ w ∷ []
is-alone [] w one first = absurd (omega arith)
is-alone (c ∷ []) w one first = ap (λ x. x ∷ []) (sym first)
is-alone (c ∷ d ∷ those) w one first = absurd (omega arith)

-- ---- a row with each candidate's first preferences, the greatest of them, and those who have it
pub record IsCounted (n : ℕ) (records : List (List ℕ)) (row : List ℕ) (tally : ℕ) (those : List ℕ) : Type 0 where
  pub row_is : row ≡ map (first_preferences records) (candidates n)
  pub most : tally ≡ fold max 0 row
  pub those_are : those ≡ filter (λ c. slice_index row c == tally) (candidates (length row))

module _ (n : ℕ) (records : List (List ℕ)) (row : List ℕ) (is : row ≡ map (first_preferences records) (candidates n)) where
  pub row-long : length row ≡ n
  row-long = ap length is ∙ length-map-range_with_len (first_preferences records) 0 n

  pub row-at : (c : ℕ) → c < n → slice_index row c ≡ first_preferences records c
  row-at c below = ap (λ r. slice_index r c) is ∙ get_or-map-range_with_len (first_preferences records) 0 n c c 0 below (omega arith)

module _ (n : ℕ) (records : List (List ℕ)) (row : List ℕ) (tally : ℕ) (those : List ℕ) (counted : IsCounted n records row tally those) where
  tally-is : tally ≡ greatest n records
  tally-is = counted.most ∙ ap (fold max 0) counted.row_is

  leaders-are : those ≡ leaders n records
  leaders-are =
      counted.those_are
      ∙ ap (λ k. filter (λ c. slice_index row c == tally) (candidates k)) (row-long n records row counted.row_is)
      ∙ filter-same (λ c. slice_index row c == tally) (λ c. first_preferences records c == greatest n records) (candidates n) (λ c m.
      let here' = row-at n records row counted.row_is c (from_candidates m) in
      λ i. here' i == tally-is i)

  pub those-differ : is_distinct those ≡ true
  those-differ = ap is_distinct leaders-are ∙ leaders-differ n records

  pub tie-of : (tied : ℕ) → tied ≡ set_of those → length those ≢ 1 → outcome_of n records ≡ Err (record { tied = tied; tally = tally })
  tie-of tied who several =
      ap (outcome_with n records) (sym leaders-are) ∙ is-tie n records those several
      ∙ λ i. Err (record { tied = sym who i; tally = sym tally-is i })

  module _ (w : ℕ) (one : length those ≡ 1) (first : w ≡ get_or those 0 w) where
    leads : Member w (leaders n records)
    leads = subst (Member w) (sym (is-alone those w one first) ∙ leaders-are) here

    pub winner-below : w < n
    winner-below = leader-below n records w leads

    -- each number of the row is at most the winner's
    pub none-above : (k d : ℕ) → k < length row → get_or row k d ≤ slice_index row w
    none-above k d below =
        let at : Member (get_or row k d) row = member-from_contains (get_or row k d) row (k, below, get_or_default row k (get_or row k d) d below) in
        let most = (max-bounds 0 row).1 (get_or row k d) at in
        let same = row-at n records row counted.row_is w winner-below ∙ leader-has n records w leads ∙ sym tally-is ∙ counted.most in
        omega arith

    pub won-of : (losers margins : List ℕ) → losers ≡ all_but n w →
        margins ≡ map (λ loser. slice_index row w - slice_index row loser) losers →
        outcome_of n records ≡ Ok (record { winner = w; losers = losers; margins = margins })
    won-of losers margins are margins-are =
        let same : margins ≡ map (margin n records w) (all_but n w) =
        margins-are ∙ ap (map (λ loser. slice_index row w - slice_index row loser)) are
        ∙ map-same (λ loser. slice_index row w - slice_index row loser) (margin n records w) (all_but n w) (λ loser m.
        let at = row-at n records row counted.row_is w winner-below in
        let at' = row-at n records row counted.row_is loser (loser-below n w loser m) in
        λ i. at i - at' i) in
        ap (outcome_with n records) (sym leaders-are ∙ is-alone those w one first)
        ∙ λ i. Ok (record { winner = w; losers = sym are i; margins = sym same i })
