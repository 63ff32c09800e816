-- The laws of the fewest NENs of a contest.
use Rattle.std.specs.Prelude.{◌≡◌, ◌↔◌, ℕ, ◌-◌, ◌*◌, ◌^◌, ◌<◌, ◌≤◌, List, ◌∷◌, ◌++◌, All, Contains, IsTrue}
use Rattle.assertions.specs.declared.assertion.Claim.{Claim}
use Rattle.fewest.specs.Nens.{is_nen}
use Rattle.irv_tabulator.specs.declared.tabulated.Tabulated.{Tabulated}
use Rattle.nen_cut.specs.Floors.{assertions_in}
use Rattle.fewest_search.specs.Answers.{AreFewest, IsFewest, IsSpent}
use Rattle.fewest_search.specs.Gap.{least_margin}
use Rattle.fewest_search.specs.Needed.{IsOpen}
use Rattle.fewest_search.specs.Sets.{fewest_sets}
use Rattle.fewest_search.specs.declared.ends.FewestAssertions.{FewestAssertions}

-- none of these three sets is needed: the empty set, the set of only the winner, and the set of all candidates
abbrev pub SetsAreFew : Type 0
SetsAreFew =
    (n winner : ℕ) (records : List (List ℕ)) → winner < n → 1 < n →
    fewest_sets n records winner ≤ 2 ^ n - 3

abbrev pub NeverBoth : Type 0
NeverBoth =
    (n sets gap margin : ℕ) (records : List (List ℕ)) (tab : Tabulated) (order : List ℕ)
    (found : FewestAssertions) →
    IsFewest n records tab.winner sets gap found → IsSpent n records tab sets order margin → ⊥

-- an order stands without one of the claims
abbrev pub AllAreNeeded : Type 0
AllAreNeeded =
    (n winner sets margin : ℕ) (records : List (List ℕ)) (claims before : List Claim) (claim : Claim)
    (later : List Claim) → winner < n → 1 < n → 2 ^ n - 3 ≤ sets →
    AreFewest n records winner sets margin claims → claims ≡ before ++ claim ∷ later →
    IsOpen n winner (assertions_in (before ++ later))

abbrev pub NensAreNeeded : Type 0
NensAreNeeded =
    (n winner sets margin : ℕ) (records : List (List ℕ)) (claims before : List Claim) (claim : Claim)
    (later : List Claim) →
    AreFewest n records winner sets margin claims → claims ≡ before ++ claim ∷ later →
    IsTrue (is_nen claim.assertion) → IsOpen n winner (assertions_in (before ++ later))

-- it is the smallest number of votes, at least one, that isn't below the best margin by more than this number of thousandths of it
abbrev pub GapIsRoundedUp : Type 0
GapIsRoundedUp =
    (gap best votes : ℕ) →
    ((least_margin gap best ≤ votes) ↔ ((1 ≤ votes) × (best * (1000 - gap) ≤ 1000 * votes)))

-- without a gap it is the best margin
abbrev pub NoGapIsBest : Type 0
NoGapIsBest = (best : ℕ) → 1 ≤ best → least_margin 0 best ≡ best

-- no claim has a margin below the minimum, and some claim has a margin not above the best one
abbrev pub BestIsReached : Type 0
BestIsReached =
    (n winner sets gap : ℕ) (records : List (List ℕ)) (found : FewestAssertions) → winner < n → 1 < n →
    IsFewest n records winner sets gap found →
    All (λ claim. least_margin gap found.margin ≤ claim.margin) found.claims.items
    × ((claim : Claim) × Contains found.claims.items claim × (claim.margin ≤ found.margin))
