-- What a search for the fewest NENs answers.
use Rattle.std.specs.Prelude.{◌≡◌, ℕ, ◌<◌, ◌≤◌, List, None, Some, Ok, All, ⊤}
use Rattle.assertions.specs.Assertions.{true_margin}
use Rattle.assertions.specs.Certificate.{certificate_order}
use Rattle.assertions.specs.Hardness.{low, start_order, first_bound}
use Rattle.assertions.specs.declared.assertion.Claim.{Claim}
use Rattle.irv_tabulator.specs.declared.tabulated.Tabulated.{Tabulated}
use Rattle.fewest.specs.Apart.{HasFewest}
use Rattle.set_walk.specs.Answers.{first_within}
use Rattle.set_walk.specs.Walks.{passes}
use Rattle.nen_cut.specs.Floors.{assertions_in}
use Rattle.set_search.specs.Answers.{IsUndecided}
use Rattle.set_search.specs.Sets.{best_of}
use Rattle.set_search.specs.declared.ends.SetsFault.{SetsFault}
use Rattle.set_search.specs.declared.ends.SetsFault.TheVariants.{Spent, Memory}
use Rattle.fewest_search.specs.Gap.{least_margin}
use Rattle.fewest_search.specs.InOrder.{IsRising}
use Rattle.fewest_search.specs.Needed.{IsNeededWithin}
use Rattle.fewest_search.specs.Sets.{fewest_sets}
use Rattle.fewest_search.specs.declared.ends.FewestAssertions.{FewestAssertions}
use Rattle.fewest_search.specs.declared.ends.FewestEnd.{FewestEnd}
use Rattle.fewest_search.specs.declared.ends.FewestEnd.TheVariants.{Found, Undecided}

-- the claims are true with their margins, and in the fixed order; no true assertions of at least the margin that cover have fewer NENs;
-- each claim is needed as far as the budget shows it, and the claims cover within the budget
pub record AreFewest (n : ℕ) (records : List (List ℕ)) (winner sets margin : ℕ)
    (claims : List Claim) : Type 0 where
  pub measured : All (λ claim. claim.margin ≡ true_margin records claim.assertion) claims
  pub rising : IsRising claims
  pub fewest : HasFewest n winner records margin (assertions_in claims)
  pub needed : All (λ claim. IsNeededWithin n winner sets (assertions_in claims) claim.assertion) claims
  pub covered : first_within n winner sets (passes (assertions_in claims)) ≡ Ok None

-- the best margin, which is above 0, the certificate's order, and claims with the fewest NENs at the smallest margin that the gap leaves; the
-- budget has the sets that are needed
pub record IsFewest (n : ℕ) (records : List (List ℕ)) (winner sets gap : ℕ)
    (found : FewestAssertions) : Type 0 where
  pub margin : found.margin ≡ best_of n records winner
  pub some : 1 ≤ found.margin
  pub order :
      certificate_order n winner (low n records) (best_of n records winner) ≡ Some found.order
  pub claims : AreFewest n records winner sets (least_margin gap (best_of n records winner))
      found.claims.items
  pub within : fewest_sets n records winner ≤ sets

-- more sets are needed than the budget has; the answer has the start order with its hardness, which is above 0
pub record IsSpent (n : ℕ) (records : List (List ℕ)) (tab : Tabulated) (sets : ℕ)
    (order : List ℕ) (margin : ℕ) : Type 0 where
  pub above : sets < fewest_sets n records tab.winner
  pub start : order ≡ start_order tab.order
  pub hardness : margin ≡ first_bound n records tab.order
  pub some : 1 ≤ margin

abbrev pub IsEnd : ℕ → List (List ℕ) → Tabulated → ℕ → ℕ → FewestEnd → Type 0
IsEnd n records tab sets gap (Found found) = IsFewest n records tab.winner sets gap found
IsEnd n records tab sets gap Undecided = IsUndecided n records tab sets

-- running out of memory says nothing
abbrev pub IsFault : ℕ → List (List ℕ) → Tabulated → ℕ → SetsFault → Type 0
IsFault n records tab sets (Spent order margin) = IsSpent n records tab sets order margin
IsFault n records tab sets Memory = ⊤
