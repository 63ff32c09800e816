-- The number of suffixes that count if claims cover, and what a scan of the alternative winners says about them.
use Rattle.std.specs.Prelude.{◌≡◌, ◌≢◌, ◌<◌, ◌≤◌, ℕ, List, [], ◌∷◌, map, slice_index, Option, Ok, Err}
use Rattle.budget.specs.declared.budget.Budget.{Budget}
use Rattle.budget.specs.declared.budget.Budget.TheVariants.{Nodes, Sets}
use Rattle.assertions.specs.declared.assertion.Assertion.{Assertion}
use Rattle.assertions.specs.declared.assertion.Claim.{Claim}
use Rattle.assertion_file.specs.Content.{Content, candidate_count}
use Rattle.suffix_walk.specs.Kept.{all_ending}
use Rattle.suffix_walk.specs.Walks.{walked}
use Rattle.suffix_walk.specs.declared.walk.Stop.TheVariants.{Found as WalkFound, Spent as WalkSpent}
use Rattle.cover_checker.specs.Covers.{stands}
use Rattle.trimmer.specs.Opened.{opens}
use Rattle.trimmer.specs.Spreading.{AreReached}
use Rattle.trimmer.specs.declared.known.Known.{Known}
use Rattle.trimmer.specs.declared.known.Known.TheVariants.{Suffixes as KnownSuffixes, Sets as KnownSets}
use Rattle.trimmer.specs.declared.scan.Scan.{Scan}
use Rattle.trimmer.specs.declared.scan.Scan.TheVariants.{Covered, Stands, Unclear}

-- for each alternative winner, a walk comes to its end and counts this number of suffixes
abbrev pub AreCounts : ℕ → ℕ → ℕ → List Assertion → List ℕ → Type 0
AreCounts nodes n winner list counts =
    (c : ℕ) → c < n → c ≢ winner →
    walked n nodes (stands list) 0 (all_ending n (c ∷ [])) ≡ Ok (slice_index counts c)

abbrev pub AreWithin : ℕ → List ℕ → Type 0
AreWithin nodes counts = (c : ℕ) → slice_index counts c ≤ nodes

module _ (nodes n winner : ℕ) (others : List Assertion) (claim : Option Assertion) (counts : List ℕ) where
  -- the walk through what opens below a candidate continues from its count
  abbrev pub Goes : ℕ → ℕ → Type 0
  Goes c count =
      walked n nodes (opens others claim) (slice_index counts c) (all_ending n (c ∷ [])) ≡ Ok count

  abbrev pub GoesBelow : ℕ → Type 0
  GoesBelow last = (c : ℕ) → c < last → c ≢ winner → (count : ℕ) × Goes c count

  abbrev pub Scanned : Scan → Type 0
  Scanned (Covered more) = ((c : ℕ) → c < n → c ≢ winner → Goes c (slice_index more c)) × AreWithin nodes more
  Scanned Stands =
      (last : ℕ) × (last < n) × (last ≢ winner) × GoesBelow last × ((order : List ℕ)
      × (walked n nodes (opens others claim) (slice_index counts last) (all_ending n (last ∷ []))
      ≡ Err (WalkFound order)))
  Scanned Unclear =
      (last : ℕ) × (last < n) × (last ≢ winner) × GoesBelow last
      × (walked n nodes (opens others claim) (slice_index counts last) (all_ending n (last ∷ []))
      ≡ Err WalkSpent)

-- the counts with these claims of the file
abbrev pub CountWith : ℕ → Content → List Claim → List ℕ → Type 0
CountWith nodes file claims counts =
    AreCounts nodes (candidate_count file) file.winner (map (λ claim. claim.assertion) claims) counts
    × AreWithin nodes counts

-- the sets that are reached with these claims of the file
abbrev pub ReachedWith : ℕ → Content → List Claim → List ℕ → Type 0
ReachedWith budget file claims reached =
    AreReached (candidate_count file) file.winner budget (map (λ claim. claim.assertion) claims) reached

-- what is known with these claims of the file
abbrev pub IsKnown : Content → List Claim → Known → Type 0
IsKnown file claims (KnownSuffixes known) = CountWith known.nodes file claims known.counts
IsKnown file claims (KnownSets known) = ReachedWith known.budget file claims known.reached

abbrev pub budget_of : Known → Budget
budget_of (KnownSuffixes known) = Nodes known.nodes
budget_of (KnownSets known) = Sets known.budget
