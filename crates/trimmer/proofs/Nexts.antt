-- From the counts with a claim of a file to the counts without it.
use Rattle.std.proofs.Common.{◌≡◌, ℕ, ◌+◌, ◌<◌, not, ◌&&◌, List, ◌++◌, length, map, take, get_or, Option, Some, Ok, ap, subst, ◌∙◌}
use Rattle.budget.specs.declared.budget.Budget.TheVariants.{Nodes}
use Rattle.assertions.specs.declared.assertion.Assertion.{Assertion}
use Rattle.assertions.specs.declared.assertion.Claim.{Claim}
use Rattle.assertions.specs.Refutation.{refutes}
use Rattle.assertion_file.specs.Content.{Content, candidate_count}
use Rattle.cover_checker.specs.Covers.{stands}
use Rattle.cover_checker.specs.declared.cover.Verdict.TheVariants.{Covered, Stands}
use Rattle.trimmer.specs.Counts.{CountWith, Scanned}
use Rattle.trimmer.specs.Trimmed.{covered_by}
use Rattle.trimmer.specs.declared.scan.Scan.{Scan}
use Rattle.trimmer.specs.declared.scan.Scan.TheVariants.{Covered as ScanCovered, Stands as ScanStands}
use Rattle.trimmer.proofs.Lefts.{assertion_in}
use Rattle.trimmer.proofs.Parted.{stands-parted, take-midst}
use Rattle.trimmer.proofs.Trials.{next-counts, next-covered, next-stands}

-- the scan, under other names
pub scanned-moved : (nodes n m winner other : ℕ) (list same : List Assertion) (claim its : Option Assertion) (counts : List ℕ) (scan : Scan) →
    n ≡ m → winner ≡ other → list ≡ same → claim ≡ its → Scanned nodes n winner list claim counts scan → Scanned nodes m other same its counts scan
scanned-moved nodes n m winner other list same claim its counts scan a b c d h =
    subst (λ its. Scanned nodes m other same its counts scan) d (subst (λ list. Scanned nodes m other list claim counts scan) c
    (subst (λ w. Scanned nodes m w list claim counts scan) b (subst (λ n. Scanned nodes n winner list claim counts scan) a h)))

module _ (nodes : ℕ) (file : Content) (place : ℕ) (later : List Claim) (counts : List ℕ) (d : Claim) (some : 0 < candidate_count file)
    (below : place < length file.claims) (were : CountWith nodes file (take (place + 1) file.claims ++ later) counts) where
  abbrev claim : Assertion
  claim = (get_or file.claims place d).assertion

  abbrev others : List Assertion
  others = map assertion_in (take place file.claims ++ later)

  parted : (s : List ℕ) → stands (map assertion_in (take (place + 1) file.claims ++ later)) s ≡ (stands others s && not (refutes claim s))
  parted s =
      ap (λ claims. stands (map assertion_in claims) s) (take-midst file.claims place d later below)
      ∙ stands-parted (take place file.claims) (get_or file.claims place d) later s

  pub goes-on : (more : List ℕ) → Scanned nodes (candidate_count file) file.winner others (Some claim) counts (ScanCovered more) →
      (covered_by (Nodes nodes) file (take place file.claims ++ later) ≡ Ok Covered) × CountWith nodes file (take place file.claims ++ later) more
  goes-on more scanned = (
    next-covered nodes (candidate_count file) file.winner (map assertion_in (take (place + 1) file.claims ++ later)) others claim some parted counts were.0
        were.1 more scanned,
    (
      next-counts nodes (candidate_count file) file.winner (map assertion_in (take (place + 1) file.claims ++ later)) others claim some parted counts were.0
          were.1 more scanned,
      scanned.1,
    ),
  )

  pub stays-on : Scanned nodes (candidate_count file) file.winner others (Some claim) counts ScanStands →
      (order : List ℕ) × (covered_by (Nodes nodes) file (take place file.claims ++ later) ≡ Ok (Stands order))
  stays-on scanned =
      next-stands nodes (candidate_count file) file.winner (map assertion_in (take (place + 1) file.claims ++ later)) others claim some parted counts were.0
      were.1 scanned
