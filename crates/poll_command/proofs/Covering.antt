-- What the checker says of the assertions of a file, as the end of a poll.
use Rattle.std.proofs.Common.{◌≡◌, ℕ, ◌<◌, List, Option, None, Some, option_map, Ok, Err, IsTrue, refl, ap, ◌∙◌}
use Rattle.std.specs.Option.{option_or}
use Rattle.budget.specs.declared.budget.Budget.TheVariants.{Nodes}
use Rattle.irv_base.specs.Orders.{is_order}
use Rattle.irv_base.proofs.Members.{contains-from_member, from_find}
use Rattle.assertions.specs.Suffixes.{alternative_orders}
use Rattle.assertions.proofs.Endings.{alternative_orders_are}
use Rattle.assertion_file.specs.Content.{Content, candidate_count}
use Rattle.cover_checker.specs.Covers.{stands, covered_is, first_over, standing_order, or_spent, verdict_on}
use Rattle.cover_checker.specs.Findings.{assertions_of}
use Rattle.cover_checker.specs.declared.cover.Verdict.{Verdict as CoverVerdict}
use Rattle.cover_checker.specs.declared.cover.Verdict.TheVariants.{Covered, Stands}
use Rattle.cover_checker.specs.declared.cover.CoverFault.TheVariants.{Spent, SpentSets}
use Rattle.cover_checker.proofs.Named.{fault-below}
use Rattle.cli_base.specs.Outcome.{Verdict}
use Rattle.poll_command.specs.Poll.{spent, standing, uncovered}
use Rattle.poll_command.specs.Said.{IsOfFile}

module _ (file : Content) where
  abbrev ended : Option ℕ → Option (List ℕ) → Option Verdict
  ended over order = option_or (option_map (spent file) over) (option_map (standing file) order)

  -- they cover, if the poll continues
  covered-by : (over : Option ℕ) (order : Option (List ℕ)) → ended over order ≡ None → or_spent (option_map Spent over) (verdict_on order) ≡ Ok Covered
  covered-by None None none = refl
  covered-by None (Some order) none = absurd (cc none)
  covered-by (Some last) order none = absurd (cc none)

  pub covered : (nodes : ℕ) → uncovered nodes file ≡ None → covered_is (candidate_count file) file.winner (assertions_of file) (Nodes nodes) ≡ Ok Covered
  covered nodes none =
      covered-by (first_over (candidate_count file) file.winner (assertions_of file) nodes)
      (standing_order (candidate_count file) file.winner (assertions_of file)) none

  -- ---- what the answer names is of the file's candidates

  standing-order : (order : List ℕ) → standing_order (candidate_count file) file.winner (assertions_of file) ≡ Some order →
      IsTrue (is_order (candidate_count file) order)
  standing-order order is =
      ((alternative_orders_are (candidate_count file) file.winner order).0
      (contains-from_member (from_find (stands (assertions_of file)) order (alternative_orders (candidate_count file) file.winner) is).0)).0

  from-standing : (over : Option ℕ) (order : Option (List ℕ)) (found : List ℕ) → or_spent (option_map Spent over) (verdict_on order) ≡ Ok (Stands found) → order ≡ Some found
  from-standing (Some first) order found is = absurd (cc is)
  from-standing None None found is = absurd (cc is)
  from-standing None (Some order) found is = let same : order ≡ found = cc in ap Some same

  pub spent-named : (nodes last : ℕ) → covered_is (candidate_count file) file.winner (assertions_of file) (Nodes nodes) ≡ Err (Spent last) →
      last < candidate_count file
  spent-named nodes last is = fault-below (candidate_count file) file.winner (assertions_of file) (Nodes nodes) last is

  -- a budget of nodes isn't one of sets
  pub never-sets : (nodes sets : ℕ) → covered_is (candidate_count file) file.winner (assertions_of file) (Nodes nodes) ≡ Err (SpentSets sets) → ⊥
  never-sets nodes sets is =
      by (first_over (candidate_count file) file.winner (assertions_of file) nodes) (standing_order (candidate_count file) file.winner (assertions_of file)) is where
        by : (over : Option ℕ) (order : Option (List ℕ)) → or_spent (option_map Spent over) (verdict_on order) ≡ Err (SpentSets sets) → ⊥
        by None order h = cc h
        by (Some last) order h = cc h

  of-file : (verdict : CoverVerdict) → ((order : List ℕ) → verdict ≡ Stands order → IsTrue (is_order (candidate_count file) order)) → IsOfFile file verdict
  of-file Covered ordered = tt
  of-file (Stands order) ordered = ordered order refl

  pub named : (nodes : ℕ) (verdict : CoverVerdict) → covered_is (candidate_count file) file.winner (assertions_of file) (Nodes nodes) ≡ Ok verdict → IsOfFile file verdict
  named nodes verdict is = of-file verdict (λ order same.
      standing-order order
      (from-standing (first_over (candidate_count file) file.winner (assertions_of file) nodes)
      (standing_order (candidate_count file) file.winner (assertions_of file)) order (is ∙ ap Ok same)))
