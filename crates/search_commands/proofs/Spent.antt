-- A search whose budget runs out, as it is reported: nodes as nodes, and sets as sets.
use Rattle.std.proofs.Common.{◌≡◌, ℕ, ◌<◌, true, List, ap, ◌∙◌}
use Rattle.budget.specs.declared.budget.Budget.{Budget}
use Rattle.budget.specs.declared.budget.Budget.TheVariants.{Nodes, Sets}
use Rattle.irv_base.specs.Names.{Id}
use Rattle.irv_base.specs.Orders.{is_order}
use Rattle.assertions.proofs.Listings.{start_is_alternative}
use Rattle.ballots.specs.Ballots.{BallotFile}
use Rattle.contest_search.specs.Budget.{IsSpentIn, IsSpentBySetsIn}
use Rattle.contest_search.specs.Contest.{candidate_count}
use Rattle.report.specs.Ends.{spent_sets_text, spent_text}
use Rattle.search_commands.specs.Ends.{HasSpent}

module _ (ballots : BallotFile) (order : List ℕ) (margin : ℕ) where
  pub spent_named : (budget : Budget) (last : ℕ) → IsSpentIn budget ballots last order margin → last < candidate_count ballots
  spent_named (Nodes nodes) last is = is.named.candidate
  spent_named (Sets sets) last is = absurd is

  pub spent_order : (budget : Budget) (last : ℕ) → IsSpentIn budget ballots last order margin → is_order (candidate_count ballots) order ≡ true
  spent_order (Nodes nodes) last is = is.alternative.0
  spent_order (Sets sets) last is = absurd is

  pub sets_order : (budget : Budget) (sets : ℕ) → 1 < candidate_count ballots → IsSpentBySetsIn budget ballots sets order margin →
      is_order (candidate_count ballots) order ≡ true
  sets_order (Nodes nodes) sets two is = absurd is
  sets_order (Sets most) sets two (same, is) =
      ap (is_order (candidate_count ballots)) is.start
      ∙ (start_is_alternative (candidate_count ballots) is.winner is.won.order two is.won.permutation is.won.elects).0

  module _ (names : List Id) (named : names ≡ ballots.candidates) where
    pub spent_told : (budget : Budget) (last : ℕ) → IsSpentIn budget ballots last order margin → HasSpent budget ballots (spent_text names last order margin)
    spent_told (Nodes nodes) last is = record {
      last = last;
      order = order;
      margin = margin;
      is = is;
      shown = ap (λ names. spent_text names last order margin) named;
    }
    spent_told (Sets sets) last is = absurd is

    pub sets_told : (budget : Budget) (sets : ℕ) → IsSpentBySetsIn budget ballots sets order margin →
        HasSpent budget ballots (spent_sets_text names sets order margin)
    sets_told (Nodes nodes) sets is = absurd is
    sets_told (Sets most) sets (same, is) = record {
      order = order;
      margin = margin;
      is = is;
      shown = ap (λ names. spent_sets_text names sets order margin) named ∙ ap (λ k. spent_sets_text ballots.candidates k order margin) same;
    }
