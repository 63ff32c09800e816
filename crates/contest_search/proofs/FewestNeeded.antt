-- A search for the fewest NENs runs out of budget exactly if more sets are needed, because no budget has two ends.
use Rattle.std.proofs.Common.{◌≡◌, ℕ, ◌<◌, ◌≤◌, ◌==◌, List, inl, inr, sym, ap, subst, arith, ◌∙◌}
use Rattle.std.specs.Prelude.{max, if◌then◌else◌}
use Rattle.std.proofs.lemmas.Bool.{cases_lt}
use Rattle.assertions.specs.Hardness.{first_bound}
use Rattle.assertions.proofs.Decided.{positive-decided}
use Rattle.ballots.specs.Ballots.{BallotFile}
use Rattle.assertion_file.specs.Content.{Content}
use Rattle.budget.specs.declared.budget.Budget.TheVariants.{Sets}
use Rattle.nen_cut.specs.Floors.{sets_beside}
use Rattle.set_search.specs.Sets.{cover_sets, order_sets}
use Rattle.contest_search.specs.Budget.{IsTold, sets_of}
use Rattle.contest_search.specs.Certificate.{margin_of}
use Rattle.contest_search.specs.Contest.{candidate_count, IsUndecided, IsWon}
use Rattle.contest_search.specs.Fewest.{IsFewestFoundIn, IsSpentFewest, fewest_sets_of}
use Rattle.contest_search.proofs.Contests.{same_tabulated, winner-below, winner-one}

-- a contest that isn't decided has no margin
no_margin : (ballots : BallotFile) (winner : ℕ) → 1 < candidate_count ballots → IsWon ballots winner → IsUndecided ballots → margin_of ballots winner ≡ 0
no_margin ballots winner two won undecided = elim (cases_lt 0 (margin_of ballots winner)) [
  | inl some ↦
      absurd (undecided (
        winner,
        positive-decided (candidate_count ballots) winner ballots.rankings (winner-below ballots winner won) two (omega (arith, some)),
      ))
  | inr none ↦ omega (arith, none)
]

-- without a margin no more sets are needed than for a search
none_beside : (cover order best : ℕ) (beside : ℕ → ℕ) → best ≡ 0 → max order (if best == 0 then 0 else beside best) ≤ max cover order
none_beside cover order best beside none = subst (λ best. max order (if best == 0 then 0 else beside best) ≤ max cover order) (sym none) (omega arith)

module _ (ballots : BallotFile) (sets : ℕ) where
  -- all files have the best margin
  pub margin-same : (gap : ℕ) (file other : Content) → IsFewestFoundIn sets gap ballots file → IsFewestFoundIn sets gap ballots other → file.margin ≡ other.margin
  margin-same gap file other a b =
      ap (λ (f : Content). f.margin) a.is ∙ ap (margin_of ballots) (winner-one ballots a.winner b.winner a.won b.won)
      ∙ sym (ap (λ (f : Content). f.margin) b.is)

  module _ (order : List ℕ) (margin : ℕ) where
    pub never_both_ends : (gap : ℕ) (file : Content) → IsFewestFoundIn sets gap ballots file → IsSpentFewest sets ballots order margin → ⊥
    never_both_ends gap file found is =
        let within = found.within in
        let above = is.above in
        let same = ap (fewest_sets_of ballots) (winner-one ballots found.winner is.winner found.won is.won) in
        omega (arith, within, above, same)

    -- nor is a tie reported
    pub never_told : 1 < candidate_count ballots → IsUndecided ballots → IsTold (Sets sets) ballots → IsSpentFewest sets ballots order margin → ⊥
    never_told two undecided told is =
        let n = candidate_count ballots in
        let records = ballots.rankings in
        let few : fewest_sets_of ballots is.winner ≤ sets_of ballots is.winner =
        none_beside (cover_sets n records is.winner) (order_sets n records is.winner) (margin_of ballots is.winner) (sets_beside n records is.winner)
        (no_margin ballots is.winner two is.won undecided) in
        let bound = ap (first_bound n records) (same_tabulated ballots is.winner told.winner is.won told.won) in
        let same = ap (sets_of ballots) (winner-one ballots is.winner told.winner is.won told.won) in
        let some = is.some in
        let hard = is.hardness in
        let above = is.above in
        let within = told.within (omega (arith, some, hard, bound)) in
        omega (arith, few, above, within, same)
