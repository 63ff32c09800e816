-- A contest has at most one first tie to report, and none if it is decided.
use Rattle.std.proofs.Common.{◌≡◌, ℕ, List, sym, ap, ◌∙◌}
use Rattle.irv_base.specs.Names.{Id}
use Rattle.irv_base.proofs.Ties.{first_tie_is_one}
use Rattle.ballots.specs.Ballots.{BallotFile}
use Rattle.report.specs.Ends.{tie_text}
use Rattle.contest_search.specs.Contest.{candidate_count, IsElected, IsTie}
use Rattle.search_commands.specs.Ends.{HasTie}

-- the lines of a tie, printed by the ids of the contest
pub tie_told : (ballots : BallotFile) (names : List Id) (round tied votes : ℕ) → names ≡ ballots.candidates → IsTie ballots round tied votes →
    HasTie ballots (tie_text names round tied votes)
tie_told ballots names round tied votes same is =
    record { round = round; tied = tied; votes = votes; is = is; shown = ap (λ ids. tie_text ids round tied votes) same }

pub tie-one : (ballots : BallotFile) (text other : List ℕ) → HasTie ballots text → HasTie ballots other → text ≡ other
tie-one ballots text other a b =
    let (r, t, v) = first_tie_is_one (candidate_count ballots) ballots.rankings a.round a.tied a.votes b.round b.tied b.votes a.is.counted b.is.counted
    a.is.first b.is.first in
    a.shown ∙ ap (λ x. tie_text ballots.candidates x a.tied a.votes) r ∙ ap (λ x. tie_text ballots.candidates b.round x a.votes) t
    ∙ ap (λ x. tie_text ballots.candidates b.round b.tied x) v ∙ sym b.shown

-- if a tie leaves open who has won, nobody is elected whichever way it is broken
pub never_both : (ballots : BallotFile) (winner : ℕ) (text : List ℕ) → IsElected ballots winner → HasTie ballots text → ⊥
never_both ballots winner text elected t = t.is.undecided (winner, elected)
