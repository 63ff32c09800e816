use Rattle.std.proofs.Common.{subst}
use Rattle.std.specs.Option.{MatchOption}
use Rattle.irv_base.specs.Tabulation.{HasNoTie}
use Rattle.irv_tabulator.specs.Results.{IsTieOf}
use Rattle.contest_search.specs.Contest.{candidate_count}
use Rattle.contest_search.proofs.Findings.{elected_untied}
use Rattle.contest_search.proofs.found.tie_of.Goals as goal

-- without a tie the contest would be decided
pub unreachable-requires : goal.unreachable-requires
unreachable-requires c =
    let contest = c.args.votes.now in
    let t = c.args.tabulated.now in
    let free = subst (λ o. MatchOption o (HasNoTie contest.rankings t.order) (IsTieOf (candidate_count contest) contest.rankings)) c.in-None.is
    (c.tie.ensures (candidate_count contest) contest.rankings c.requires.tabulation) in
    c.requires.undecided (t.winner, elected_untied contest t c.requires.tabulation free)
