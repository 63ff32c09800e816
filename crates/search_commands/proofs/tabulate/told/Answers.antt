use Rattle.std.proofs.Common.{subst}
use Rattle.std.specs.Option.{MatchOption}
use Rattle.irv_base.specs.Tabulation.{HasNoTie}
use Rattle.irv_tabulator.specs.Results.{IsTieOf}
use Rattle.contest_search.specs.Contest.{candidate_count}
use Rattle.contest_search.proofs.Findings.{tabulated_there, elected_untied}
use Rattle.search_commands.proofs.tabulate.told.Goals as goal

pub rounds-requires-clause-decided : goal.rounds-requires-clause-decided
rounds-requires-clause-decided g c =
    let ballots = c.args.votes.now in
    let t = c.args.tabulated.now in
    let is = tabulated_there ballots c.args.counted.now.bag t c.requires in
    elected_untied ballots t is
    (subst (λ o. MatchOption o (HasNoTie ballots.rankings t.order) (IsTieOf (candidate_count ballots) ballots.rankings)) c.in-None.is
    (c.tie.ensures (candidate_count ballots) ballots.rankings is))
