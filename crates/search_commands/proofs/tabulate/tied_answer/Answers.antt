use Rattle.std.proofs.Common.{inl, inr, refl}
use Rattle.cli_base.specs.Due.{due}
use Rattle.cli_base.proofs.Ended.{told_as}
use Rattle.search_commands.specs.Tabulate.{Tabulates}
use Rattle.search_commands.proofs.Ties.{tie_told}
use Rattle.search_commands.proofs.tabulate.tied_answer.Goals as goal

pub returns : goal.returns
returns c =
    let tie = c.args.tie.now in
    let told = tie_told c.args.votes.now c.candidates.result.now tie.round tie.tied tie.tally c.candidates.ensures.same c.requires in
    told_as (Tabulates c.args.nodes c.args.votes.now) _ (due c.first_tie.result) (inr (inl (_, told, refl))) c.first_tie.ensures
