use Rattle.std.proofs.Common.{inr, refl, ap}
use Rattle.cli_base.specs.Due.{due}
use Rattle.cli_base.proofs.Ended.{told_as}
use Rattle.report.specs.Ends.{spent_text}
use Rattle.search_commands.specs.Tabulate.{HasStopped, Tabulates}
use Rattle.search_commands.proofs.tabulate.stopped_answer.Goals as goal

pub returns : goal.returns
returns c =
    let stopped : HasStopped c.args.nodes c.args.votes.now _ = record {
      last = c.args.last;
      order = c.args.order.now;
      margin = c.args.margin;
      is = c.requires;
      shown = ap (λ names. spent_text names c.args.last c.args.order.now c.args.margin) c.candidates.ensures.same;
    } in
    told_as (Tabulates c.args.nodes c.args.votes.now) _ (due c.spent.result) (inr (inr (_, stopped, refl))) c.spent.ensures
