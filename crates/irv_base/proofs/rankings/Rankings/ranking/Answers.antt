use Rattle.std.proofs.Common.{◌∙◌, Some, sym, ap}
use Rattle.irv_base.proofs.Firsts.{firsts-distinct}
use Rattle.irv_base.proofs.rankings.Rankings.ranking.Goals as goal

pub returns : goal.returns
returns c = c.at.ensures.there ∙ ap Some (sym (c.of.ensures ∙ firsts-distinct c.at.result.now c.at.ensures.distinct))
