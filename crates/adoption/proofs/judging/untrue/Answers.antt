use Rattle.std.proofs.Common.{sym, ◌∙◌}
use Rattle.adoption.proofs.Steps.{none-found}
use Rattle.adoption.proofs.judging.untrue.Goals as goal

pub returns-then-have_margins-clause-found : goal.returns-then-have_margins-clause-found
returns-then-have_margins-clause-found c = λ records of same.
    sym (none-found c.args.tallies.now.bag.n records c.args.list.now c.args.claims.now c.requires same (sym c.have_margins.ensures ∙ c.if-have_margins.true))
