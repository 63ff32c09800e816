use Rattle.std.proofs.Common.{sym, subst}
use Rattle.cli_base.specs.Ends.{writing, IsSaid}
use Rattle.cli_base.specs.Due.{due_refusal}
use Rattle.cli_base.specs.declared.outcome.Refusal.{Refusal}
use Rattle.cli_base.proofs.delivery.say_refusal.Goals as goal

pub returns-in-Words : goal.returns-in-Words
returns-in-Words g c =
    subst (λ (r : Refusal). IsSaid (due_refusal r).err (due_refusal r).status c.say.result (writing g.S.Sink c.args.err.now c.say.new.sink))
    (sym c.in-Words.is) c.say.ensures

pub returns-in-Memory : goal.returns-in-Memory
returns-in-Memory g c =
    subst (λ (r : Refusal). IsSaid (due_refusal r).err (due_refusal r).status c.say-in-Memory.result (writing g.S.Sink c.args.err.now c.say-in-Memory.new.sink))
    (sym c.in-Memory.is) c.say-in-Memory.ensures
