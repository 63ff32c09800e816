use Rattle.std.proofs.Common.{Err, sym, ap, ◌∙◌}
use Rattle.poll_command.proofs.Covering.{named, never-sets, spent-named}
use Rattle.poll_command.proofs.cover.unless_covered.Goals as goal

pub unless_stands-requires : goal.unless_stands-requires
unless_stands-requires c = named c.args.file.now c.args.nodes c.in-Ok.verdict (sym (c.in-Ok.ensures (λ m. cc)))

pub spent_answer-requires : goal.spent_answer-requires
spent_answer-requires c = spent-named c.args.file.now c.args.nodes c.in-Spent.last (sym (c.in-Err.ensures (λ m. cc)) ∙ ap Err c.in-Spent.is)

pub unreachable-requires : goal.unreachable-requires
unreachable-requires c = never-sets c.args.file.now c.args.nodes c.in-SpentSets.sets (sym (c.in-Err.ensures (λ m. cc)) ∙ ap Err c.in-SpentSets.is)
