use Rattle.std.proofs.Common.{Ok, Err, subst}
use Rattle.cover_checker.specs.Checks.{IsFault}
use Rattle.cover_checker.specs.declared.checked.CheckFault.TheVariants.{Spent}
use Rattle.check_command.proofs.Checks.{names}
use Rattle.check_command.proofs.check.check.Goals as goal

pub found_answer-requires : goal.found_answer-requires
found_answer-requires g c = names c.args.budget c.args.votes.now c.args.file.now (Ok c.in-Ok.found) c.in-Ok.ensures.checked

pub spent_answer-requires : goal.spent_answer-requires
spent_answer-requires g c =
    names c.args.budget c.args.votes.now c.args.file.now (Err (Spent c.in-Spent.last))
    (subst (IsFault c.args.budget c.args.votes.now c.args.file.now) c.in-Spent.is c.in-Err.ensures.fault)
