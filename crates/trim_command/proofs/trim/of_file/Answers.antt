use Rattle.std.proofs.Common.{◌≡◌, Ok, rules, ap}
use Rattle.cover_checker.proofs.Exactly.{accepted-covered}
use Rattle.cli_base.specs.Due.{due}
use Rattle.cli_base.specs.Outcome.{status_of}
use Rattle.cli_base.specs.declared.outcome.AnswerKind.TheVariants.{Done}
use Rattle.trim_command.proofs.Trims.{done-answer}
use Rattle.trim_command.proofs.trim.of_file.Goals as goal

pub accepted-requires : goal.accepted-requires
accepted-requires g c =
    let file = c.args.file.now in
    let done : c.in_ok-checked.checked.kind ≡ Done = search rules in
    accepted-covered c.args.budget c.args.votes.now file c.requires
    (done-answer c.args.budget c.args.votes.now file (due (Ok c.in_ok-checked.checked)) c.in_ok-checked.ensures (ap status_of done))
