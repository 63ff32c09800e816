use Rattle.cli_base.specs.Due.{due}
use Rattle.cli_base.proofs.Begun.{come_now}
use Rattle.plurality_commands.specs.AuditPlurality.{after_count, after_manifest}
use Rattle.plurality_commands.proofs.Counted.{tied_now, won_on}
use Rattle.plurality_commands.proofs.audit_plurality.count.Goals as goal

pub returns-in-Ok-clause-due : goal.returns-in-Ok-clause-due
returns-in-Ok-clause-due g c =
    won_on _ c.args.ballots.now (after_count c.args.task.now c.args.session c.args.ballots.now c.args.cards.now.manifest) c.in-Ok.plural
    (due c.after_count.result) c.in-Ok.ensures.outcome c.after_count.ensures.due

pub returns-in-Err-clause-due : goal.returns-in-Err-clause-due
returns-in-Err-clause-due g c =
    let task = c.args.task.now in
    let ballots = c.args.ballots.now in
    let batches = c.args.cards.now.manifest in
    come_now _ _ (after_manifest task c.args.session ballots batches) (due c.no_winner.result)
    (tied_now ballots (after_count task c.args.session ballots batches) (due c.no_winner.result) c.no_winner.ensures)
