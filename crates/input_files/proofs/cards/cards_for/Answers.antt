use Rattle.std.proofs.Common.{Ok}
use Rattle.std.proofs.lemmas.Result.{err_from_is_err_and}
use Rattle.manifest.specs.Manifest.{manifest_of}
use Rattle.input_files.specs.Cards.{without_card}
use Rattle.input_files.specs.Judged.{told}
use Rattle.input_files.specs.Refusals.{refused_manifest}
use Rattle.input_files.proofs.Judging.{next_stopped, then_stopped, unless_stopped}
use Rattle.input_files.proofs.cards.cards_for.Goals as goal

pub returns-in_err-linked-clause-refused : goal.returns-in_err-linked-clause-refused
returns-in_err-linked-clause-refused c =
    let p = err_from_is_err_and c.from_residual-in_err-linked.result c.from_residual-in_err-linked.ensures.1 in
    let judged = told (refused_manifest c.args.manifest.now) (manifest_of c.args.bytes.now) in
    let batches = c.in_ok-batches.batches in
    let refusal = c.in_err-linked.field-0.0 in
    rw (p.1, p.2)
    (next_stopped judged _ batches refusal c.in_ok-batches.ensures
    (unless_stopped (without_card c.args.file.now c.args.ballots.now batches) (Ok batches) refusal c.in_err-linked.ensures.refused))

pub returns-in_err-batches-clause-refused : goal.returns-in_err-batches-clause-refused
returns-in_err-batches-clause-refused c =
    let p = err_from_is_err_and c.from_residual.result c.from_residual.ensures.1 in
    let judged = told (refused_manifest c.args.manifest.now) (manifest_of c.args.bytes.now) in
    rw (p.1, p.2) (then_stopped judged _ c.in_err-batches.field-0.0 c.in_err-batches.ensures)
