use Rattle.std.proofs.Common.{◌≡◌, Some, codes, inl, inr, refl, sym, subst}
use Rattle.cli_base.specs.Confirmed.{confirmed_kind}
use Rattle.cli_base.specs.Due.{due, due_refusal, IsOrMemory}
use Rattle.cli_base.specs.Outcome.{Answered, Refused, broken_at, file_refusal}
use Rattle.cli_base.specs.declared.outcome.RefusalKind.TheVariants.{Input}
use Rattle.cli_base.proofs.Ended.{told_as}
use Rattle.input_files.specs.Refusals.{no_card, no_record_text}
use Rattle.contest_set.specs.Ends.{AreEnds}
use Rattle.contest_set.specs.Refusals.{FirstLacksRecord}
use Rattle.contests_command.specs.Contests.{Audits, IsTold, IsUnplaced, IsUnseen, terms_of}
use Rattle.contests_command.specs.Table.{all_signed, contests_table}
use Rattle.contests_command.proofs.Audits.{refused_as}
use Rattle.contests_command.proofs.Telling.{can_tell_all}
use Rattle.contests_command.proofs.contests.audit.Goals as goal

pub told-requires-clause-told : goal.told-requires-clause-told
told-requires-clause-told g c =
    can_tell_all c.args.batches.now c.terms_of.result c.args.list.now c.args.seen.now c.deref.result.now c.requires.seen
    (subst (AreEnds c.args.batches.now c.terms_of.result c.args.list.now c.args.seen.now) (sym c.deref.ensures.value) c.in-Ok.ensures.ends)

pub returns-in-Ok : goal.returns-in-Ok
returns-in-Ok g c =
    let task = c.args.task.now in
    let list = c.args.list.now in
    let batches = c.args.batches.now in
    let seen = c.args.seen.now in
    let ends = c.deref.result.now in
    let are : AreEnds batches (terms_of task) list seen ends =
    subst (λ terms. AreEnds batches terms list seen ends) c.terms_of.ensures
    (subst (AreEnds batches c.terms_of.result list seen) (sym c.deref.ensures.value) c.in-Ok.ensures.ends) in
    let told : IsTold task list batches seen (Answered (confirmed_kind (all_signed ends)) (contests_table task.limit list ends)) =
    record { placed = c.in-Ok.ensures.linked; ends = ends; are = are; told = refl } in
    told_as (Audits task list batches seen) _ (due c.told.result) (inr (inr told)) c.told.ensures

pub returns-in-Err-NoCard : goal.returns-in-Err-NoCard
returns-in-Err-NoCard g c =
    let task = c.args.task.now in
    let list = c.args.list.now in
    let at = c.in-Err-NoCard.at in
    let unplaced : IsUnplaced task list c.args.batches.now c.args.seen.now (no_card task.ballots at) =
    record { at = at; first = rw c.in-Err-NoCard.field-0-is at c.in-Err-NoCard.ensures.refused; refused = refl } in
    refused_as (Audits task list c.args.batches.now c.args.seen.now) (no_card task.ballots at) (due_refusal c.refuse_at.result) (inl unplaced)
    (subst (λ name. IsOrMemory (file_refusal Input name (broken_at (codes "M7") at)) (due_refusal c.refuse_at.result)) c.as_str.ensures
    (subst (λ n. IsOrMemory (file_refusal Input c.as_str.result.now (broken_at (codes "M7") n)) (due_refusal c.refuse_at.result)) c.from.ensures
    c.refuse_at.ensures))

pub returns-in-Err-NoRecord : goal.returns-in-Err-NoRecord
returns-in-Err-NoRecord g c =
    let task = c.args.task.now in
    let list = c.args.list.now in
    let batches = c.args.batches.now in
    let seen = c.args.seen.now in
    let card = c.in-Err-NoRecord.card in
    let k = c.in-Err-NoRecord.k in
    let (placed, lacks) = rw c.in-Err-NoRecord.field-0-is at c.in-Err-NoRecord.ensures.refused in
    let unseen : IsUnseen task list batches seen (Refused task.seen (no_record_text card k)) = record {
      placed = placed;
      contest = c.in-Err-NoRecord.field-0-0;
      card = card;
      k = k;
      lacks = subst (λ terms. FirstLacksRecord batches terms list seen c.in-Err-NoRecord.field-0-0 card k) c.terms_of.ensures lacks;
      refused = refl;
    } in
    refused_as (Audits task list batches seen) (Refused task.seen (no_record_text card k)) (due_refusal c.refuse_for.result) (inr (inl unseen))
    (c.refuse_for.ensures (no_record_text card k) c.no_record_text.ensures)
