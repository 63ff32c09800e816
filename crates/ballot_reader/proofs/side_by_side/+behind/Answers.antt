use Rattle.std.proofs.Common.{sym, subst}
use Rattle.std.proofs.lemmas.Result.{IfErr-at_err, IfErr-weaker, IfOk-at_ok, IfOk-weaker, err_from_is_err_and}
use Rattle.ballot_reader.specs.Parts.{ComeBehind, IsRefusedBehind}
use Rattle.ballot_reader.specs.declared.wanted.Wanted.TheVariants.{VotesOf}
use Rattle.ballot_reader.proofs.Continued.{come-on, refused-behind, refused-in-front}
use Rattle.ballot_reader.proofs.side_by_side.+behind.Goals as goal

pub add_parts-returns-in_err-next : goal.add_parts-returns-in_err-next
add_parts-returns-in_err-next g t c =
    let contests = c.args.contests.now in
    let wanted = VotesOf c.args.audited in
    let first = c.args.first in
    let before = c.args.kept.now in
    let (front, behind) = c.cut-front.result in
    let fault = c.in_err-next.field-0.0 in
    let refused = IfErr-at_err (λ f. IsRefusedBehind contests wanted first front before f) c.in_err-next.was c.read_both-part.ensures.front.1 in
    let p = err_from_is_err_and c.from_residual.result c.from_residual.ensures.1 in
    rw (p.1, p.2) (
      tt,
      subst (λ rows. IsRefusedBehind contests wanted first rows before fault) (sym c.cut-front.ensures)
          (refused-in-front contests wanted first front behind before fault refused),
    )

pub add_parts-returns : goal.add_parts-returns
add_parts-returns g t c =
    let contests = c.args.contests.now in
    let wanted = VotesOf c.args.audited in
    let first = c.args.first in
    let before = c.args.kept.now in
    let (front, behind) = c.cut-front.result in
    let mid = c.read_both-part.new.kept in
    let next = c.in_ok-next.field-0 in
    let come = IfOk-at_ok (λ n. ComeBehind contests wanted first front before n mid) c.in_ok-next.was c.read_both-part.ensures.front.0 in (
      IfOk-weaker c.put_behind.result _ _ (λ last said.
          subst (λ rows. ComeBehind contests wanted first rows before last c.put_behind.new.kept) (sym c.cut-front.ensures)
          (come-on contests wanted first front behind before next mid come last c.put_behind.new.kept said)) c.put_behind.ensures.read,
      IfErr-weaker c.put_behind.result _ _ (λ fault said.
          subst (λ rows. IsRefusedBehind contests wanted first rows before fault) (sym c.cut-front.ensures)
          (refused-behind contests wanted first front behind before next mid come fault said)) c.put_behind.ensures.refused,
    )
