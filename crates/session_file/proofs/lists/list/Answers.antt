use Rattle.std.proofs.Common.{Some, ap, sym, ◌∙◌, arith}
use Rattle.std.proofs.lemmas.Result.{err_from_is_err_and}
use Rattle.session_file.proofs.Each.{each_all, each_more, each_refused}
use Rattle.session_file.proofs.lists.list.Goals as goal

pub returns-in_err-one-clause-refused : goal.returns-in_err-one-clause-refused
returns-in_err-one-clause-refused g c =
    let p = err_from_is_err_and c.from_residual.result c.from_residual.ensures.1 in
    rw (p.1, p.2) (each_refused g.T.Stated.kind c.args.values.now c.loop-value.value-index c.value-item.result _ c.loop-value-test.true c.value-item.is
    c.in_err-one.ensures.refused)

pub loop-value-preserved : goal.loop-value-preserved
loop-value-preserved g c =
    each_more g.T.Stated.kind c.args.values.now c.loop-value.value-index c.value-item.result c.in_ok-one.one c.loop-value.read.items c.loop-value-test.true
    c.value-item.is c.loop-value.invariant c.in_ok-one.ensures.read
    ∙ ap Some (sym c.in_ok-push.ensures.items)

pub returns-clause-read : goal.returns-clause-read
returns-clause-read g c = each_all g.T.Stated.kind c.args.values.now c.loop-value.value-index c.loop-value.read.items (omega arith) c.loop-value.invariant
