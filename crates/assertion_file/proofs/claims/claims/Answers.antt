use Rattle.std.proofs.Common.{◌+◌, map, sym, subst}
use Rattle.std.proofs.lemmas.Result.{err_from_is_err_and}
use Rattle.serde_json.specs.View.{view}
use Rattle.assertion_file.proofs.ClaimsSoFar.{SoFar, goes_on, breaks}
use Rattle.assertion_file.proofs.claims.claims.Goals as goal

pub returns-in_err-read-clause-refused : goal.returns-in_err-read-clause-refused
returns-in_err-read-clause-refused c =
    let p = err_from_is_err_and c.from_residual.result c.from_residual.ensures.1 in
    rw (p.1, p.2)
    (breaks c.args.names.now c.args.records c.args.asked c.loop-i.i c.loop-i.claims.items c.args.values.now c.index-values-i.result _ c.loop-i.invariant c.loop-i-test.true
    c.index-values-i.is c.in_err-read.ensures.refused)

pub loop-i-preserved : goal.loop-i-preserved
loop-i-preserved c =
    subst (λ claims. SoFar c.args.names.now c.args.records c.args.asked (c.loop-i.i + 1) claims (map view c.args.values.now)) (sym c.in_ok-push.ensures.items)
    (goes_on c.args.names.now c.args.records c.args.asked c.loop-i.i c.loop-i.claims.items c.args.values.now c.index-values-i.result
    c.in_ok-read.read c.loop-i.invariant
    c.loop-i-test.true c.index-values-i.is c.in_ok-read.ensures.read)
