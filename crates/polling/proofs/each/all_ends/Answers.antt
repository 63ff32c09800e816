use Rattle.std.proofs.Common.{rules, ◌∙◌, map, arith}
use Rattle.assertions.specs.Assorter.{assorter_value}
use Rattle.assertions.specs.declared.assertion.Claim.{Claim}
use Rattle.polling.specs.Each.{end_of, gamma_of}
use Rattle.polling.specs.Polls.{polled}
use Rattle.polling.proofs.ValueCounts.{one-more}
use Rattle.polling.proofs.each.all_ends.Goals as goal

pub loop-j-preserved : goal.loop-j-preserved
loop-j-preserved c =
    let values = λ (claim : Claim). map (polled (assorter_value claim.assertion)) c.args.drawn.now in
    c.in_ok-push.ensures.items
    ∙ one-more (λ claim. end_of c.args.limit (gamma_of c.args.gamma c.args.cards claim) (values claim)) c.args.claims.now c.loop-j.all.items c.loop-j.j
    c.index-claims-j.result c.end_of_claim.result (omega arith) c.loop-j.invariant (search rules)
