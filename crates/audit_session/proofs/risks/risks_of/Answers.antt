use Rattle.std.proofs.Common.{◌∙◌, arith}
use Rattle.std.proofs.lemmas.List.{take_all}
use Rattle.session_state.specs.Sessions.{risks_of}
use Rattle.audit_session.proofs.EachRisk.{length-risks, one-risk-more}
use Rattle.audit_session.proofs.risks.risks_of.Goals as goal

pub loop-j-preserved : goal.loop-j-preserved
loop-j-preserved c =
    c.in_ok-push.ensures.items
    ∙ one-risk-more c.args.cards c.args.gamma c.args.margins.now c.args.counts.now c.loop-j.risks.items c.loop-j.j c.risk.result _ _ c.requires.each
    (omega arith)
    c.loop-j.invariant c.risk.ensures.value

pub returns : goal.returns
returns c =
    let long = length-risks c.args.cards c.args.gamma c.args.margins.now c.args.counts.now c.requires.each in
    c.loop-j.invariant ∙ take_all c.loop-j.j (risks_of c.args.cards c.args.gamma c.args.margins.now c.args.counts.now) (omega (arith, long))
