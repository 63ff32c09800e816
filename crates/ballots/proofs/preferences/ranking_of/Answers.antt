use Rattle.std.proofs.Common.{◌∙◌, sym}
use Rattle.ballots.proofs.Chosen.{ranked-more}
use Rattle.ballots.proofs.preferences.ranking_of.Goals as goal

pub loop-preference-preserved : goal.loop-preference-preserved
loop-preference-preserved c =
    ranked-more c.args.candidates.now c.args.preferences c.in-Some.preference.now c.in_ok-candidate_named.field-0 c.next.new.self c.loop-preference.ranking
    c.push.new.self (rw c.in-Some.ensures.steps at c.loop-preference.invariant) (sym c.is_empty.ensures ∙ c.if-is_empty.false)
    (sym c.in_ok-candidate_named.ensures.named) c.push.ensures.added c.push.ensures.kept
