use Rattle.std.proofs.Common.{◌∙◌, sym}
use Rattle.ballots.proofs.Chosen.{chosen-known}
use Rattle.ballots.proofs.preferences.are_candidates.Goals as goal

pub loop-preference-preserved : goal.loop-preference-preserved
loop-preference-preserved c =
    let (cs, inv) = c.loop-preference.invariant in
    chosen-known c.args.candidates.now c.args.preferences cs c.in-Some.preference.now c.next.new.self (rw c.in-Some.ensures.steps at inv)
    (sym c.is_empty.ensures ∙ c.if-is_empty.false)
    (sym c.is_candidate.ensures ∙ c.if-not-is_candidate.false)
