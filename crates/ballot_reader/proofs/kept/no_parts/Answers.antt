use Rattle.std.proofs.Common.{◌∙◌}
use Rattle.ballot_reader.proofs.Ended.{more-parts}
use Rattle.ballot_reader.proofs.kept.no_parts.Goals as goal

pub loop-place-preserved : goal.loop-place-preserved
loop-place-preserved c =
    c.in_ok-push.ensures.items
    ∙ more-parts c.args.wanted c.args.contests.now c.loop-place.place c.loop-place.parts.items c.in_ok-part_for.field-0 c.loop-place-test.true
    c.loop-place.invariant c.in_ok-part_for.ensures
