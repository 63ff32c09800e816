use Rattle.std.proofs.Common.{◌≡◌, length, ap, ◌∙◌}
use Rattle.set_tallies.proofs.Filled.{at-place}
use Rattle.set_tallies.proofs.ahead.all_winners.Goals as goal

pub winners_of-requires-clause-each : goal.winners_of-requires-clause-each
winners_of-requires-clause-each c =
    ap length c.deref.ensures.value
    ∙ at-place (λ row. length row ≡ length c.args.firsts.now) (λ v. v.items) c.args.ahead.now c.loop-row.row-index c.row-item.result c.loop-row-test.true
    c.requires.each c.row-item.is
