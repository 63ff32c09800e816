use Rattle.std.proofs.Common.{ap, ◌∙◌, arith}
use Rattle.shared_witness.specs.Race.{Seated}
use Rattle.shared_witness.proofs.Allowed.{join_allowed}
use Rattle.shared_witness.proofs.race.join_to.Goals as goal

pub join_seat-requires : goal.join_seat-requires
join_seat-requires c = (
  c.requires.table,
  ap (λ (s : Seated). s.race) c.seat.view_is ∙ c.requires.race,
  c.seat.invariant.1,
  omega (arith, c.requires.two_words),
  join_allowed c.args.words.now.shared.key c.args.first.now.id c.seat.inside.seat.id c.args.first.now.me.0 c.seat.inside.seat.me.0 c.requires.share,
)
