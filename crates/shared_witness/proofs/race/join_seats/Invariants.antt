use Rattle.std.proofs.Common.{◌≡◌, ◌≢◌, ◌+◌, ◌++◌, All}
use Rattle.std.specs.Vec.Iter.{into_iter_items}
use Rattle.std.specs.List.{fold}
use Rattle.shared_witness.specs.declared.race.RaceSeat.{RaceSeat}
use Rattle.shared_witness.specs.View.{joined}
use Rattle.shared_witness.specs.Race.{views_of}
use Rattle.shared_witness.proofs.race.join_seats.Given as goal

abbrev pub invariant-loop-seat : goal.invariant-loop-seat
invariant-loop-seat l = record {
  whole : into_iter_items l.fn.seats ≡ l.yielded ++ into_iter_items l.seat-iterator;
  same_table : l.first.table_id ≡ l.initial.first.table_id;
  share_left : l.first.me.0.ends + l.first.me.0.may ≢ 0;
  view_is : l.first.me ≡ (fold joined l.initial.first.me.0 (views_of l.yielded), l.initial.first.me.1);
  shares : All (λ (s : RaceSeat). s.view.ends + s.view.may ≡ 1) l.yielded;
}
