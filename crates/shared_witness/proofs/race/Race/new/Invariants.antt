use Rattle.std.proofs.Common.{◌≡◌, ◌+◌, ◌-◌, [], replicate}
use Rattle.shared_witness.specs.View.{new_view}
use Rattle.shared_witness.proofs.race.Race.new.Given as goal

abbrev pub invariant-loop-i : goal.invariant-loop-i
invariant-loop-i l = record {
  rest_is : l.rest.me ≡ (new_view (l.workers + 1 - l._i), []);
  same_table : l.rest.table_id ≡ l.words.shared.table_id;
  seats_are : l.seats.items ≡ replicate (l._i - 1) (record { race = l.words.shared.table_id; view = new_view 1 });
}
