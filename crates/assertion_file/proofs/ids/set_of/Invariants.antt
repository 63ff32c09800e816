use Rattle.std.proofs.Common.{◌≡◌, ℕ, take, true, not}
use Rattle.std.specs.List.{list_all}
use Rattle.irv_base.specs.Candidates.{has, is_in, is_distinct}
use Rattle.irv_base.specs.Names.{is_among}
use Rattle.assertion_file.specs.Ids.{numbers_of}
use Rattle.assertion_file.proofs.Listed.{texts}
use Rattle.assertion_file.proofs.ids.set_of.Given as goal

abbrev pub invariant-loop-id : goal.invariant-loop-id
invariant-loop-id l = record {
  among : list_all (is_among l.names) (take l.id-index (texts l.ids)) ≡ true;
  members : (d : ℕ) → has l.set d ≡ is_in (numbers_of l.names (take l.id-index (texts l.ids))) d;
  repeated : l.repeats ≡ not (is_distinct (numbers_of l.names (take l.id-index (texts l.ids))));
}
