use Rattle.std.proofs.Common.{◌≡◌, take, true}
use Rattle.std.specs.List.{list_all}
use Rattle.irv_base.specs.Names.{is_among}
use Rattle.assertion_file.specs.Ids.{numbers_of}
use Rattle.assertion_file.proofs.Listed.{texts}
use Rattle.assertion_file.proofs.ids.numbers.Given as goal

abbrev pub invariant-loop-id : goal.invariant-loop-id
invariant-loop-id l = record {
  numbers : l.numbers.items ≡ numbers_of l.names (take l.id-index (texts l.ids));
  among : list_all (is_among l.names) (take l.id-index (texts l.ids)) ≡ true;
}
