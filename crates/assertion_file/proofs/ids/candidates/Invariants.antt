use Rattle.std.proofs.Common.{◌≡◌, take, true}
use Rattle.std.specs.List.{list_all}
use Rattle.irv_base.specs.Names.{is_name, all_differ}
use Rattle.assertion_file.proofs.Listed.{texts}
use Rattle.assertion_file.proofs.ids.candidates.Given as goal

abbrev pub invariant-loop-id : goal.invariant-loop-id
invariant-loop-id l = record {
  names : l.names.items ≡ take l.id-index (texts l.ids);
  named : list_all is_name (take l.id-index (texts l.ids)) ≡ true;
  differ : all_differ (take l.id-index (texts l.ids)) ≡ true;
}
