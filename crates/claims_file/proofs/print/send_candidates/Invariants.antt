use Rattle.std.proofs.Common.{◌≡◌, take, true}
use Rattle.std.specs.List.{list_all}
use Rattle.serde.specs.Event.{WritesEach}
use Rattle.serde_json.specs.Data.{string}
use Rattle.serde_json.specs.Events.{SendsValue}
use Rattle.irv_base.specs.Names.{is_name}
use Rattle.claims_file.proofs.print.send_candidates.Given as goal

abbrev pub invariant-loop-name : goal.invariant-loop-name
invariant-loop-name g l = record {
  sent : WritesEach (λ id. SendsValue (string id)) (take l.name-index l.names) (g.S.Serializer.written l.initial.out) (g.S.Serializer.written l.out);
  valid : list_all is_name (take l.name-index l.names) ≡ true;
}
