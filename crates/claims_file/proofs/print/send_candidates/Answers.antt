use Rattle.std.proofs.Common.{◌≡◌, true, get_or, rules, refl, sym, ap, ◌∙◌}
use Rattle.std.proofs.lemmas.Bool.{and_from}
use Rattle.std.proofs.lemmas.List.Folds.{list_all_more}
use Rattle.std.proofs.lemmas.Result.{on_ok_weaker}
use Rattle.serde.proofs.Events.{WritesEach-more, WritesSeq-ends}
use Rattle.serde_json.specs.Data.{string}
use Rattle.serde_json.specs.Events.{SendsValue}
use Rattle.irv_base.specs.Names.{is_name}
use Rattle.assertion_file.proofs.Sent.{array_is_sent}
use Rattle.claims_file.proofs.print.send_candidates.Goals as goal

pub loop-name-preserved : goal.loop-name-preserved
loop-name-preserved g c =
    let valid : is_name (get_or c.args.names.now c.loop-name.name-index c.name-item.result) ≡ true = ap is_name (sym c.name-item.is) ∙ c.text.ensures.valid in
    record {
      sent = WritesEach-more (λ id. SendsValue (string id)) _ _ _ _ _ _ c.loop-name-test.true c.name-item.is c.loop-name.invariant.sent (search rules);
      valid = list_all_more is_name c.args.names.now c.loop-name.name-index c.name-item.result c.loop-name-test.true
          ∙ and_from _ _ c.loop-name.invariant.valid valid;
    }

pub returns-clause-value : goal.returns-clause-value
returns-clause-value g c =
    on_ok_weaker c.end_seq.result (λ ended.
    array_is_sent string c.args.names.now _ _
    (WritesSeq-ends (λ id. SendsValue (string id)) _ _ _ _ _ _ _ _ refl (search rules)
    c.loop-name-test.false c.in_ok-begin_seq.ensures c.loop-name.invariant.sent ended))
    c.end_seq.ensures
