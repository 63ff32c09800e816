use Rattle.std.proofs.Common.{◌≡◌, ◌∷◌, ◌++◌, [], take, drop, ◌+◌, ap, ap₂, sym, ◌∙◌}
use Rattle.serde_json.specs.View.{view}
use Rattle.irv_base.specs.Names.{all_differ, is_among, is_name}
use Rattle.assertion_file.specs.Stated.{text_of}
use Rattle.assertion_file.proofs.Differ.{differ-push, repeated, none-named, none-differ}
use Rattle.assertion_file.proofs.Listed.{texts, next, outside, one_more}
use Rattle.assertion_file.proofs.ids.candidates.Goals as goal

pub returns-in_default-clause-none : goal.returns-in_default-clause-none
returns-in_default-clause-none c =
    let n = next c.args.ids.now c.loop-id.id-index c.id-item.result c.loop-id-test.true c.id-item.is in
    let text = c.as_bytes.ensures.value ∙ c.text_of.ensures in
    none-named (texts c.args.ids.now) (outside is_name (texts c.args.ids.now) c.loop-id.id-index _ n (ap is_name (sym text) ∙ c.in_default.ensures.none))

pub returns-then-is_among-clause-none : goal.returns-then-is_among-clause-none
returns-then-is_among-clause-none c =
    let all = texts c.args.ids.now in
    let i = c.loop-id.id-index in
    let n = next c.args.ids.now i c.id-item.result c.loop-id-test.true c.id-item.is in
    let id : c.bytes.result.now ≡ text_of (view c.id-item.result) = c.bytes.ensures.same ∙ c.in-Some.ensures.name ∙ c.as_bytes.ensures.value
    ∙ c.text_of.ensures in
    let names = c.as_slice.ensures.value ∙ c.loop-id.invariant.names in
    let among = sym (c.is_among.ensures ∙ ap₂ is_among names id) ∙ c.if-is_among.true in
    none-differ all (ap all_differ n.split ∙ repeated (take i all) _ (drop (i + 1) all) among)

pub loop-id-preserved : goal.loop-id-preserved
loop-id-preserved c =
    let all = texts c.args.ids.now in
    let i = c.loop-id.id-index in
    let n = next c.args.ids.now i c.id-item.result c.loop-id-test.true c.id-item.is in
    let name : c.in-Some.name ≡ text_of (view c.id-item.result) = c.in-Some.ensures.name ∙ c.as_bytes.ensures.value ∙ c.text_of.ensures in
    let names = c.as_slice.ensures.value ∙ c.loop-id.invariant.names in
    let apart = sym (c.is_among.ensures ∙ ap₂ is_among names (c.bytes.ensures.same ∙ name)) ∙ c.if-is_among.false in
    record {
      names = c.in_ok-push.ensures.items ∙ ap₂ (λ before id. before ++ id ∷ []) c.loop-id.invariant.names name ∙ sym n.more;
      named = one_more is_name all i _ n c.loop-id.invariant.named (ap is_name (sym (c.as_bytes.ensures.value ∙ c.text_of.ensures)) ∙ c.in-Some.ensures.valid);
      differ = ap all_differ n.more ∙ differ-push (take i all) _ c.loop-id.invariant.differ apart;
    }
