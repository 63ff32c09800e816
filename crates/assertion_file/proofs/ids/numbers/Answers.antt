use Rattle.std.proofs.Common.{◌≡◌, ◌∷◌, ◌++◌, [], ap, ap₂, sym, ◌∙◌}
use Rattle.irv_base.specs.Names.{is_among, is_same}
use Rattle.assertion_file.specs.Ids.{number_of}
use Rattle.irv_base.proofs.Positions.{stands_at, stands_nowhere}
use Rattle.assertion_file.proofs.Listed.{texts, next, outside, one_more, map-next}
use Rattle.assertion_file.proofs.ids.numbers.Goals as goal

pub returns-in_default-clause-none : goal.returns-in_default-clause-none
returns-in_default-clause-none c =
    let names = c.args.names.now in
    let n = next c.args.ids.now c.loop-id.id-index c.id-item.result c.loop-id-test.true c.id-item.is in
    let none = stands_nowhere (λ other. is_same other c.text_of.result.now) names (sym c.candidate.ensures ∙ c.in_default.is) in
    outside (is_among names) (texts c.args.ids.now) c.loop-id.id-index _ n (ap (is_among names) (sym c.text_of.ensures) ∙ none)

pub loop-id-preserved : goal.loop-id-preserved
loop-id-preserved c =
    let names = c.args.names.now in
    let n = next c.args.ids.now c.loop-id.id-index c.id-item.result c.loop-id-test.true c.id-item.is in
    let stands = stands_at (λ other. is_same other c.text_of.result.now) names c.in-Some.c [] (sym c.in-Some.ensures) in
    let same : c.c.inside.0 ≡ c.in-Some.c = cc in
    record {
      numbers =
          c.in_ok-push.ensures.items ∙ ap₂ (λ cs d. cs ++ d ∷ []) c.loop-id.invariant.numbers same
          ∙ sym (map-next (number_of names) (texts c.args.ids.now) c.loop-id.id-index _ c.in-Some.c n (ap (number_of names) (sym c.text_of.ensures)
          ∙ stands.number));
      among = one_more (is_among names) (texts c.args.ids.now) c.loop-id.id-index _ n c.loop-id.invariant.among (ap (is_among names) (sym c.text_of.ensures)
          ∙ stands.among);
    }
