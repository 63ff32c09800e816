use Rattle.std.proofs.Common.{◌≡◌, ◌∷◌, ◌++◌, [], false, get_or, take, sym, ap, ◌∙◌}
use Rattle.std.proofs.lemmas.List.{get_or_default, take_more}
use Rattle.irv_base.specs.Names.{all_differ, is_among}
use Rattle.assertion_file.proofs.Differ.{differ-push}
use Rattle.claims_file.proofs.quick.all_differ.Goals as goal

pub loop-i-preserved : goal.loop-i-preserved
loop-i-preserved c =
    let names = c.args.names.now in
    let i = c.loop-i.i in
    let name = c.index-names-i.result in
    let at : get_or names i [] ≡ name = sym (c.index-names-i.is ∙ get_or_default names i name [] c.loop-i-test.true) in
    let apart : is_among (take i names) name ≡ false = sym c.is_among.ensures ∙ c.if-is_among.false in
    ap all_differ (take_more names i [] c.loop-i-test.true ∙ ap (λ name. take i names ++ name ∷ []) at)
    ∙ differ-push (take i names) name c.loop-i.invariant apart
