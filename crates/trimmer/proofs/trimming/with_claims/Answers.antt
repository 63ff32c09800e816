use Rattle.std.proofs.Common.{◌∙◌, ap, subst, sym}
use Rattle.assertion_file.specs.Content.{IsMargin}
use Rattle.trimmer.specs.Trimmed.{margin_left}
use Rattle.trimmer.proofs.Accepted.{sound-margin}
use Rattle.trimmer.proofs.trimming.with_claims.Goals as goal

pub new-requires-clause-margin : goal.new-requires-clause-margin
new-requires-clause-margin c =
    let file = c.args.f.now in
    let same = c.margin_left.ensures ∙ ap (margin_left file) c.deref.ensures.value in
    subst (λ records. IsMargin records c.margin_left.result) (sym c.records.ensures.same)
    (subst (IsMargin file.records) (sym same) (sound-margin file c.args.left.claims.items c.plan.ensures.file.margin c.requires.some c.requires.claims))
