use Rattle.std.proofs.Common.{◌≤◌, length, sym, subst}
use Rattle.assertion_file.specs.Content.{IsMargin}
use Rattle.contest_search.proofs.OwnMargin.{some-sound}
use Rattle.contest_search.proofs.fewest_found.with_own_margin.Goals as goal

pub new-requires-clause-margin : goal.new-requires-clause-margin
new-requires-clause-margin c =
    let file = c.args.file in
    let claims = c.claims.result.now in
    let some : 1 ≤ length claims = subst (λ claims. 1 ≤ length claims) (sym c.claims.ensures.same) c.requires.claims in
    subst (λ records. IsMargin records c.smallest_margin-margin.result) (sym c.records.ensures.same)
    (subst (IsMargin file.records) (sym c.smallest_margin-margin.ensures)
    (some-sound (length file.candidates) file.records claims some c.claims.ensures.sound))
