use Rattle.std.proofs.Common.{◌∙◌, ap, arith, length}
use Rattle.ballot_reader.specs.Kept.{KeptBallots}
use Rattle.ballot_reader.specs.Parts.{AreAlike}
use Rattle.ballot_reader.proofs.kept.Kept.can_join.Goals as goal

pub returns-then-are_alike : goal.returns-then-are_alike
returns-then-are_alike c =
    let met = λ (kept : KeptBallots). kept.met in
    let list = λ (kept : KeptBallots). kept.parts in
    let parts = λ (kept : KeptBallots). length kept.parts in
    let count = λ (kept : KeptBallots). kept.count in
    let alike : AreAlike c.args.self.now.parts c.args.part.now.parts =
    rw (c.deref.ensures.value ∙ ap list c.self.view_is) at (rw (c.deref-2.ensures.value ∙ ap list c.part.view_is) at (c.are_alike.ensures.0 c.if-are_alike.true)) in
    let told =
    rw (c.deref-then-are_alike.ensures.value ∙ ap met c.self.view_is) at
    (rw (c.deref-then-are_alike-2.ensures.value ∙ ap met c.part.view_is) at c.are_apart.ensures) in (
      λ t. record {
        met_each = omega (arith, c.len.ensures, c.len-2.ensures, c.if-len.false, ap length (ap met c.self.view_is), ap length (ap met c.part.view_is));
        part_each = omega (arith, c.len-else-len.ensures, c.len-else-len-2.ensures, c.if-len-2.false, ap parts c.self.view_is, ap parts c.part.view_is);
        apart = told.0 t;
        alike = alike;
        few = omega (arith, c.from.ensures, c.from-2.ensures, c.from-3.ensures, c.if-from.false, ap count c.self.view_is, ap count c.part.view_is);
      },
      λ can. told.1 can.apart,
    )
