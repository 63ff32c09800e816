use Rattle.std.proofs.Common.{◌∙◌, sym, arith}
use Rattle.manifest.proofs.CardAt.{length-cards}
use Rattle.manifest.proofs.SoFar.{length-le-sum}
use Rattle.manifest.proofs.manifest.Manifest.cards.Goals as goal

pub returns-clause-all : goal.returns-clause-all
returns-clause-all c =
    let i = c.self.invariant in
    rw (sym c.self.view_is) (i.all ∙ sym (length-cards c.self.inside.ids c.self.inside.counts.items i.batches.a_count_each))

pub returns-clause-some : goal.returns-clause-some
returns-clause-some c =
    let i = c.self.invariant in
    omega (arith, i.all, i.some, i.batches.a_count_each, length-le-sum c.self.inside.counts.items i.batches.counted)
