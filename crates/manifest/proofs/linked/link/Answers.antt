use Rattle.std.proofs.Common.{refl}
use Rattle.manifest.specs.Cards.{cards_of}
use Rattle.manifest.proofs.Linking.{recorded_all}
use Rattle.manifest.proofs.linked.link.Goals as goal

pub invariant_of-result : goal.invariant_of-result
invariant_of-result c = rw (c.in_ok-rankings.ensures, c.rankings.ensures.same) c.in_ok-numbers.ensures.kept

pub returns-clause-linked : goal.returns-clause-linked
returns-clause-linked c = rw (c.in_ok-numbers.ensures.numbers, c.in_ok-rankings.ensures, c.rankings.ensures.same)
    (recorded_all c.args.b.now.rankings c.args.b.now refl (cards_of c.args.m.now))
