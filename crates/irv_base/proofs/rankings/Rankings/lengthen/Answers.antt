use Rattle.std.proofs.Common.{◌≡◌, ◌<◌, ◌∷◌, ◌++◌, [], ◌∙◌, length, ap, sym, subst, arith}
use Rattle.irv_base.specs.Places.{AreRankings}
use Rattle.irv_base.specs.declared.limits.TheConstants.{ROOM}
use Rattle.irv_base.proofs.Lengthened.{rankings-longer, some-length}
use Rattle.irv_base.proofs.rankings.Rankings.lengthen.Goals as goal

pub lengthen-requires : goal.lengthen-requires
lengthen-requires c =
    let (earlier, last, old, absent) = c.requires in
    let size : length c.self.inside.lists ≡ length (earlier ++ last ∷ []) = ap length (c.self.view_is ∙ old) in
    omega (arith, size, some-length earlier last)

pub invariant_of-self-2 : goal.invariant_of-self-2
invariant_of-self-2 c =
    let (earlier, last, old, absent) = c.requires in
    let below : c.args.c < ROOM = omega (arith, c.c.invariant, c.c.view_is) in
    let before = subst AreRankings (c.self.view_is ∙ old) c.self.invariant in
    subst AreRankings (sym (c.in_ok-lengthen.ensures.longer earlier last (c.self.view_is ∙ old))) (rankings-longer earlier last c.args.c before absent below)

pub returns-clause-longer : goal.returns-clause-longer
returns-clause-longer c = λ earlier last old. c.in_ok-lengthen.ensures.longer earlier last (c.self.view_is ∙ old)
