use Rattle.std.proofs.Common.{nat_lt, arith, ltb-true, lt-ltb, ◌∙◌}
use Rattle.assertions.proofs.Agreeing.{same_tests}
use Rattle.irv_base.specs.Candidates.{candidates, is_in}
use Rattle.irv_base.proofs.Distinct.{distinct-range}
use Rattle.irv_base.proofs.Members.{candidate-member, from_candidates, in-from_member, member-from_in}
use Rattle.irv_base.proofs.Sets.{set_of_is}
use Rattle.nen_cut.proofs.all.all_of.Goals as goal

pub returns : goal.returns
returns c =
    let n = c.args.n in
    let end = c.loop-c-test.false in
    let at-end = c.loop-c.auto.c-end in
    set_of_is c.loop-c.all (candidates n) (distinct-range 0 n) (λ d.
    c.loop-c.invariant d
    ∙ same_tests (nat_lt d c.loop-c.c) (is_in (candidates n) d)
    (λ t. let l = ltb-true d c.loop-c.c t in in-from_member (candidate-member d n (omega (arith, l, end, at-end))))
    (λ t. let l = from_candidates (member-from_in d (candidates n) t) in lt-ltb d c.loop-c.c (omega (arith, l, end, at-end))))
