use Rattle.std.proofs.Common.{◌≡◌, ◌∙◌, ◌+◌, ◌^◌, ◌++◌, ◌∷◌, [], false, take, ap, sym, arith}
use Rattle.std.proofs.lemmas.List.{take_more}
use Rattle.std.proofs.lemmas.List.Sums.{sum_by_push}
use Rattle.irv_base.specs.Candidates.{has, set_of}
use Rattle.irv_base.proofs.Distinct.{distinct-from_test}
use Rattle.irv_base.proofs.Members.{out-from_none}
use Rattle.irv_base.proofs.Sets.{has-set_of}
use Rattle.plurality.proofs.Lists.{apart-before}
use Rattle.plurality.proofs.firsts.set_of.Goals as goal

pub loop-c-preserved : goal.loop-c-preserved
loop-c-preserved c =
    let xs = c.args.candidates.now in
    let i = c.loop-c.c-index in
    let x = c.c-item.result in
    let apart = apart-before xs i x (distinct-from_test xs c.requires) (omega arith) c.c-item.is in
    let fresh : has c.loop-c.set x ≡ false =
    ap (λ s. has s x) c.loop-c.invariant ∙ has-set_of (take i xs) x apart.0 ∙ out-from_none x (take i xs) apart.1 in
    let more : take (i + 1) xs ≡ take i xs ++ x ∷ [] = take_more xs i x (omega arith) ∙ ap (λ y. take i xs ++ y ∷ []) (sym c.c-item.is) in
    let number = c.with-set.ensures.number fresh in
    number ∙ ap (λ s. s + 2 ^ x) c.loop-c.invariant ∙ sym (sum_by_push (λ d. 2 ^ d) (take i xs) x) ∙ ap set_of (sym more)
