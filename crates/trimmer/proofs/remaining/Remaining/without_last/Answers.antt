use Rattle.std.proofs.Common.{◌≡◌, ◌+◌, ◌-◌, ◌<◌, ◌∷◌, ◌++◌, length, map, take, get_or, reverse, sym, ap, subst, arith, ◌∙◌}
use Rattle.std.proofs.lemmas.List.{map-append, take_all, length-take-le}
use Rattle.trimmer.specs.Counted.{IsCountOf}
use Rattle.trimmer.specs.Remaining.{Left}
use Rattle.trimmer.proofs.Lefts.{assertion_in}
use Rattle.trimmer.proofs.Parted.{take-midst}
use Rattle.trimmer.proofs.remaining.Remaining.without_last.Goals as goal

pub invariant_of-result : goal.invariant_of-result
invariant_of-result c =
    let untried = c.self.inside.untried.now in
    let kept = reverse c.self.inside.kept.items in
    let place = length untried - 1 in
    let d = c.index-untried-place.result in
    let same : length untried ≡ length c.args.self.untried = ap (λ (left : Left). length left.untried) c.self.view_is in
    let some : 0 < length untried = omega (arith, c.requires, same) in
    let last = get_or untried place d in
    let all : untried ++ kept ≡ take place untried ++ last ∷ kept =
    ap (λ front. front ++ kept) (sym (take_all (place + 1) untried (omega (arith, some))))
    ∙ take-midst untried place d kept (omega (arith, some)) in
    let with : IsCountOf (map assertion_in (take place untried) ++ last.assertion ∷ map assertion_in kept) c.self.inside.counted =
    subst (λ list. IsCountOf list c.self.inside.counted) (ap (map assertion_in) all ∙ map-append assertion_in (take place untried) (last ∷ kept))
    c.self.invariant.0 in
    let fewer = length-take-le place untried (omega (arith, some)) in (
      subst (λ list. IsCountOf list c.forget.new.self) (sym (map-append assertion_in (take place untried) kept))
          (c.in_ok-forget.ensures (map assertion_in (take place untried)) (map assertion_in kept) with),
      omega (arith, fewer, some, c.self.invariant.1),
    )
