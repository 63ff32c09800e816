use Rattle.std.proofs.Common.{◌≡◌, ◌-◌, get_or, arith, ap, subst, ◌∙◌}
use Rattle.std.proofs.lemmas.List.{get_or_read}
use Rattle.set_flow.specs.Kept.{carried}
use Rattle.set_flow.specs.Seen.{IsUndone}
use Rattle.set_flow.proofs.Drawn.{drawn-first, drawn-undone}
use Rattle.set_flow.proofs.rising.draw.Goals as goal

pub loop-place-init : goal.loop-place-init
loop-place-init c =
    let (n, all, way) = c.requires in
    let some = way.linked.some in
    let len = c.len-place.ensures in
    record {
      within = omega (arith, some, len);
      drawn = λ n all winner floor records rooms are same way links.
          let (k, long, last) = way.last in
          let e : c.len-place.result - 1 ≡ k = omega (arith, len, long) in
          drawn-first n winner floor records rooms are (carried c.args.flow.now.kept) c.args.seen.now.sets.keys c.args.seen.now.from.items c.args.seen.now.by.items
          way.linked links (c.len-place.result - 1) all (ap (λ k. get_or c.args.seen.now.sets.keys k 0) e ∙ last) same;
    }

pub loop-place-smaller : goal.loop-place-smaller
loop-place-smaller c =
    let (n, all, way) = c.requires in
    let seen = c.args.seen.now in
    let place = c.loop-place.place in
    let within = c.loop-place.invariant.within in
    let each = way.linked.from_each in
    let e : c.index.result.now ≡ get_or seen.from.items place 0 = get_or_read seen.from.items _ _ (omega (arith, within, each)) c.index.ensures 0 in
    let l = way.linked.earlier place c.loop-place-test.true within in
    omega (arith, e, l)

pub loop-place-preserved : goal.loop-place-preserved
loop-place-preserved c =
    let (n, all, way) = c.requires in
    let seen = c.args.seen.now in
    let place = c.loop-place.place in
    let within = c.loop-place.invariant.within in
    let each = way.linked.from_each in
    let by_each = way.linked.by_each in
    let e : c.index.result.now ≡ get_or seen.from.items place 0 = get_or_read seen.from.items _ _ (omega (arith, within, each)) c.index.ensures 0 in
    let f : c.index-c.result.now ≡ get_or seen.by.items place 0 = get_or_read seen.by.items _ _ (omega (arith, within, by_each)) c.index-c.ensures 0 in
    let l = way.linked.earlier place c.loop-place-test.true within in
    record {
      within = omega (arith, e, l, within);
      drawn = λ n all winner floor records rooms are same way links.
          drawn-undone n winner floor records rooms are (carried c.args.flow.now.kept) seen.sets.keys seen.from.items seen.by.items
          way.linked links (carried c.loop-place.flow.kept) (carried c.undo.new.flow.kept) place c.index.result.now c.index-c.result.now
          c.loop-place-test.true within e f (c.loop-place.invariant.drawn n all winner floor records rooms are same way links)
          (subst (λ s. IsUndone (carried c.loop-place.flow.kept) (carried c.undo.new.flow.kept) s c.index-c.result.now) c.at-set.ensures c.in_ok-undo.ensures);
    }
