use Rattle.std.proofs.Common.{List, Vec, Global, ap, sym, subst, subst₂, refl, ◌∙◌}
use Rattle.suffix_tree.specs.declared.scored.Scored.{Scored}
use Rattle.suffix_tree.specs.Scores.{IsScoredBelow, AreScoredBelow}
use Rattle.suffix_tree.specs.Suffixes.{with_front}
use Rattle.suffix_tree.proofs.Children.{skipped_child}
use Rattle.suffix_tree.proofs.Limited.{found-pushed, none-pushed, none-below}
use Rattle.suffix_tree.proofs.below.expand_below.Goals as goal
use Rattle.suffix_tree.proofs.below.expand_below.Goals.{then-not-has+in_ok-child+in-Some+in_ok-push, then-not-has+in_ok-child+in_default, else-not-has}

abbrev in_it : Vec Scored Global → List Scored
in_it v = v.items

pub loop-c-init : goal.loop-c-init
loop-c-init g c = record {
  found = none-below c.args.tallies.now.bag c.args.limit c.args.s.now.tail c.new-longer.result.items c.new-longer.ensures.items;
  same = refl;
}

pub loop-c-preserved : goal.loop-c-preserved
loop-c-preserved g c =
    let bag = c.args.tallies.now.bag in
    let t = c.args.s.now.tail in
    let k = c.loop-c.c in
    elim c.if-not-has.branch [
      | then-not-has+in_ok-child+in-Some+in_ok-push w ↦
          let one = subst (λ x. IsScoredBelow bag c.args.limit (with_front t k) x) w.in-Some.is
          (subst (λ m. IsScoredBelow m.bag c.args.limit (with_front t k) w.in_ok-child.field-0) c.loop-c.invariant.same w.in_ok-child.ensures.found) in
          record {
            found = found-pushed bag c.args.limit t k c.loop-c.longer.items c.loop-c.invariant.found (sym c.has.ensures ∙ w.if-not-has.true) w.in-Some.child one
                c.if-not-has.longer.items (ap in_it w.longer-is ∙ w.in_ok-push.ensures.items);
            same = w.tallies-is ∙ w.child_below.ensures.same ∙ c.loop-c.invariant.same;
          }
      | then-not-has+in_ok-child+in_default w ↦
          let one = subst (λ x. IsScoredBelow bag c.args.limit (with_front t k) x) w.in_default.is
          (subst (λ m. IsScoredBelow m.bag c.args.limit (with_front t k) w.in_ok-child.field-0) c.loop-c.invariant.same w.in_ok-child.ensures.found) in
          record {
            found = none-pushed bag c.args.limit t k c.loop-c.longer.items c.loop-c.invariant.found (sym c.has.ensures ∙ w.if-not-has.true) one
                c.if-not-has.longer.items (ap in_it w.longer-is);
            same = w.tallies-is ∙ w.child_below.ensures.same ∙ c.loop-c.invariant.same;
          }
      | else-not-has w ↦ record {
        found = subst₂ (AreScoredBelow bag c.args.limit) (skipped_child t k (sym c.has.ensures ∙ w.if-not-has.false)) (sym (ap in_it w.longer-is))
            c.loop-c.invariant.found;
        same = w.tallies-is ∙ c.loop-c.invariant.same;
      }
    ]
