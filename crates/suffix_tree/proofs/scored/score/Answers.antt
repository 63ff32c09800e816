use Rattle.std.proofs.Common.{◌≡◌, true, ap, sym, refl, arith, ◌∙◌}
use Rattle.std.proofs.Math.Seq.{drop-length}
use Rattle.irv_base.specs.Candidates.{is_in}
use Rattle.assertions.specs.Suffixes.{is_suffix}
use Rattle.suffix_tree.proofs.Tails.{before-out}
use Rattle.suffix_tree.proofs.Children.{none-scored}
use Rattle.suffix_tree.proofs.scored.score.Goals as goal

pub loop-at-init : goal.loop-at-init
loop-at-init c = record {
  within = omega arith;
  number = c.none.ensures.number ∙ c.candidates.ensures.same;
  list = c.none.ensures.none ∙ sym (drop-length c.list-list.result.now);
  scored = none-scored c.args.tallies.now.bag c.none.result c.none.ensures.none;
  same = refl;
}

pub child-requires-clause-other : goal.child-requires-clause-other
child-requires-clause-other c =
    let suffix : is_suffix c.args.t.now.n c.list-list.result.now ≡ true = ap (is_suffix c.args.t.now.n) c.list-list.ensures.same ∙ c.list-list.ensures.suffix in
    ap (λ xs. is_in xs c.index-list-at.result) c.loop-at.invariant.list
    ∙ before-out c.args.t.now.n c.loop-at.at c.index-list-at.result c.list-list.result.now suffix (omega (arith, c.loop-at-test.true))
    c.loop-at.invariant.within c.index-list-at.is
