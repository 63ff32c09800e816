use Rattle.std.proofs.Common.{◌<◌, ◌∷◌, ap, subst, sym, arith, ◌∙◌}
use Rattle.irv_base.specs.Candidates.{is_in}
use Rattle.suffix_tree.specs.Suffixes.{Suffix}
use Rattle.suffix_tree.proofs.Tails.{before-front}
use Rattle.suffix_tree.proofs.tail.Tail.fronts.Goals as goal

pub front-tail-requires-clause-below : goal.front-tail-requires-clause-below
front-tail-requires-clause-below c =
    let t = before-front c.args.self.now.n c.loop-at.at c.index-list-at.result c.args.list.now c.args.self.now.list c.requires
    (omega (arith, c.loop-at-test.true)) c.loop-at.invariant.within c.index-list-at.is in
    subst (λ n. c.index-list-at.result < n) (sym c.loop-at.invariant.number) t.0

pub front-tail-requires-clause-other : goal.front-tail-requires-clause-other
front-tail-requires-clause-other c =
    let t = before-front c.args.self.now.n c.loop-at.at c.index-list-at.result c.args.list.now c.args.self.now.list c.requires
    (omega (arith, c.loop-at-test.true)) c.loop-at.invariant.within c.index-list-at.is in
    ap (λ list. is_in list c.index-list-at.result) c.loop-at.invariant.list ∙ t.1

pub loop-at-preserved : goal.loop-at-preserved
loop-at-preserved c =
    let t = before-front c.args.self.now.n c.loop-at.at c.index-list-at.result c.args.list.now c.args.self.now.list c.requires
    (omega (arith, c.loop-at-test.true)) c.loop-at.invariant.within c.index-list-at.is in
    record {
      within = omega (arith, c.loop-at.invariant.within);
      number = ap (λ (s : Suffix). s.n) c.front-tail.ensures ∙ c.loop-at.invariant.number;
      list = ap (λ (s : Suffix). s.list) c.front-tail.ensures ∙ ap (λ list. c.index-list-at.result ∷ list) c.loop-at.invariant.list ∙ t.2;
    }
