use Rattle.std.proofs.Common.{Ok, sym, ap, ◌∙◌}
use Rattle.suffix_walk.specs.Kept.{all_ending}
use Rattle.suffix_walk.specs.Walks.{walked}
use Rattle.suffix_walk.proofs.Scans.{differs, agrees, scan-start, scan-winner, scan-other, scan-stops}
use Rattle.suffix_walk.proofs.walk.first_within.Goals as goal
use Rattle.suffix_walk.proofs.walk.first_within.Goals.{then-ne+in-Ok, else-ne}

pub loop-c-init : goal.loop-c-init
loop-c-init g c = scan-start c.args.n c.args.nodes (g.T.Keeps.kept c.args.test.now) c.args.winner c.requires.some

pub returns-in-Err : goal.returns-in-Err
returns-in-Err g c =
    let kept = g.T.Keeps.kept c.args.test.now in
    c.stopped.ensures
    ∙ sym (scan-stops c.args.n c.args.nodes kept c.args.winner c.loop-c.c c.in-Err.stop c.loop-c-test.true
    (differs c.loop-c.c c.args.winner c.ne.result c.ne.ensures c.if-ne.true)
    (sym c.in-Err.is ∙ c.walk.ensures ∙ ap (λ s. walked c.args.n c.args.nodes (g.T.Keeps.kept c.args.test.now) 0 (all_ending c.args.n s)) c.of.ensures))
    ∙ c.loop-c.invariant

pub loop-c-preserved : goal.loop-c-preserved
loop-c-preserved g c =
    let kept = g.T.Keeps.kept c.args.test.now in
    elim c.if-ne.branch [
      | then-ne+in-Ok w ↦ sym (scan-other c.args.n c.args.nodes kept c.args.winner c.loop-c.c (Ok w.in-Ok._count) c.loop-c-test.true
          (differs c.loop-c.c c.args.winner c.ne.result c.ne.ensures w.if-ne.true)
          (sym w.in-Ok.is ∙ w.walk.ensures ∙ ap (λ s. walked c.args.n c.args.nodes (g.T.Keeps.kept c.args.test.now) 0 (all_ending c.args.n s)) w.of.ensures))
          ∙ c.loop-c.invariant
      | else-ne w ↦ sym (scan-winner c.args.n c.args.nodes kept c.args.winner c.loop-c.c c.loop-c-test.true
          (agrees c.loop-c.c c.args.winner c.ne.result c.ne.ensures w.if-ne.false)) ∙ c.loop-c.invariant
    ]
