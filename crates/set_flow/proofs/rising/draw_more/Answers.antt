use Rattle.std.proofs.Common.{sym, subst, ◌∙◌}
use Rattle.std.specs.Option.{IfSome}
use Rattle.fewest.proofs.Drawing.{draw_grows}
use Rattle.set_flow.specs.Kept.{carried}
use Rattle.set_flow.specs.Seen.{AreLinks}
use Rattle.set_flow.specs.Searched.{IsWay}
use Rattle.set_flow.proofs.rising.draw_more.Goals as goal

pub loop-unit-preserved : goal.loop-unit-preserved
loop-unit-preserved g c =
    let i = c.loop-unit.invariant in
    let kept = c.loop-unit.flow.kept in
    record {
      steps = c.find_way.ensures.same ∙ i.steps;
      flow = λ winner floor records rooms by are is.
          (draw_grows c.args.n winner floor records (carried kept) (carried c.draw.new.flow.kept) c.requires.some
          (i.flow winner floor records rooms by are is)
          (c.in_ok-draw-in-Some.ensures c.args.n c.args.all winner floor records rooms are c.requires.all
          (subst (λ way. IfSome way (IsWay c.args.n c.args.all)) c.in-Some.is c.in_ok-way.ensures.way)
          (subst (λ way. IfSome way (λ seen. AreLinks rooms (carried kept) seen.sets.keys seen.from.items seen.by.items)) c.in-Some.is
          (c.in_ok-way.ensures.links rooms (subst (λ s. g.T.Steps.is_by s rooms) (sym i.steps) by))))).0;
    }
