use Rattle.std.proofs.Common.{sym, subst, ◌∙◌}
use Rattle.fewest.proofs.Drawing.{draw_grows}
use Rattle.set_flow.specs.Kept.{carried}
use Rattle.set_flow.specs.Searched.{IsSearch, IsSearchBy}
use Rattle.set_flow.proofs.Stuck.{shut-stuck}
use Rattle.set_flow.proofs.rising.rise.Goals as goal

pub returns-in-Stuck-clause-stuck : goal.returns-in-Stuck-clause-stuck
returns-in-Stuck-clause-stuck g c = λ winner floor records rooms by are is.
    let i = c.loop-unit.invariant in
    shut-stuck c.args.n winner floor records rooms are (carried c.loop-unit.flow.kept) (i.flow winner floor records rooms by are is) c.in-Stuck.seen
    (subst (IsSearchBy c.args.n rooms (carried c.loop-unit.flow.kept)) c.in-Stuck.is
    (c.in_ok-seen.ensures.by rooms (subst (λ s. g.T.Steps.is_by s rooms) (sym i.steps) by)))

pub loop-unit-preserved : goal.loop-unit-preserved
loop-unit-preserved g c =
    let i = c.loop-unit.invariant in
    record {
      steps = c.draw_more.ensures.same ∙ c.search_all.ensures.same ∙ i.steps;
      flow = λ winner floor records rooms by are is.
          let by-found = subst (λ s. g.T.Steps.is_by s rooms) (sym i.steps) by in
          let drawn = (draw_grows c.args.n winner floor records (carried c.loop-unit.flow.kept) (carried c.draw.new.flow.kept) c.requires.some
          (i.flow winner floor records rooms by are is)
          (c.in_ok-draw-in-Reached.ensures c.args.n c.args.all winner floor records rooms are c.requires.all (subst (IsSearch c.args.n c.args.all) c.in-Reached.is c.in_ok-seen.ensures.ends)
          (subst (IsSearchBy c.args.n rooms (carried c.loop-unit.flow.kept)) c.in-Reached.is (c.in_ok-seen.ensures.by rooms by-found)))).0 in
          c.in_ok-draw_more-in-Reached.ensures.flow winner floor records rooms (subst (λ s. g.T.Steps.is_by s rooms) (sym c.search_all.ensures.same) by-found) are drawn;
    }
