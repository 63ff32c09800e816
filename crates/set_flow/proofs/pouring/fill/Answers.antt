use Rattle.std.proofs.Common.{arith, sym, subst, refl, ◌∙◌}
use Rattle.fewest.specs.Growth.{Draws}
use Rattle.set_flow.specs.Kept.{carried}
use Rattle.set_flow.proofs.Poured.{more-units}
use Rattle.set_flow.proofs.pouring.fill.Goals as goal

pub loop-units-init : goal.loop-units-init
loop-units-init g c = record {
  steps = refl;
  flow = λ winner floor records rooms by are is. record { flow = is; more = omega arith };
}

pub loop-units-preserved : goal.loop-units-preserved
loop-units-preserved g c =
    let steps = c.loop-units.invariant.steps in
    record {
      steps = c.in_ok-pour.ensures.same ∙ steps;
      flow = λ winner floor records rooms by are is.
          let h = c.loop-units.invariant.flow winner floor records rooms by are is in
          let drawn : Draws c.args.n winner records floor (carried c.loop-units.flow.kept) (carried c.pour.new.flow.kept) c.empty.result =
          c.in_ok-pour.ensures.flows winner floor records rooms (subst (λ s. g.T.Steps.is_by s rooms) (sym steps) by) are c.if-not-branch.false in
          more-units c.args.n winner floor records (carried c.args.flow.now.kept) (carried c.loop-units.flow.kept) (carried c.pour.new.flow.kept)
          c.loop-units.units c.requires.some h
          (subst (Draws c.args.n winner records floor (carried c.loop-units.flow.kept) (carried c.pour.new.flow.kept)) c.empty.ensures drawn);
    }
