use Rattle.std.proofs.Common.{rules, ◌∙◌, ap, sym, arith, ◌*◌}
use Rattle.std.proofs.lemmas.Bool.{leb-false}
use Rattle.km_risk.specs.declared.limits.TheConstants.{MILLIONTH}
use Rattle.km_risk.specs.Counts.{clean}
use Rattle.km_risk.specs.Printed.{printed_risk, step}
use Rattle.km_risk.specs.Clean.{clean_draws}
use Rattle.km_risk.proofs.CleanDraws.{find_behind, printed_risk-clean}
use Rattle.km_risk.proofs.clean.first_within.Goals as goal

pub loop-n-init : goal.loop-n-init
unfolding printed_risk clean_draws
loop-n-init c = search rules

pub loop-n-preserved : goal.loop-n-preserved
loop-n-preserved c = record {
  value =
      c.after_draw-now.ensures.value
      ∙ ap (λ risk. step c.args.setting.cards c.args.setting.margin c.args.setting.gamma risk 2) c.loop-n.invariant.value
      ∙ sym (printed_risk-clean c.args.setting.cards c.args.setting.margin c.args.setting.gamma c.loop-n.n);
  at_most_one = c.after_draw-now.ensures.at_most_one;
  rest =
      c.loop-n.invariant.rest
      ∙ find_behind (λ k. printed_risk c.args.setting.cards c.args.setting.margin c.args.setting.gamma (clean k)) (c.args.limit * MILLIONTH) c.loop-n.n
      _ (omega arith)
      (omega (
        arith,
        c.loop-n.invariant.value,
        leb-false c.loop-n.now (c.args.limit * MILLIONTH) (sym c.is_confirmed.ensures ∙ c.if-is_confirmed.false),
      ));
}
