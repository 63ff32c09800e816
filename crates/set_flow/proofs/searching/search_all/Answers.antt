use Rattle.std.proofs.Common.{sym, subst, ◌∙◌}
use Rattle.set_flow.specs.Seen.{IsReached}
use Rattle.set_flow.proofs.searching.search_all.Goals as goal

pub returns-then-branch-clause-by : goal.returns-then-branch-clause-by
returns-then-branch-clause-by g c = λ rooms by.
    c.in_ok-look.ensures.links rooms (subst (λ s. g.T.Steps.is_by s rooms) (sym c.loop-place.invariant.steps) by) (c.loop-place.invariant.links rooms by)

pub loop-place-preserved : goal.loop-place-preserved
loop-place-preserved g c =
    let i = c.loop-place.invariant in
    record {
      steps = c.look.ensures.same ∙ i.steps;
      linked = c.in_ok-look.ensures.linked;
      links = λ rooms by. c.in_ok-look.ensures.links rooms (subst (λ s. g.T.Steps.is_by s rooms) (sym i.steps) by) (i.links rooms by);
      none = subst (IsReached c.look.new.seen.sets.keys c.args.all) c.if-branch.false c.in_ok-look.ensures.all;
      looked = λ rooms by.
          c.in_ok-look.ensures.looked rooms (subst (λ s. g.T.Steps.is_by s rooms) (sym i.steps) by) (i.looked rooms by) c.if-branch.false;
    }
