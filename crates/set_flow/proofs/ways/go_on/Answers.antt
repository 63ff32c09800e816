use Rattle.std.proofs.Common.{◌≡◌, false, sym, subst, ◌∙◌}
use Rattle.set_walk.specs.Dives.{is_seen}
use Rattle.set_flow.specs.Kept.{carried}
use Rattle.set_flow.specs.Seen.{AreLinked, AreLinks, IsLonger, IsReached}
use Rattle.set_flow.proofs.Places.{longer-more}
use Rattle.set_flow.proofs.ways.go_on.Goals as goal
use Rattle.set_flow.proofs.ways.go_on.Goals.{then-rise+then-not-contains+in_ok-look_by+else-branch+else-len-many, else-rise}

pub returns-then-branch-clause-links : goal.returns-then-branch-clause-links
returns-then-branch-clause-links g c = λ rooms by links.
    c.in_ok-look_by.ensures.links rooms (subst (λ s. g.T.Steps.is_by s rooms) (sym c.loop-c.invariant.steps) by) (c.loop-c.invariant.links rooms by links)

pub returns-then-len-many-clause-links : goal.returns-then-len-many-clause-links
returns-then-len-many-clause-links g c = λ rooms by links.
    c.in_ok-look_by.ensures.links rooms (subst (λ s. g.T.Steps.is_by s rooms) (sym c.loop-c.invariant.steps) by) (c.loop-c.invariant.links rooms by links)

pub loop-c-preserved : goal.loop-c-preserved
loop-c-preserved g c =
    let i = c.loop-c.invariant in
    let old = c.args.seen.now.sets.keys in
    let all = c.args.all in
    let flow = carried c.args.flow.now.kept in
    elim c.if-rise.branch [
      | then-rise+then-not-contains+in_ok-look_by+else-branch+else-len-many w ↦
          let new = w.look_by.new.seen.sets.keys in
          let e = sym w.seen-is in
          record {
            steps = w.steps-is ∙ w.look_by.ensures.same ∙ i.steps;
            linked = subst (λ s. AreLinked c.args.n s.sets.keys s.from.items s.by.items) e w.in_ok-look_by.ensures.linked;
            links = λ rooms by links.
                subst (λ s. AreLinks rooms flow s.sets.keys s.from.items s.by.items) e
                (w.in_ok-look_by.ensures.links rooms (subst (λ s. g.T.Steps.is_by s rooms) (sym i.steps) by) (i.links rooms by links));
            longer = subst (λ s. IsLonger old s.sets.keys) e (longer-more old c.loop-c.seen.sets.keys new i.longer w.in_ok-look_by.ensures.longer);
            none = subst (λ s. is_seen s.sets.keys all ≡ false) e (subst (IsReached new all) w.if-branch.false (w.in_ok-look_by.ensures.all i.none));
          }
      | else-rise w ↦
          let e = sym w.seen-is in
          record {
            steps = w.steps-is ∙ i.steps;
            linked = subst (λ s. AreLinked c.args.n s.sets.keys s.from.items s.by.items) e i.linked;
            links = λ rooms by links. subst (λ s. AreLinks rooms flow s.sets.keys s.from.items s.by.items) e (i.links rooms by links);
            longer = subst (λ s. IsLonger old s.sets.keys) e i.longer;
            none = subst (λ s. is_seen s.sets.keys all ≡ false) e i.none;
          }
    ]
