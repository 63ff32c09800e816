use Rattle.std.proofs.Common.{◌≡◌, ◌+◌, false, ◌++◌, map, filter, Some, sym, ap, subst, arith, ◌∙◌}
use Rattle.irv_base.specs.Candidates.{candidates}
use Rattle.assertions.specs.declared.assertion.Assertion.TheVariants.{Nen}
use Rattle.assertions.specs.declared.assertion.Claim.{Claim}
use Rattle.assertions.specs.Steps.{more}
use Rattle.set_tallies.specs.Bags.{IsOf}
use Rattle.set_walk.specs.Dives.{is_seen}
use Rattle.fewest.proofs.Flowing.{step_facts}
use Rattle.nen_cut.specs.declared.by_tallies.ByTallies.{ByTallies}
use Rattle.nen_cut.specs.Cut.{IsAcross, AreCutters, is_cut, IsStepCutter}
use Rattle.nen_cut.proofs.Across.{across-no, across-yes, cut-facts, standing-step}
use Rattle.nen_cut.proofs.nens.put_nens.Goals as goal
use Rattle.nen_cut.proofs.nens.put_nens.Goals.{in-Some+in_ok-push, in_default}

pub loop-c-preserved : goal.loop-c-preserved
loop-c-preserved c =
    let i = c.loop-c.invariant in
    let s = c.args.steps.now in
    let n = c.args.n in
    let set = c.args.set in
    let front = c.loop-c.c in
    let within = is_seen c.args.seen.now.sets.keys in
    record {
      steps = c.nen_across.ensures.same ∙ i.steps;
      nens = λ records before of are.
          let so-far = i.nens records before of are in
          let here : IsAcross n s.winner records s.least within set front c.in_ok-nen.field-0 =
          subst (λ (s : ByTallies). IsAcross n s.winner records s.least within set front c.in_ok-nen.field-0) i.steps
          (c.in_ok-nen.ensures.across records (subst (λ (s : ByTallies). IsOf s.tallies.bag records) (sym i.steps) of)) in
          elim c.match-branch-2.branch [
            | in-Some+in_ok-push w ↦
                let both : IsAcross n s.winner records s.least within set front (Some w.in-Some.nen) =
                subst (IsAcross n s.winner records s.least within set front) w.in-Some.is here in
                let out = (step_facts n s.winner set front
                (standing-step n s.winner records s.least within set front (cut-facts n s.winner records s.least within set front both.0).standing)).out in
                let number = w.with.ensures.number out in
                let same : w.with.result ≡ more set front = omega (arith, number) in
                let claim : Claim = record { assertion = Nen front w.in-Some.nen.loser w.with.result; margin = w.in-Some.nen.margin } in
                let is : IsStepCutter n records s.least (set, front) claim =
                record { loser = w.in-Some.nen.loser; nen = ap (λ r. Nen front w.in-Some.nen.loser r) same; strongest = both.1 } in
                let now = across-yes n s.winner records s.least within set before c.loop-c.nens.items front claim so-far both.0 is in
                subst (λ l. AreCutters n records s.least (before ++ map (λ c. (set, c)) (filter (is_cut n s.winner records s.least within set) (candidates (front + 1)))) l) (sym (ap (λ v. v.items) w.nens-is ∙ w.in_ok-push.ensures.items)) now
            | in_default w ↦
                let no-cut : is_cut n s.winner records s.least within set front ≡ false =
                subst (IsAcross n s.winner records s.least within set front) w.in_default.is here in
                let now = across-no n s.winner records s.least within set before c.loop-c.nens.items front so-far no-cut in
                subst (λ l. AreCutters n records s.least (before ++ map (λ c. (set, c)) (filter (is_cut n s.winner records s.least within set) (candidates (front + 1)))) l) (sym (ap (λ v. v.items) w.nens-is)) now
          ];
    }
