use Rattle.std.proofs.Common.{◌≡◌, true, inl, inr, get_or, sym, ap, subst, arith, ◌∙◌}
use Rattle.std.proofs.lemmas.Bool.{cases_lt}
use Rattle.set_walk.specs.Dives.{is_seen}
use Rattle.set_flow.specs.Kept.{carried}
use Rattle.set_flow.specs.Seen.{turned, can_go, IsLonger, IsReached}
use Rattle.set_flow.proofs.Places.{longer-at, longer-more, longer-seen}
use Rattle.set_flow.proofs.searching.look.Goals as goal

pub returns-then-branch-clause-links : goal.returns-then-branch-clause-links
returns-then-branch-clause-links g c = λ rooms by links.
    c.in_ok-look_by.ensures.links rooms (subst (λ s. g.T.Steps.is_by s rooms) (sym c.loop-c.invariant.steps) by) (c.loop-c.invariant.links rooms by links)

pub loop-c-preserved : goal.loop-c-preserved
loop-c-preserved g c =
    let i = c.loop-c.invariant in
    let old = c.args.seen.now.sets.keys in
    let mid = c.loop-c.seen.sets.keys in
    let new = c.look_by.new.seen.sets.keys in
    let flow = carried c.args.flow.now.kept in
    let longer : IsLonger mid new = c.in_ok-look_by.ensures.longer in
    let here : get_or mid c.args.place 0 ≡ get_or old c.args.place 0 = longer-at old mid c.args.place i.longer c.requires.place in
    record {
      steps = c.look_by.ensures.same ∙ i.steps;
      linked = c.in_ok-look_by.ensures.linked;
      links = λ rooms by links.
          c.in_ok-look_by.ensures.links rooms (subst (λ s. g.T.Steps.is_by s rooms) (sym i.steps) by) (i.links rooms by links);
      longer = longer-more old mid new i.longer longer;
      none = subst (IsReached new c.args.all) c.if-branch.false (c.in_ok-look_by.ensures.all i.none);
      looked = λ rooms by d l goes. elim (cases_lt d c.loop-c.c) [
        | inl p ↦ longer-seen mid new (turned (get_or old c.args.place 0) d) longer (i.looked rooms by d p goes)
        | inr q ↦
            let e : c.loop-c.c ≡ d = omega (arith, l, q) in
            let seen : is_seen new (turned (get_or mid c.args.place 0) c.loop-c.c) ≡ true =
            c.in_ok-look_by.ensures.goes rooms (subst (λ s. g.T.Steps.is_by s rooms) (sym i.steps) by)
            (ap (λ s. can_go rooms flow s c.loop-c.c) here ∙ ap (can_go rooms flow (get_or old c.args.place 0)) e ∙ goes) in
            ap (is_seen new) (sym (ap (λ s. turned s c.loop-c.c) here ∙ ap (turned (get_or old c.args.place 0)) e)) ∙ seen
      ];
    }

pub returns-clause-looked : goal.returns-clause-looked
returns-clause-looked g c = λ rooms by looked _ k l d m goes.
    let i = c.loop-c.invariant in
    let old = c.args.seen.now.sets.keys in
    let new = c.loop-c.seen.sets.keys in
    let flow = carried c.args.flow.now.kept in
    let there = c.requires.place in
    let here : get_or new k 0 ≡ get_or old k 0 = longer-at old new k i.longer (omega (arith, l, there)) in
    let goes-old : can_go rooms flow (get_or old k 0) d ≡ true = ap (λ s. can_go rooms flow s d) (sym here) ∙ goes in
    elim (cases_lt k c.args.place) [
      | inl p ↦
          ap (λ s. is_seen new (turned s d)) here
          ∙ longer-seen old new (turned (get_or old k 0) d) i.longer (looked k p d m goes-old)
      | inr q ↦
          let e : k ≡ c.args.place = omega (arith, l, q) in
          let end = c.loop-c-test.false in
          ap (λ s. is_seen new (turned s d)) (here ∙ ap (λ k. get_or old k 0) e)
          ∙ i.looked rooms by d (omega (arith, m, end)) (ap (λ k. can_go rooms flow (get_or old k 0) d) (sym e) ∙ goes-old)
    ]
