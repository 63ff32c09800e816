use Rattle.std.proofs.Common.{◌≡◌, ◌∙◌, ℕ, ◌+◌, ◌-◌, ◌∷◌, All, Some, drop, length, take, sym, ap, ap₂, subst, Option, arith}
use Rattle.std.proofs.Math.Seq.{take-add}
use Rattle.std.proofs.lemmas.List.{drop_more, get_or_default, length-drop, length-take, take_all}
use Rattle.std.proofs.lemmas.List.Sums.{fold_more}
use Rattle.km_risk.specs.Counts.{draws_in}
use Rattle.session_state.specs.Sessions.{Round}
use Rattle.audit_session.specs.Going.{all_counts}
use Rattle.audit_session.specs.declared.fault.AdvanceFault.{AdvanceFault}
use Rattle.audit_session.specs.declared.fault.AdvanceFault.TheVariants.{Smaller, NoRecord, Changed, Memory}
use Rattle.audit_session.specs.Refusals.{Refuses, changed_from, changed_in, first_of, last_draws}
use Rattle.audit_session.proofs.Counted.{all-draws}
use Rattle.audit_session.proofs.earlier.counts_before.Goals as goal

pub all_counts-requires-clause-few : goal.all_counts-requires-clause-few
all_counts-requires-clause-few g c =
    let counts-are = c.deref.ensures.value ∙ c.loop-i.invariant.counted in
    let draws = subst (All (λ counts. draws_in counts ≡ length (take c.loop-i.from c.args.drawn.now))) (sym counts-are)
    (all-draws (g.T.Claims.values c.args.claims.now) c.count-count.ensures.assorters (take c.loop-i.from c.args.drawn.now)) in
    λ k d below.
    let same = draws k d below in
    let part = length-take (c.draws-end.result - c.loop-i.from) (drop c.loop-i.from c.args.drawn.now) in
    let before = length-take c.loop-i.from c.args.drawn.now in
    omega (arith, same, part, before, length-drop c.loop-i.from c.args.drawn.now, c.requires.few)

refuses-some : (first : Option AdvanceFault) (fault : AdvanceFault) → first ≡ Some fault → Refuses first fault
refuses-some first (Smaller had) h = h
refuses-some first (NoRecord card k) h = h
refuses-some first (Changed round claim expected found) h = h
refuses-some first Memory h = tt

pub returns-in-Some-clause-refused : goal.returns-in-Some-clause-refused
returns-in-Some-clause-refused g c =
    let rounds = c.args.rounds.now in
    let values = g.T.Claims.values c.args.claims.now in
    let drawn = c.args.drawn.now in
    let from = c.loop-i.from in
    let round = c.index-rounds-i.result in
    let end-is = c.draws-end.ensures ∙ ap (λ (r : Round). r.draws) c.index-rounds-i.is in
    let later = c.loop-i.invariant.later c.loop-i.i round (omega arith) (omega arith) in
    let whole : from + (c.draws-end.result - from) ≡ c.draws-end.result = omega (arith, later, end-is) in
    let counted = c.in_ok-next.ensures (take from drawn) (c.deref.ensures.value ∙ c.loop-i.invariant.counted)
    ∙ ap (all_counts values) (sym (take-add from (c.draws-end.result - from) drawn) ∙ ap (λ n. take n drawn) whole) in
    let found = c.deref-in-loop-i.ensures.value ∙ counted ∙ ap (λ n. all_counts values (take n drawn)) c.draws-end.ensures in
    let changed = ap₂ (λ e f. changed_in (c.loop-i.i + 1) 1 e f) (sym c.counts.ensures) (sym found) ∙ sym c.first_changed.ensures ∙ c.in-Some.is in
    let rest = drop (c.loop-i.i + 1) rounds in
    refuses-some (changed_from values drawn 1 rounds) c.in-Some.fault
    (c.loop-i.invariant.left
    ∙ ap (changed_from values drawn (c.loop-i.i + 1)) (drop_more rounds c.loop-i.i round (omega arith) ∙ ap (λ (r : Round). r ∷ rest) (sym c.index-rounds-i.is))
    ∙ ap (λ o. first_of o (changed_from values drawn (c.loop-i.i + 1 + 1) rest)) changed)

pub loop-i-preserved : goal.loop-i-preserved
loop-i-preserved g c =
    let rounds = c.args.rounds.now in
    let round = c.index-rounds-i.result in
    let end-is = c.draws-end.ensures ∙ ap (λ (r : Round). r.draws) c.index-rounds-i.is in
    let later = c.loop-i.invariant.later c.loop-i.i round (omega arith) (omega arith) in
    let most = c.requires.drawn c.loop-i.i round (omega arith) in
    let values = g.T.Claims.values c.args.claims.now in
    let drawn = c.args.drawn.now in
    let from = c.loop-i.from in
    let whole : from + (c.draws-end.result - from) ≡ c.draws-end.result = omega (arith, later, end-is) in
    let counted = c.in_ok-next.ensures (take from drawn) (c.deref.ensures.value ∙ c.loop-i.invariant.counted)
    ∙ ap (all_counts values) (sym (take-add from (c.draws-end.result - from) drawn) ∙ ap (λ n. take n drawn) whole) in
    let found = c.deref-in-loop-i.ensures.value ∙ counted ∙ ap (λ n. all_counts values (take n drawn)) c.draws-end.ensures in
    let unchanged = ap₂ (λ e f. changed_in (c.loop-i.i + 1) 1 e f) (sym c.counts.ensures) (sym found) ∙ sym c.first_changed.ensures ∙ c.in_default.is in
    let rest = drop (c.loop-i.i + 1) rounds in
    record {
      from_is = end-is ∙ sym (fold_more (λ (earlier : ℕ) (r : Round). r.draws) 0 rounds c.loop-i.i round (omega arith));
      far = omega (arith, later, end-is, c.loop-i.invariant.far);
      within = omega (arith, most, end-is);
      later = λ k d after below.
          let rising = c.requires.rising c.loop-i.i k d (omega arith) below in
          let same = ap (λ (r : Round). r.draws) (get_or_default rounds c.loop-i.i d round (omega arith)) in
          omega (arith, rising, same, end-is);
      counted = counted;
      left = c.loop-i.invariant.left
          ∙ ap (changed_from values drawn (c.loop-i.i + 1)) (drop_more rounds c.loop-i.i round (omega arith)
          ∙ ap (λ (r : Round). r ∷ rest) (sym c.index-rounds-i.is))
          ∙ ap (λ o. first_of o (changed_from values drawn (c.loop-i.i + 1 + 1) rest)) unchanged;
    }

pub returns-clause-counts : goal.returns-clause-counts
returns-clause-counts g c =
    c.loop-i.invariant.counted
    ∙ ap (λ n. all_counts (g.T.Claims.values c.args.claims.now) (take n c.args.drawn.now))
    (c.loop-i.invariant.from_is ∙ ap last_draws (take_all c.loop-i.i c.args.rounds.now (omega arith)))
