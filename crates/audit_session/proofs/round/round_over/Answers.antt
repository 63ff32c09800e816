use Rattle.std.proofs.Common.{◌≡◌, ◌∙◌, ◌++◌, ℕ, All, List, length, take, sym, ap, subst, arith}
use Rattle.std.proofs.lemmas.List.{length-map, length-take}
use Rattle.km_risk.specs.declared.draws.Counts.{Counts}
use Rattle.km_risk.specs.Counts.{draws_in}
use Rattle.session_state.specs.Sessions.{risks_of}
use Rattle.audit_session.specs.declared.compared.Drawn.{Drawn}
use Rattle.audit_session.specs.Going.{all_counts, counts_over}
use Rattle.audit_session.proofs.Counted.{all-draws}
use Rattle.audit_session.proofs.round.round_over.Goals as goal

pub all_counts-requires-clause-each : goal.all_counts-requires-clause-each
all_counts-requires-clause-each g c =
    let values = g.T.Claims.values c.args.claims.now in
    ap length c.requires.before ∙ length-map values (λ value. counts_over value (take c.args.had c.args.drawn.now))

pub all_counts-requires-clause-few : goal.all_counts-requires-clause-few
all_counts-requires-clause-few g c =
    let before = take c.args.had c.args.drawn.now in
    let draws = subst (All (λ counts. draws_in counts ≡ length before)) (sym c.requires.before)
    (all-draws (g.T.Claims.values c.args.claims.now) c.count-count.ensures.assorters before) in
    λ k d below. omega (arith, draws k d below, length-take c.args.had c.args.drawn.now, c.split_at.ensures.back_len, c.requires.most, c.requires.had)

-- all cards are counted
counted : (values : List (List ℕ → ℕ)) (drawn front rest : List Drawn) (had : ℕ) (before counts : List Counts) →
    before ≡ all_counts values (take had drawn) → front ≡ take had drawn → drawn ≡ front ++ rest →
    ((earlier : List Drawn) → before ≡ all_counts values earlier → counts ≡ all_counts values (earlier ++ rest)) → counts ≡ all_counts values drawn
counted values drawn front rest had before counts before-is front-is whole step =
    step front (before-is ∙ ap (all_counts values) (sym front-is)) ∙ ap (all_counts values) (sym whole)

pub risks_of-requires-clause-each : goal.risks_of-requires-clause-each
risks_of-requires-clause-each g c =
    let values = g.T.Claims.values c.args.claims.now in
    let drawn = c.args.drawn.now in
    let counts = counted values drawn c.split_at.result.0.now c.split_at.result.1.now c.args.had c.args.before.now c.in_ok-counts.counts.items
    c.requires.before c.split_at.ensures.front c.split_at.ensures.by_index.0 c.in_ok-counts.ensures in
    ap length (c.deref.ensures.value ∙ counts) ∙ length-map values (λ value. counts_over value drawn) ∙ sym c.requires.each

pub risks_of-requires-clause-few : goal.risks_of-requires-clause-few
risks_of-requires-clause-few g c =
    let values = g.T.Claims.values c.args.claims.now in
    let drawn = c.args.drawn.now in
    let counts = counted values drawn c.split_at.result.0.now c.split_at.result.1.now c.args.had c.args.before.now c.in_ok-counts.counts.items
    c.requires.before c.split_at.ensures.front c.split_at.ensures.by_index.0 c.in_ok-counts.ensures in
    let draws = subst (All (λ counts. draws_in counts ≡ length drawn)) (sym (c.deref.ensures.value ∙ counts))
    (all-draws values c.count-count.ensures.assorters drawn) in
    λ k d below. omega (arith, draws k d below, c.requires.most)

pub returns : goal.returns
returns g c =
    let values = g.T.Claims.values c.args.claims.now in
    let drawn = c.args.drawn.now in
    let counts = counted values drawn c.split_at.result.0.now c.split_at.result.1.now c.args.had c.args.before.now c.in_ok-counts.counts.items
    c.requires.before c.split_at.ensures.front c.split_at.ensures.by_index.0 c.in_ok-counts.ensures in
    let risks = c.in_ok-risks.ensures ∙ ap (risks_of c.args.cards c.args.gamma c.args.margins.now) (c.deref.ensures.value ∙ counts) in
    c.new.ensures ∙ (λ i. record { draws = length drawn; counts = counts i; risks = risks i })
