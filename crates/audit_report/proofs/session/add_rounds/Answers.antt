use Rattle.std.proofs.Common.{◌≡◌, ◌+◌, ◌++◌, ◌<◌, ◌||◌, ℕ, length, get_or, false, string_bytes, arith, ap, ap₂, subst, sym, flat_map, ◌∙◌}
use Rattle.std.specs.List.{range_with_len}
use Rattle.session_state.specs.Sessions.{is_confirmed_at, meets}
use Rattle.audit_report.specs.Session.{claim_in, draws_line}
use Rattle.audit_report.proofs.Confirmed.{confirmed_more}
use Rattle.audit_report.proofs.Rounds.{counts-long, risks-long, rounds_more}
use Rattle.audit_report.proofs.session.add_rounds.Goals as goal

pub confirm-requires-clause-each : goal.confirm-requires-clause-each
confirm-requires-clause-each c =
    let session = c.args.s.now.session in
    let i = c.loop-i.i in
    let round = c.index-rounds-i.result in
    risks-long session c.requires.sound i round (subst (λ rounds. i < length rounds) c.rounds-rounds.ensures c.loop-i-test.true)
    (subst (λ rounds. round ≡ get_or rounds i round) c.rounds-rounds.ensures c.index-rounds-i.is) ∙ sym c.loop-i.invariant.each

pub add_claims-requires-clause-counts : goal.add_claims-requires-clause-counts
add_claims-requires-clause-counts c =
    let session = c.args.s.now.session in
    let i = c.loop-i.i in
    let round = c.index-rounds-i.result in
    counts-long session c.requires.sound i round (subst (λ rounds. i < length rounds) c.rounds-rounds.ensures c.loop-i-test.true)
    (subst (λ rounds. round ≡ get_or rounds i round) c.rounds-rounds.ensures c.index-rounds-i.is) ∙ sym (ap length c.margins-margins.ensures)

pub add_claims-requires-clause-risks : goal.add_claims-requires-clause-risks
add_claims-requires-clause-risks c =
    let session = c.args.s.now.session in
    let i = c.loop-i.i in
    let round = c.index-rounds-i.result in
    risks-long session c.requires.sound i round (subst (λ rounds. i < length rounds) c.rounds-rounds.ensures c.loop-i-test.true)
    (subst (λ rounds. round ≡ get_or rounds i round) c.rounds-rounds.ensures c.index-rounds-i.is) ∙ sym (ap length c.margins-margins.ensures)

pub loop-i-preserved : goal.loop-i-preserved
loop-i-preserved c =
    let session = c.args.s.now.session in
    let i = c.loop-i.i in
    let round = c.index-rounds-i.result in
    let within : i < length session.rounds = subst (λ rounds. i < length rounds) c.rounds-rounds.ensures c.loop-i-test.true in
    let is : round ≡ get_or session.rounds i round = subst (λ rounds. round ≡ get_or rounds i round) c.rounds-rounds.ensures c.index-rounds-i.is in
    let are : (j : ℕ) → j < length session.margins → get_or c.confirm.new.confirmed j false ≡ is_confirmed_at session (i + 1) j = λ j below.
    c.confirm.ensures.marked j (omega (arith, below, c.loop-i.invariant.each))
    ∙ ap₂ (λ was limit. was || meets limit j round) (c.loop-i.invariant.are j below) c.limit-limit.ensures.same
    ∙ sym (confirmed_more session i j round within is) in
    record {
      lines = rounds_more session i round (λ claim. get_or c.confirm.new.confirmed claim false) (string_bytes c.loop-i.text) (string_bytes c.add_draws.new.text)
          (string_bytes c.add_claims.new.text) _
          within is (c.in_ok-add_draws.ensures ∙ ap (λ draws. string_bytes c.loop-i.text ++ draws_line (i + 1) draws) c.draws.ensures)
          (c.in_ok-add_claims.ensures
          ∙ ap (λ margins. string_bytes c.add_draws.new.text ++ flat_map (claim_in margins round (λ claim. get_or c.confirm.new.confirmed claim false))
          (range_with_len 0 (length margins))) c.margins-margins.ensures)
          are c.loop-i.invariant.lines;
      each = c.confirm.ensures.each ∙ c.loop-i.invariant.each;
      are = are;
    }
