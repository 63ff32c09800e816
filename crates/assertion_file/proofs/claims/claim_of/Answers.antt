use Rattle.std.proofs.Common.{◌≡◌, ◌∙◌, [], Err, sym, ap}
use Rattle.std.specs.Prelude.{option_map}
use Rattle.std.proofs.lemmas.Result.{err_from_is_err_and}
use Rattle.irv_base.specs.Names.{is_same}
use Rattle.serde_json.specs.View.{view}
use Rattle.assertion_file.specs.Views.{stated_entry}
use Rattle.assertion_file.proofs.Entries.{claim-none, claim-some, no_winner, no_loser, itself, Pair, no_assertion, no_counts, a_claim}
use Rattle.irv_base.proofs.Positions.{stands_at, stands_nowhere}
use Rattle.assertion_file.proofs.claims.claim_of.Goals as goal

pub returns-in_default : goal.returns-in_default
returns-in_default c = sym (claim-none c.args.names.now c.args.records c.args.asked (view c.args.value.now) (sym c.entry_in.ensures
    ∙ ap (option_map stated_entry) c.in_default.is))

pub returns-in_default-candidate : goal.returns-in_default-candidate
returns-in_default-candidate c =
    let names = c.args.names.now in
    let entry = stated_entry c.in-Some.entry in
    let w = stands_nowhere (λ other. is_same other entry.winner) names (sym c.candidate.ensures ∙ c.in_default-candidate.is) in
    sym (claim-some names c.args.records c.args.asked (view c.args.value.now) entry (sym c.in-Some.ensures) ∙ no_winner names c.args.records entry w)

pub returns-in_default-candidate-2 : goal.returns-in_default-candidate-2
returns-in_default-candidate-2 c =
    let names = c.args.names.now in
    let entry = stated_entry c.in-Some.entry in
    let w = stands_at (λ other. is_same other entry.winner) names _ [] (sym c.in-Some-candidate.ensures) in
    let l = stands_nowhere (λ other. is_same other entry.loser) names (sym c.candidate-2.ensures ∙ c.in_default-candidate-2.is) in
    sym (claim-some names c.args.records c.args.asked (view c.args.value.now) entry (sym c.in-Some.ensures) ∙ no_loser names c.args.records entry w.among l)

pub returns-then-eq : goal.returns-then-eq
returns-then-eq c =
    let names = c.args.names.now in
    let entry = stated_entry c.in-Some.entry in
    let w = stands_at (λ other. is_same other entry.winner) names _ [] (sym c.in-Some-candidate.ensures) in
    let l = stands_at (λ other. is_same other entry.loser) names _ [] (sym c.in-Some-candidate-2.ensures) in
    let same : is_same entry.winner entry.loser ≡ _ = sym c.eq.ensures ∙ c.if-eq.true in
    sym (claim-some names c.args.records c.args.asked (view c.args.value.now) entry (sym c.in-Some.ensures) ∙ itself names c.args.records entry w.among l.among same)

pub returns-in_err-assertion : goal.returns-in_err-assertion
returns-in_err-assertion c =
    let names = c.args.names.now in
    let entry = stated_entry c.in-Some.entry in
    let w = stands_at (λ other. is_same other entry.winner) names _ [] (sym c.in-Some-candidate.ensures) in
    let l = stands_at (λ other. is_same other entry.loser) names _ [] (sym c.in-Some-candidate-2.ensures) in
    let pair : Pair names entry c.in-Some-candidate.w c.in-Some-candidate-2.l =
    record { winner = w.among; loser = l.among; differ = sym c.eq.ensures ∙ c.if-eq.false; w_is = w.number; l_is = l.number } in
    let p = err_from_is_err_and c.from_residual.result c.from_residual.ensures.1 in
    p.1 ∙ ap Err p.2
    ∙ sym (claim-some names c.args.records c.args.asked (view c.args.value.now) entry (sym c.in-Some.ensures)
    ∙ no_assertion names c.args.records entry _ _ _ pair (sym c.in_err-assertion.ensures))

pub returns-then-not-are_counts : goal.returns-then-not-are_counts
returns-then-not-are_counts c =
    let names = c.args.names.now in
    let entry = stated_entry c.in-Some.entry in
    let w = stands_at (λ other. is_same other entry.winner) names _ [] (sym c.in-Some-candidate.ensures) in
    let l = stands_at (λ other. is_same other entry.loser) names _ [] (sym c.in-Some-candidate-2.ensures) in
    let pair : Pair names entry c.in-Some-candidate.w c.in-Some-candidate-2.l =
    record { winner = w.among; loser = l.among; differ = sym c.eq.ensures ∙ c.if-eq.false; w_is = w.number; l_is = l.number } in
    sym (claim-some names c.args.records c.args.asked (view c.args.value.now) entry (sym c.in-Some.ensures)
    ∙ no_counts names c.args.records entry _ _ _ pair (sym c.in_ok-assertion.ensures) (sym c.are_counts.ensures ∙ c.if-not-are_counts.true))

pub returns : goal.returns
returns c =
    let names = c.args.names.now in
    let entry = stated_entry c.in-Some.entry in
    let w = stands_at (λ other. is_same other entry.winner) names _ [] (sym c.in-Some-candidate.ensures) in
    let l = stands_at (λ other. is_same other entry.loser) names _ [] (sym c.in-Some-candidate-2.ensures) in
    let pair : Pair names entry c.in-Some-candidate.w c.in-Some-candidate-2.l =
    record { winner = w.among; loser = l.among; differ = sym c.eq.ensures ∙ c.if-eq.false; w_is = w.number; l_is = l.number } in
    sym (claim-some names c.args.records c.args.asked (view c.args.value.now) entry (sym c.in-Some.ensures)
    ∙ a_claim names c.args.records entry _ _ _ pair (sym c.in_ok-assertion.ensures) (sym c.are_counts.ensures ∙ c.if-not-are_counts.false))
