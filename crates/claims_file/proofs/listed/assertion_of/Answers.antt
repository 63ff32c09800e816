use Rattle.std.proofs.Common.{◌≡◌, ◌∙◌, [], Err, sym, ap}
use Rattle.std.specs.Prelude.{option_map}
use Rattle.serde_json.specs.View.{view}
use Rattle.irv_base.specs.Names.{is_same}
use Rattle.irv_base.proofs.Positions.{stands_at, stands_nowhere}
use Rattle.claims_file.specs.Faults.{as_claims}
use Rattle.claims_file.specs.Views.{stated_entry}
use Rattle.claims_file.proofs.Entries.{without, with, no_winner, no_loser, itself, Pair, judged_pair}
use Rattle.claims_file.proofs.listed.assertion_of.Goals as goal

pub returns-in_default : goal.returns-in_default
returns-in_default c = sym (without c.args.names.now (view c.args.value.now) (sym c.entry_in.ensures ∙ ap (option_map stated_entry) c.in_default.is))

pub returns-in_default-candidate : goal.returns-in_default-candidate
returns-in_default-candidate c =
    let names = c.args.names.now in
    let entry = stated_entry c.in-Some.entry in
    let w = stands_nowhere (λ other. is_same other entry.winner) names (sym c.candidate.ensures ∙ c.in_default-candidate.is) in
    sym (with names (view c.args.value.now) entry (sym c.in-Some.ensures) ∙ no_winner names entry w)

pub returns-in_default-candidate-2 : goal.returns-in_default-candidate-2
returns-in_default-candidate-2 c =
    let names = c.args.names.now in
    let entry = stated_entry c.in-Some.entry in
    let w = stands_at (λ other. is_same other entry.winner) names _ [] (sym c.in-Some-candidate.ensures) in
    let l = stands_nowhere (λ other. is_same other entry.loser) names (sym c.candidate-2.ensures ∙ c.in_default-candidate-2.is) in
    sym (with names (view c.args.value.now) entry (sym c.in-Some.ensures) ∙ no_loser names entry w.among l)

pub returns-then-eq : goal.returns-then-eq
returns-then-eq c =
    let names = c.args.names.now in
    let entry = stated_entry c.in-Some.entry in
    let w = stands_at (λ other. is_same other entry.winner) names _ [] (sym c.in-Some-candidate.ensures) in
    let l = stands_at (λ other. is_same other entry.loser) names _ [] (sym c.in-Some-candidate-2.ensures) in
    let same : is_same entry.winner entry.loser ≡ _ = sym c.eq.ensures ∙ c.if-eq.true in
    sym (with names (view c.args.value.now) entry (sym c.in-Some.ensures) ∙ itself names entry w.among l.among same)

pub returns-in-Ok : goal.returns-in-Ok
returns-in-Ok c =
    let names = c.args.names.now in
    let entry = stated_entry c.in-Some.entry in
    let w = stands_at (λ other. is_same other entry.winner) names _ [] (sym c.in-Some-candidate.ensures) in
    let l = stands_at (λ other. is_same other entry.loser) names _ [] (sym c.in-Some-candidate-2.ensures) in
    let pair : Pair names entry c.in-Some-candidate.w c.in-Some-candidate-2.l =
    record { winner = w.among; loser = l.among; differ = sym c.eq.ensures ∙ c.if-eq.false; w_is = w.number; l_is = l.number } in
    sym (with names (view c.args.value.now) entry (sym c.in-Some.ensures) ∙ judged_pair names entry _ _ pair ∙ ap as_claims (sym c.in-Ok.ensures))

pub returns-in-Err : goal.returns-in-Err
returns-in-Err c =
    let names = c.args.names.now in
    let entry = stated_entry c.in-Some.entry in
    let w = stands_at (λ other. is_same other entry.winner) names _ [] (sym c.in-Some-candidate.ensures) in
    let l = stands_at (λ other. is_same other entry.loser) names _ [] (sym c.in-Some-candidate-2.ensures) in
    let pair : Pair names entry c.in-Some-candidate.w c.in-Some-candidate-2.l =
    record { winner = w.among; loser = l.among; differ = sym c.eq.ensures ∙ c.if-eq.false; w_is = w.number; l_is = l.number } in
    ap Err c.as_claims_rule.ensures
    ∙ sym (with names (view c.args.value.now) entry (sym c.in-Some.ensures) ∙ judged_pair names entry _ _ pair ∙ ap as_claims (sym c.in-Err.ensures))
