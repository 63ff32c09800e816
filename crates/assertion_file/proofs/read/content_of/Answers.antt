use Rattle.std.proofs.Common.{◌∙◌, Ok, All, length, map, sym, ap, subst, arith}
use Rattle.std.specs.Prelude.{option_map, IfSome}
use Rattle.std.proofs.lemmas.Result.{err_from_is_err_and}
use Rattle.serde_json.specs.View.{view}
use Rattle.irv_base.specs.Names.{all_differ}
use Rattle.assertion_file.specs.Content.{IsSoundClaim, IsSoundPlan}
use Rattle.file_fault.specs.Refusals.{Refuses}
use Rattle.assertion_file.specs.Reading.{claim_in, content_of, content_with, is_order_if, plan_with, ◌>>=◌}
use Rattle.assertion_file.specs.Stated.{draws_asked}
use Rattle.assertion_file.specs.Views.{stated_heading}
use Rattle.assertion_file.proofs.Headings.{content-none, content-kept, content-is, refused_heading, refused_claims, sound}
use Rattle.assertion_file.proofs.SoundClaims.{claims-sound}
use Rattle.assertion_file.proofs.SoundFiles.{order-is, sound-claims, plan-sound}
use Rattle.assertion_file.proofs.read.content_of.Goals as goal

pub returns-in_default-clause-refused : goal.returns-in_default-clause-refused
returns-in_default-clause-refused c =
    subst (Refuses (content_of (view c.args.value.now))) (sym c.refused.ensures) (content-none (view c.args.value.now) (sym c.heading_in.ensures
    ∙ ap (option_map stated_heading) c.in_default.is))

pub returns-in_err-named-clause-refused : goal.returns-in_err-named-clause-refused
returns-in_err-named-clause-refused c =
    let p = err_from_is_err_and c.from_residual.result c.from_residual.ensures.1 in
    rw (p.1, p.2) (refused_heading (view c.args.value.now) (stated_heading c.in-Some.heading) _ (sym c.in-Some.ensures) c.in_err-named.ensures.refused)

pub returns-in_err-planned-clause-refused : goal.returns-in_err-planned-clause-refused
returns-in_err-planned-clause-refused c =
    let p = err_from_is_err_and c.from_residual-in_err-planned.result c.from_residual-in_err-planned.ensures.1 in
    rw (p.1, p.2) (refused_claims (view c.args.value.now) (stated_heading c.in-Some.heading) _ (sym c.in-Some.ensures) c.in_ok-named.ensures.kept
    c.in_err-planned.ensures.refused)

pub claims_in-requires-clause-few : goal.claims_in-requires-clause-few
claims_in-requires-clause-few c =
    let s = sound (stated_heading c.in-Some.heading) c.in_ok-named.ensures.kept in
    omega (arith, s.most, ap length (c.as_slice.ensures.value ∙ c.in_ok-named.ensures.candidates))

pub new-requires-clause-fewest : goal.new-requires-clause-fewest
new-requires-clause-fewest c = let s = sound (stated_heading c.in-Some.heading) c.in_ok-named.ensures.kept in
    omega (arith, s.fewest, ap length c.in_ok-named.ensures.candidates)

pub new-requires-clause-most : goal.new-requires-clause-most
new-requires-clause-most c = let s = sound (stated_heading c.in-Some.heading) c.in_ok-named.ensures.kept in
    omega (arith, s.most, ap length c.in_ok-named.ensures.candidates)

pub new-requires-clause-differ : goal.new-requires-clause-differ
new-requires-clause-differ c = let s = sound (stated_heading c.in-Some.heading) c.in_ok-named.ensures.kept in ap all_differ c.in_ok-named.ensures.candidates
    ∙ s.differ

pub new-requires-clause-some_records : goal.new-requires-clause-some_records
new-requires-clause-some_records c = (sound (stated_heading c.in-Some.heading) c.in_ok-named.ensures.kept).some_records

pub new-requires-clause-most_records : goal.new-requires-clause-most_records
new-requires-clause-most_records c = (sound (stated_heading c.in-Some.heading) c.in_ok-named.ensures.kept).most_records

pub new-requires-clause-winner : goal.new-requires-clause-winner
new-requires-clause-winner c =
    let s = sound (stated_heading c.in-Some.heading) c.in_ok-named.ensures.kept in
    omega (arith, s.winner, ap length c.in_ok-named.ensures.candidates, c.in_ok-named.ensures.winner)

pub new-requires-clause-margin : goal.new-requires-clause-margin
new-requires-clause-margin c = (sound (stated_heading c.in-Some.heading) c.in_ok-named.ensures.kept).margin

pub new-requires-clause-order : goal.new-requires-clause-order
new-requires-clause-order c =
    let s = sound (stated_heading c.in-Some.heading) c.in_ok-named.ensures.kept in
    order-is (length c.in_ok-named.named.candidates.items) c.in_ok-named.named.order
    (ap (λ ids. is_order_if (length ids) c.in_ok-named.named.order) c.in_ok-named.ensures.candidates
    ∙ ap (is_order_if (length (stated_heading c.in-Some.heading).candidates)) c.in_ok-named.ensures.order ∙ s.order)

pub new-requires-clause-claims : goal.new-requires-clause-claims
new-requires-clause-claims c =
    let heading = stated_heading c.in-Some.heading in
    let all = claims-sound heading.candidates heading.records (draws_asked heading.version heading.terms) 1 heading.assertions c.in_ok-planned.planned.items
    c.in_ok-planned.ensures.read in
    let claims = sym (c.in_ok-claims.ensures ∙ ap (map claim_in) c.deref.ensures.value) in
    subst (λ ids. All (IsSoundClaim (length ids) heading.records) c.in_ok-claims.claims.items) (sym c.in_ok-named.ensures.candidates)
    (subst (All (IsSoundClaim (length heading.candidates) heading.records)) claims (sound-claims heading c.in_ok-planned.planned.items all))

pub new-requires-clause-plan : goal.new-requires-clause-plan
new-requires-clause-plan c =
    let heading = stated_heading c.in-Some.heading in
    let s = sound heading c.in_ok-named.ensures.kept in
    let planned = c.in_ok-planned.planned.items in
    let all = claims-sound heading.candidates heading.records (draws_asked heading.version heading.terms) 1 heading.assertions planned c.in_ok-planned.ensures.read in
    let claims = sym (c.in_ok-claims.ensures ∙ ap (map claim_in) c.deref.ensures.value) in
    let plan = sym (c.in_ok-plan.ensures ∙ ap (plan_with heading.terms) c.deref-2.ensures.value) in
    subst (λ claims. IfSome c.in_ok-plan.plan (IsSoundPlan heading.records (length claims))) claims
    (subst (λ plan. IfSome plan (IsSoundPlan heading.records (length (map claim_in planned)))) plan
    (plan-sound (length heading.candidates) heading.records heading.terms planned s.terms all))

pub returns-clause-read : goal.returns-clause-read
returns-clause-read c =
    let heading = stated_heading c.in-Some.heading in
    let planned = c.in_ok-planned.planned.items in
    let named = c.in_ok-named.ensures in
    let claims = c.in_ok-claims.ensures ∙ ap (map claim_in) c.deref.ensures.value in
    let plan = c.in_ok-plan.ensures ∙ ap (plan_with heading.terms) c.deref-2.ensures.value in
    let same = content-is heading planned _ _ _ _ _ _ named.contest named.candidates named.winner named.order claims plan in
    content-kept (view c.args.value.now) heading (sym c.in-Some.ensures) c.in_ok-named.ensures.kept
    ∙ ap (λ said. said >>= λ claims. Ok (content_with heading claims)) c.in_ok-planned.ensures.read ∙ ap Ok (sym (c.new.ensures ∙ same))
