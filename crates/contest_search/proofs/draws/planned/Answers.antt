use Rattle.std.proofs.Common.{Some, length, sym, ap, subst, ◌∙◌}
use Rattle.assertion_file.specs.Content.{IsSoundPlan}
use Rattle.contest_search.proofs.Plans.{plan_clean, plan_sound}
use Rattle.contest_search.proofs.draws.planned.Goals as goal

pub with_plan-requires : goal.with_plan-requires
with_plan-requires c =
    let a = c.args in
    subst (λ draws. IsSoundPlan a.file.records (length a.file.claims) (record { cards = a.cards; gamma = a.gamma; limit = a.limit; draws = draws }))
    (plan_clean a.cards a.gamma a.limit a.file.claims ∙ sym c.in_ok-draws.ensures)
    (plan_sound a.cards a.gamma a.limit a.file.records a.file.claims (record {
      some_cards = c.requires.records;
      most_cards = c.requires.cards;
      some_gamma = c.requires.gamma.0;
      most_gamma = c.requires.gamma.1;
      some_limit = c.requires.limit.0;
      most_limit = c.requires.limit.1;
    }))

pub returns : goal.returns
returns c =
    let a = c.args in
    c.with_plan.ensures
    ∙ ap (λ draws. record a.file { plan = Some (record { cards = a.cards; gamma = a.gamma; limit = a.limit; draws = draws }) })
    (c.in_ok-draws.ensures ∙ sym (plan_clean a.cards a.gamma a.limit a.file.claims))
