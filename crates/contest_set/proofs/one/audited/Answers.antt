use Rattle.std.proofs.Common.{◌≡◌, ◌∙◌, ◌≤◌, None, length, sym, ap, subst}
use Rattle.budget.specs.declared.budget.Budget.TheVariants.{Nodes}
use Rattle.manifest.specs.Linked.{linked_of}
use Rattle.audit_session.specs.Refusals.{without_record}
use Rattle.session_state.specs.Sessions.{Round}
use Rattle.contest_search.specs.declared.found.Found.TheVariants.{Certificate}
use Rattle.contest_set.specs.Ends.{Finds, are_confirmed, round_over}
use Rattle.contest_set.proofs.Rounds.{records-fit}
use Rattle.contest_set.proofs.one.audited.Goals as goal

pub round_of-requires-clause-records : goal.round_of-requires-clause-records
round_of-requires-clause-records c =
    subst (λ recorded. c.args.file.records ≤ length recorded) (sym c.in-Ok.ensures.linked)
    (records-fit (Nodes c.args.terms.now.nodes) c.args.m.now c.args.ballots.now c.args.file c.ids-ids.ensures.differ c.ids-ids.ensures.one_each c.requires.linked
    c.requires.found)

pub returns : goal.returns
returns c =
    let terms = c.args.terms.now in
    let seen = c.args.seen.now in
    let linked = c.in-Ok.ensures.linked in
    let round = c.in-Ok-round_of.ensures.round ∙ ap (λ recorded. round_over terms recorded seen c.args.file) linked
    ∙ ap (round_over terms (linked_of c.args.m.now c.args.ballots.now) seen) (sym c.file.view_is) in
    let risks = c.in_ok-to_vec-2.ensures.items_if_clones_equal (λ x y is. is) ∙ c.risks-2.ensures in
    record {
      found = subst (λ f. Finds terms c.args.ballots.now (Certificate f)) (sym c.file.view_is) c.requires.found;
      none_unseen = subst (λ recorded. without_record terms.seed (length recorded) seen terms.draws ≡ None) linked c.in-Ok-round_of.ensures.none;
      counts_are = c.in_ok-to_vec.ensures.items_if_clones_equal (λ x y is. is) ∙ c.counts.ensures ∙ ap (λ (r : Round). r.counts) round;
      risks_are = risks ∙ ap (λ (r : Round). r.risks) round;
      signed_off = c.are_confirmed-signed.ensures ∙ ap (are_confirmed terms.limit) (c.risks.ensures ∙ sym risks);
    }
