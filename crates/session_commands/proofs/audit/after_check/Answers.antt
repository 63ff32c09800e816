use Rattle.std.proofs.Common.{ap, length, sym, ◌∙◌}
use Rattle.std.proofs.lemmas.List.{length-map}
use Rattle.assertions.specs.Assorter.{assorter_value}
use Rattle.manifest.specs.Cards.{cards_of}
use Rattle.manifest.specs.Linked.{recorded_of}
use Rattle.assertion_file.specs.Content.{margins_of}
use Rattle.session_state.proofs.Facts.{facts_are}
use Rattle.session_commands.proofs.audit.after_check.Goals as goal

pub one_round-requires-clause-cards : goal.one_round-requires-clause-cards
one_round-requires-clause-cards g c = λ yes.
    let file = c.args.file.now in
    let facts = facts_are c.args.session c.cards.result file.contest (margins_of file) (sym c.has_facts-agree.ensures ∙ yes) in
    facts.cards_are ∙ c.cards.ensures.all ∙ sym (length-map (cards_of c.args.cards.now.manifest) (recorded_of c.args.ballots.now))
    ∙ ap length (sym c.requires.linked)

pub one_round-requires-clause-each : goal.one_round-requires-clause-each
one_round-requires-clause-each g c = λ yes.
    let file = c.args.file.now in
    let facts = facts_are c.args.session c.cards.result file.contest (margins_of file) (sym c.has_facts-agree.ensures ∙ yes) in
    ap length facts.margins_are ∙ length-map file.claims (λ claim. claim.margin) ∙ sym (length-map file.claims (λ claim. assorter_value claim.assertion))
