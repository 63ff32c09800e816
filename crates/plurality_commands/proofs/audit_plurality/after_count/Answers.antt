use Rattle.std.proofs.Common.{ap, length, sym, ◌∙◌}
use Rattle.std.proofs.lemmas.List.{length-map}
use Rattle.manifest.specs.Cards.{cards_of}
use Rattle.manifest.specs.Linked.{recorded_of}
use Rattle.plurality.specs.Plural.{lead}
use Rattle.plurality.proofs.Margins.{margin_each}
use Rattle.session_state.proofs.Facts.{facts_are}
use Rattle.plurality_commands.proofs.audit_plurality.after_count.Goals as goal

pub one_round-requires-clause-cards : goal.one_round-requires-clause-cards
one_round-requires-clause-cards g c = λ yes.
    let facts = facts_are c.args.session c.cards.result c.contest.result.now c.margins.result.now (sym c.has_facts_of-agree.ensures ∙ yes) in
    facts.cards_are ∙ c.cards.ensures.all ∙ sym (length-map (cards_of c.args.cards.now.manifest) (recorded_of c.args.ballots.now))
    ∙ ap length (sym c.requires.linked)

pub one_round-requires-clause-each : goal.one_round-requires-clause-each
one_round-requires-clause-each g c = λ yes.
    let ballots = c.args.ballots.now in
    let won = c.args.plural.now in
    let facts = facts_are c.args.session c.cards.result c.contest.result.now c.margins.result.now (sym c.has_facts_of-agree.ensures ∙ yes) in
    ap length (facts.margins_are ∙ c.margins.ensures) ∙ margin_each (length ballots.candidates) ballots.rankings won c.requires.counted
    ∙ sym (length-map won.losers (lead won.winner))
