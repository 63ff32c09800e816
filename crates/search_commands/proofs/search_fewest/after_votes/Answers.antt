use Rattle.std.proofs.Common.{◌≡◌, ◌∙◌, true, false, sym}
use Rattle.cli_base.specs.Due.{due, due_refusal}
use Rattle.search_commands.specs.Search.{has_cards}
use Rattle.search_commands.proofs.Fewest.{refused_or_memory, searched_or_memory}
use Rattle.search_commands.proofs.search_fewest.after_votes.Goals as goal

pub returns-then-not-has_cards : goal.returns-then-not-has_cards
returns-then-not-has_cards g c =
    let few : has_cards c.args.task.now.plan c.args.votes.now ≡ false = sym c.has_cards.ensures ∙ c.if-not-has_cards.true in
    refused_or_memory c.args.task.now c.args.votes.now c.as_str.result.now (due_refusal c.refuse_at.result) few c.as_str.ensures c.refuse_at.ensures

pub returns : goal.returns
returns g c =
    let enough : has_cards c.args.task.now.plan c.args.votes.now ≡ true = sym c.has_cards.ensures ∙ c.if-not-has_cards.false in
    searched_or_memory c.args.task.now c.args.votes.now (due c.search.result) enough c.search.ensures
