use Rattle.std.proofs.Common.{inl, refl, ◌∙◌}
use Rattle.cli_base.specs.Outcome.{Answered}
use Rattle.cli_base.specs.declared.outcome.AnswerKind.TheVariants.{Done}
use Rattle.cli_base.proofs.Ended.{bytes_of}
use Rattle.search_commands.specs.Tabulate.{HasRounds}
use Rattle.contest_search.proofs.Findings.{won_by}
use Rattle.search_commands.proofs.tabulate.rounds.Goals as goal

pub returns : goal.returns
returns c =
    let t = c.args.tabulated.now in
    let shown = bytes_of c.into_bytes.result c.in_ok-text.text c.into_bytes.ensures.value ∙ c.in_ok-text.ensures in
    let lines : HasRounds c.args.votes.now _ = record {
      winner = t.winner;
      won = won_by c.args.votes.now t c.requires.is;
      decided = c.requires.decided;
      shown = shown;
    } in
    inl (Answered Done _, inl (_, lines, refl), refl)
