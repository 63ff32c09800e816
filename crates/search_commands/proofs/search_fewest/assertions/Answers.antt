use Rattle.std.proofs.Common.{inl, inr, refl, ap, arith, ◌∙◌}
use Rattle.assertion_file.specs.Text.{assertion_file_text}
use Rattle.cli_base.specs.Outcome.{Answered}
use Rattle.cli_base.specs.declared.outcome.AnswerKind.TheVariants.{Done, FullCount}
use Rattle.contest_search.proofs.FewestAccepted.{some-claims}
use Rattle.search_commands.specs.Search.{printed}
use Rattle.search_commands.proofs.search_fewest.assertions.Goals as goal

pub with_own_margin-requires-clause-claims : goal.with_own_margin-requires-clause-claims
with_own_margin-requires-clause-claims c =
    some-claims c.args.task.now.sets c.args.task.now.gap c.args.votes.now c.args.file c.requires.candidates c.requires.found

pub returns-then-margin-task : goal.returns-then-margin-task
returns-then-margin-task c =
    let below = c.if-margin-task.true in
    let same = c.margin.ensures.same in
    inl (
      Answered FullCount _,
      inr (inr (inr (
        _,
        record {
          file = c.args.file;
          is = c.requires.found;
          floor = omega (arith, below, same);
          shown = c.in_ok-full_count.ensures;
        },
        refl,
      ))),
      refl,
    )

pub returns : goal.returns
returns c =
    let reached = c.if-margin-task.false in
    let same = c.margin.ensures.same in
    inl (
      Answered Done _,
      inl (
        _,
        record {
          file = c.args.file;
          is = c.requires.found;
          floor = omega (arith, reached, same);
          shown = c.in_ok-print_file.ensures.text
              ∙ ap assertion_file_text (c.in_ok-file.ensures ∙ ap (printed c.args.task.now.plan) c.in_ok-with_own_margin.ensures);
        },
        refl,
      ),
      refl,
    )
