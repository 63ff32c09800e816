-- Each clause follows from the story of the call, which is what was due and what the sinks took of it.
use Rattle.cli_base.specs.Due.{due}
use Rattle.cli_base.proofs.Clauses.{answered_clause, kept_clause}
use Rattle.cli_base.proofs.Faults.{read_told}
use Rattle.command_line.specs.Words.{texts}
use Rattle.raire_cli.proofs.Clauses.{story_of, story_known, headline_clause, fewest_clause, full_count_clause, tied_clause, complete_tie_clause, complete_clause, complete_fewest_clause, complete_tabulation_clause, complete_trial_clause, enough_clause, enough_sets_clause, spent_sets_clause, accepted_clause, trimmed_clause, adopted_clause, complete_adoption_clause, opened_clause, audited_clause, polled_clause, polled_each_clause, complete_poll_clause, opened_plurality_clause, audited_plurality_clause, audited_contests_clause, status_clause, exact_promise}
use Rattle.raire_cli.proofs.call.run.Goals as goal

pub returns-clause-headline : goal.returns-clause-headline
returns-clause-headline g c = headline_clause (texts c.args.words.now) (story_of c.answer-outcome.ensures.due c.deliver.ensures)

pub returns-clause-fewest : goal.returns-clause-fewest
returns-clause-fewest g c = fewest_clause (texts c.args.words.now) (story_of c.answer-outcome.ensures.due c.deliver.ensures)

pub returns-clause-full_count : goal.returns-clause-full_count
returns-clause-full_count g c = full_count_clause (texts c.args.words.now) (story_of c.answer-outcome.ensures.due c.deliver.ensures)

pub returns-clause-complete : goal.returns-clause-complete
returns-clause-complete g c = complete_clause (texts c.args.words.now) (story_of c.answer-outcome.ensures.due c.deliver.ensures)

pub returns-clause-complete_fewest : goal.returns-clause-complete_fewest
returns-clause-complete_fewest g c = complete_fewest_clause (texts c.args.words.now) (story_of c.answer-outcome.ensures.due c.deliver.ensures)

pub returns-clause-tied : goal.returns-clause-tied
returns-clause-tied g c =
    tied_clause (texts c.args.words.now) (story_known (texts c.args.words.now) (story_of c.answer-outcome.ensures.due c.deliver.ensures))

pub returns-clause-complete_tie : goal.returns-clause-complete_tie
returns-clause-complete_tie g c =
    complete_tie_clause (texts c.args.words.now) (story_known (texts c.args.words.now) (story_of c.answer-outcome.ensures.due c.deliver.ensures))

pub returns-clause-complete_tabulation : goal.returns-clause-complete_tabulation
returns-clause-complete_tabulation g c = complete_tabulation_clause (texts c.args.words.now) (story_of c.answer-outcome.ensures.due c.deliver.ensures)

pub returns-clause-complete_trial : goal.returns-clause-complete_trial
returns-clause-complete_trial g c = complete_trial_clause (texts c.args.words.now) (story_of c.answer-outcome.ensures.due c.deliver.ensures)

pub returns-clause-enough : goal.returns-clause-enough
returns-clause-enough g c = enough_clause (texts c.args.words.now) (story_of c.answer-outcome.ensures.due c.deliver.ensures)

pub returns-clause-enough_sets : goal.returns-clause-enough_sets
returns-clause-enough_sets g c =
    enough_sets_clause (texts c.args.words.now) (story_known (texts c.args.words.now) (story_of c.answer-outcome.ensures.due c.deliver.ensures))

pub returns-clause-spent_sets : goal.returns-clause-spent_sets
returns-clause-spent_sets g c =
    spent_sets_clause (texts c.args.words.now) (story_known (texts c.args.words.now) (story_of c.answer-outcome.ensures.due c.deliver.ensures))

pub returns-clause-accepted : goal.returns-clause-accepted
returns-clause-accepted g c = accepted_clause (texts c.args.words.now) (story_of c.answer-outcome.ensures.due c.deliver.ensures)

pub returns-clause-trimmed : goal.returns-clause-trimmed
returns-clause-trimmed g c = trimmed_clause (texts c.args.words.now) (story_of c.answer-outcome.ensures.due c.deliver.ensures)

pub returns-clause-adopted : goal.returns-clause-adopted
returns-clause-adopted g c = adopted_clause (texts c.args.words.now) (story_of c.answer-outcome.ensures.due c.deliver.ensures)

pub returns-clause-complete_adoption : goal.returns-clause-complete_adoption
returns-clause-complete_adoption g c = complete_adoption_clause (texts c.args.words.now) (story_of c.answer-outcome.ensures.due c.deliver.ensures)

pub returns-clause-opened : goal.returns-clause-opened
returns-clause-opened g c = opened_clause (texts c.args.words.now) (story_of c.answer-outcome.ensures.due c.deliver.ensures)

pub returns-clause-audited : goal.returns-clause-audited
returns-clause-audited g c = audited_clause (texts c.args.words.now) (story_of c.answer-outcome.ensures.due c.deliver.ensures)

pub returns-clause-polled : goal.returns-clause-polled
returns-clause-polled g c = polled_clause (texts c.args.words.now) (story_of c.answer-outcome.ensures.due c.deliver.ensures)

pub returns-clause-polled_each : goal.returns-clause-polled_each
returns-clause-polled_each g c = polled_each_clause (texts c.args.words.now) (story_of c.answer-outcome.ensures.due c.deliver.ensures)

pub returns-clause-complete_poll : goal.returns-clause-complete_poll
returns-clause-complete_poll g c = complete_poll_clause (texts c.args.words.now) (story_of c.answer-outcome.ensures.due c.deliver.ensures)

pub returns-clause-opened_plurality : goal.returns-clause-opened_plurality
returns-clause-opened_plurality g c = opened_plurality_clause (texts c.args.words.now) (story_of c.answer-outcome.ensures.due c.deliver.ensures)

pub returns-clause-audited_plurality : goal.returns-clause-audited_plurality
returns-clause-audited_plurality g c = audited_plurality_clause (texts c.args.words.now) (story_of c.answer-outcome.ensures.due c.deliver.ensures)

pub returns-clause-audited_contests : goal.returns-clause-audited_contests
returns-clause-audited_contests g c = audited_contests_clause (texts c.args.words.now) (story_of c.answer-outcome.ensures.due c.deliver.ensures)

pub returns-clause-answer : goal.returns-clause-answer
returns-clause-answer g c = answered_clause (story_of c.answer-outcome.ensures.due c.deliver.ensures)

pub returns-clause-status : goal.returns-clause-status
returns-clause-status g c =
    status_clause (texts c.args.words.now) (story_known (texts c.args.words.now) (story_of c.answer-outcome.ensures.due c.deliver.ensures))

pub returns-clause-exact : goal.returns-clause-exact
returns-clause-exact g c =
    exact_promise (texts c.args.words.now) (story_known (texts c.args.words.now) (story_of c.answer-outcome.ensures.due c.deliver.ensures))

pub returns-clause-read_told : goal.returns-clause-read_told
returns-clause-read_told g c = read_told (due c.answer-outcome.result) c.answer-outcome.ensures.faults c.deliver.ensures

pub returns-clause-kept : goal.returns-clause-kept
returns-clause-kept g c = kept_clause (story_of c.answer-outcome.ensures.due c.deliver.ensures)

pub returns-clause-begun : goal.returns-clause-begun
returns-clause-begun g c = story_of c.answer-outcome.ensures.due c.deliver.ensures
