-- A contest that is signed off is counted.
use Rattle.std.proofs.Common.{◌≡◌, ◌∙◌, ℕ, List, true, Some, sym, subst}
use Rattle.command.specs.Contests.{IsWithinLimits}
use Rattle.command_line.specs.declared.commands.Command.TheVariants.{Contests}
use Rattle.command_line.proofs.Checked.{are_checked}
use Rattle.contest_set.specs.Ends.{AreWithinLimits, IsAudited}
use Rattle.contest_set.specs.declared.end.ContestEnd.TheVariants.{Audited}
use Rattle.contest_set.proofs.RiskLimit.{end_is_counted}
use Rattle.contests_command.specs.Contests.{terms_of}
use Rattle.raire_cli.specs.Asks.{Asks}
use Rattle.call_laws.specs.ContestsLimit.{ContestIsCounted}
use Rattle.call_laws.proofs.ContestsAlone.{end-of}
use Rattle.call_laws.proofs.PollsLimit.{some_card}

-- the terms of words are within their limits
pub within_limits : {words : List (List ℕ)} (asks : Asks Contests words) → AreWithinLimits (terms_of asks.task)
within_limits {words} asks =
    let checked : IsWithinLimits asks.task = are_checked words (Contests asks.task) asks.asked in record {
      some_draws = checked.draws.0;
      most_draws = checked.draws.1;
      some_limit = checked.limit.0;
      most_limit = checked.limit.1;
      some_gamma = checked.gamma.0;
      most_gamma = checked.gamma.1;
      some_workers = checked.workers.0;
      most_workers = checked.workers.1;
    }

pub contest_is_counted : ContestIsCounted
contest_is_counted words files audit place ballots entries file counts risks actual most few listed seen ended long true-entries =
    let task = audit.asks.task in
    let batches = audit.inputs.batches in
    let (own, at, is) = end-of batches (terms_of task) audit.inputs.list audit.inputs.seen audit.ends place ballots (Audited file counts risks true)
    audit.are listed ended in
    let both : Some own ≡ Some entries = sym at ∙ seen in
    let same : own ≡ entries = cc both in
    let its = subst (λ s. IsAudited batches (terms_of task) ballots s file counts.items risks.items true) same is in
    (end_is_counted batches (terms_of task) most ballots entries file counts.items risks.items actual (within_limits audit.asks) few
    (some_card audit.bytes.cards.manifest batches audit.say.manifest) long its true-entries).1
