-- The number of workers doesn't change what a command may come to.
use Rattle.std.proofs.Common.{◌≡◌, inl, inr, ℕ, List, [], ◌∷◌, take, Option, None, Some, option_map, Result, Ok, Err, refl, sym, ap, subst, ◌∙◌}
use Rattle.ballots.specs.Ballots.{BallotFile}
use Rattle.ballots.specs.Grammar.{contests_of}
use Rattle.manifest.specs.Cards.{Batches}
use Rattle.manifest.specs.Manifest.{manifest_of}
use Rattle.seen_file.specs.Seen.{Entry}
use Rattle.contest_set.specs.Ends.{AreEnds, EndsAs}
use Rattle.contest_set.specs.Refusals.{FirstLacksRecord, LacksRecord}
use Rattle.contest_set.specs.SeenBy.{seen_by}
use Rattle.contest_set.specs.declared.end.ContestEnd.{ContestEnd}
use Rattle.contest_set.specs.declared.end.ContestEnd.TheVariants.{Tied, Spent, Audited}
use Rattle.contest_set.specs.declared.terms.SharedTerms.{SharedTerms}
use Rattle.cli_base.specs.Outcome.{Outcome, Verdict}
use Rattle.cli_base.specs.Script.{Script, Readings, May, MayCome}
use Rattle.cli_base.proofs.Scripts.{some_is}
use Rattle.command.specs.declared.contests.ContestsTask.{ContestsTask}
use Rattle.command.specs.declared.trial.TrialTask.{TrialTask}
use Rattle.command_line.specs.Line.{command_of}
use Rattle.command_line.specs.declared.commands.Command.{Command}
use Rattle.command_line.specs.declared.commands.Command.TheVariants.{Search, SearchFewest, Trial, Contests}
use Rattle.input_files.specs.Judged.{told, go_on}
use Rattle.input_files.specs.Refusals.{refused_ballots, refused_manifest, refused_seen}
use Rattle.search_commands.specs.Trial.{Tries}
use Rattle.contests_command.specs.Contests.{Audits, after_ballots, after_manifest, script, terms_of}
use Rattle.raire_cli.specs.Answers.{asked_by, is_open, script_of}
use Rattle.call_laws.specs.Agreement.{MayBeSpent, with_workers}

-- ---- a trial

pub tries_the_same : (task : TrialTask) (workers : ℕ) (v : Verdict) → Tries task v → Tries (record task { workers = workers }) v
tries_the_same task workers v (inl (text, lines, is)) = inl (text, record { file = lines.file; found = lines.found; shown = lines.shown }, is)
tries_the_same task workers v (inr tries) = inr tries

-- ---- an audit of all contests

module _ (batches : Batches) (terms : SharedTerms) (workers : ℕ) where
  abbrev others : SharedTerms
  others = record terms { workers = workers }

  ends_as : (ballots : BallotFile) (seen : List Entry) (end : ContestEnd) → EndsAs batches terms ballots seen end → EndsAs batches others ballots seen end
  ends_as ballots seen (Tied round tied tally) is = is
  ends_as ballots seen (Spent last order margin) is = is
  ends_as ballots seen (Audited file counts risks signed) is = record {
    found = is.found;
    none_unseen = is.none_unseen;
    counts_are = is.counts_are;
    risks_are = is.risks_are;
    signed_off = is.signed_off;
  }

  are_ends : (list : List BallotFile) (seen : List (List Entry)) (ends : List ContestEnd) → AreEnds batches terms list seen ends →
      AreEnds batches others list seen ends
  are_ends [] seen [] are = are
  are_ends [] seen (end ∷ ends) are = absurd are
  are_ends (b ∷ list) [] [] are = are
  are_ends (b ∷ list) [] (end ∷ ends) are = absurd are
  are_ends (b ∷ list) (s ∷ seen) [] are = absurd are
  are_ends (b ∷ list) (s ∷ seen) (end ∷ ends) are = (ends_as b s end are.0, are_ends list seen ends are.1)

  lacks_record : {ballots : BallotFile} {seen : List Entry} {card k : ℕ} → LacksRecord batches terms ballots seen card k →
      LacksRecord batches others ballots seen card k
  lacks_record {ballots} {seen} {card} {k} lacks = record { file = lacks.file; found = lacks.found; first = lacks.first }

  first_lacks : {list : List BallotFile} {seen : List (List Entry)} {contest card k : ℕ} → FirstLacksRecord batches terms list seen contest card k →
      FirstLacksRecord batches others list seen contest card k
  first_lacks {list} {seen} {contest} {card} {k} first = record {
    ballots = first.ballots;
    listed = first.listed;
    entries = first.entries;
    seen_for_it = first.seen_for_it;
    lacks = lacks_record first.lacks;
    earlier = first.earlier;
    ends = are_ends (take contest list) (take contest seen) first.earlier first.ends;
  }

-- what is judged continues either way
on_judged : {A : Type 0} (readings : Readings) (judged : Result A Verdict) (next other : A → Script) (due : Outcome) →
    ((value : A) → May readings (next value) due → May readings (other value) due) → May readings (go_on judged next) due →
    May readings (go_on judged other) due
on_judged readings (Ok value) next other due each may = each value may
on_judged readings (Err verdict) next other due each may = may

module _ (task : ContestsTask) (workers : ℕ) where
  abbrev other : ContestsTask
  other = record task { workers = workers }

  audits_the_same : (list : List BallotFile) (batches : Batches) (seen : List (List Entry)) (v : Verdict) → Audits task list batches seen v →
      Audits other list batches seen v
  audits_the_same list batches seen v (inl unplaced) = inl (record { at = unplaced.at; first = unplaced.first; refused = unplaced.refused })
  audits_the_same list batches seen v (inr (inl unseen)) = inr (inl (record {
    placed = unseen.placed;
    contest = unseen.contest;
    card = unseen.card;
    k = unseen.k;
    lacks = first_lacks batches (terms_of task) workers unseen.lacks;
    refused = unseen.refused;
  }))
  audits_the_same list batches seen v (inr (inr is)) = inr (inr (record {
    placed = is.placed;
    ends = is.ends;
    are = are_ends batches (terms_of task) workers list seen is.ends is.are;
    told = is.told;
  }))

  module _ (readings : Readings) (due : Outcome) where
    manifest_the_same : (list : List BallotFile) (batches : Batches) → May readings (after_manifest task list batches) due →
        May readings (after_manifest other list batches) due
    manifest_the_same list batches (inl stop) = inl stop
    manifest_the_same list batches (inr (bytes, there, may)) =
        inr (
          bytes,
          there,
          on_judged readings (told (refused_seen task.seen) (seen_by batches list bytes)) _ _ due
              (λ seen (v, audits, is). (v, audits_the_same list batches seen v audits, is)) may,
        )

    ballots_the_same : (list : List BallotFile) → May readings (after_ballots task list) due → May readings (after_ballots other list) due
    ballots_the_same list (inl stop) = inl stop
    ballots_the_same list (inr (bytes, there, may)) =
        inr (bytes, there, on_judged readings (told (refused_manifest task.manifest) (manifest_of bytes)) _ _ due (manifest_the_same list) may)

    contests_the_same : May readings (script task) due → May readings (script other) due
    contests_the_same (inl stop) = inl stop
    contests_the_same (inr (bytes, there, may)) =
        inr (bytes, there, on_judged readings (told (refused_ballots task.ballots) (contests_of bytes)) _ _ due ballots_the_same may)

-- ---- every command

module _ (workers : ℕ) where
  same_open : (command : Command) → is_open (with_workers workers command) ≡ is_open command
  same_open (Search task) = refl
  same_open (SearchFewest task) = refl
  same_open (Trial task) = refl
  same_open (Contests task) = refl
  same_open _ = refl

  module _ (readings : Readings) (due : Outcome) where
    may_the_same : (command : Command) → May readings (script_of command) due → May readings (script_of (with_workers workers command)) due
    may_the_same (Search task) may = may
    may_the_same (SearchFewest task) may = may
    may_the_same (Trial task) (v, tries, is) = (v, tries_the_same task workers v tries, is)
    may_the_same (Contests task) may = contests_the_same task workers readings due may
    may_the_same _ may = may

    pub come_the_same : (command : Option Command) → MayCome readings (asked_by command) due →
        MayCome readings (asked_by (option_map (with_workers workers) command)) due
    come_the_same None bad = bad
    come_the_same (Some command) may = may_the_same command may

  -- if the first command may run out of budget, so may the second
  pub spent_the_same : (words others : List (List ℕ)) (command : Option Command) → command_of words ≡ command →
      command_of others ≡ option_map (with_workers workers) command → MayBeSpent others → MayBeSpent words
  spent_the_same words others None is other spent = let none = sym other ∙ spent.asked_for in absurd (cc none)
  spent_the_same words others (Some command) is other spent =
      let same : with_workers workers command ≡ spent.command = some_is (sym other ∙ spent.asked_for) in
      record { command = command; asked_for = is; is_open = sym (same_open command) ∙ ap is_open same ∙ spent.is_open }

-- words don't differ from themselves in any number
pub own_workers : (command : Option Command) → (workers : ℕ) × (command ≡ option_map (with_workers workers) command)
own_workers None = (0, refl)
own_workers (Some (Search task)) = (task.workers, refl)
own_workers (Some (SearchFewest task)) = (task.workers, refl)
own_workers (Some (Trial task)) = (task.workers, refl)
own_workers (Some (Contests task)) = (task.workers, refl)
own_workers (Some command) = (0, refl)
