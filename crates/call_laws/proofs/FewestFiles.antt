-- A later call accepts what a search for the fewest NENs printed.
use Rattle.std.proofs.Common.{◌≡◌, inl, inr, ℕ, ◌≤◌, List, length, Option, Some, Ok, true, refl, sym, ap, subst, arith, ◌∙◌}
use Rattle.std.specs.Prelude.{option_map}
use Rattle.desk.specs.Desk.{File, held_bytes}
use Rattle.assertion_file.specs.Content.{Content}
use Rattle.assertion_file.specs.Reading.{assertion_file_of}
use Rattle.budget.specs.declared.budget.Budget.TheVariants.{Sets}
use Rattle.ballots.specs.Ballots.{BallotFile}
use Rattle.ballots.specs.Grammar.{ballots_of}
use Rattle.cli_base.specs.Outcome.{Outcome, Answered, outcome}
use Rattle.cli_base.specs.Script.{AsHeld, Concludes, May, MayCome, limit}
use Rattle.cli_base.specs.declared.outcome.AnswerKind.TheVariants.{Done}
use Rattle.cli_base.proofs.Scripts.{ended}
use Rattle.cli_base.proofs.Statuses.{answer_verdict, stopped}
use Rattle.command.specs.declared.search_fewest.SearchFewestTask.{SearchFewestTask}
use Rattle.command_line.specs.declared.commands.Command.TheVariants.{SearchFewest}
use Rattle.command_line.proofs.Checked.{are_checked}
use Rattle.contest_search.specs.Fewest.{with_own_margin}
use Rattle.contest_search.proofs.FewestAccepted.{accepted_with}
use Rattle.input_files.specs.Refusals.{refused_ballots}
use Rattle.search_commands.specs.Search.{has_cards, plan_by, printed}
use Rattle.search_commands.specs.SearchFewest.{HasFewest, script}
use Rattle.search_commands.proofs.Fewest.{done_is, found_by as searches_found}
use Rattle.raire_cli.specs.Asks.{Asks}
use Rattle.raire_cli.specs.Answers.{asked, asked_by}
use Rattle.raire_cli.specs.Fewest.{AsksForFewest}
use Rattle.raire_cli.proofs.Fewest.{searching_fewest}
use Rattle.raire_cli.proofs.Said.{said}
use Rattle.call_laws.specs.Agreement.{Call}
use Rattle.call_laws.specs.PrintedFiles.{FewestIsAccepted, FewestIsOpened, HasPrinted}
use Rattle.call_laws.proofs.PrintedFiles.{WasPrinted, accepted_later, clean_by, one_text, opened_later, sound_by}

module _ {words : List (List ℕ)} (files : List File) (search : Asks SearchFewest words) where
  abbrev task : SearchFewestTask
  task = search.task

  -- the ballots that a search read, and the text of their assertions
  record Found (text : List ℕ) : Type 0 where
    pub bytes : List ℕ
    pub held : held_bytes task.ballots files ≡ Some bytes
    pub is_short : length bytes ≤ limit
    pub ballots : BallotFile
    pub read : ballots_of bytes task.contest ≡ Ok ballots
    pub cards : has_cards task.plan ballots ≡ true
    pub has : HasFewest task.sets task.gap task.floor task.plan ballots text

  found_by : (d : Outcome) → d.status ≡ 0 → May (AsHeld files) (script task) d → Found d.out
  found_by d zero may = elim (ended (AsHeld files) (script task) d may) [
    | inl (v, concludes, is) ↦
        let (text, answered) = answer_verdict Done v d is zero in
        let shown : d.out ≡ text = ap (λ (o : Outcome). o.out) is ∙ ap (λ v. (outcome v).out) answered in
        let came = said files task.ballots (refused_ballots task.ballots) (λ bytes. ballots_of bytes task.contest) (searching_fewest words files search) Done d.out
        (λ why. tt) (subst (Concludes (AsHeld files) (script task)) (answered ∙ ap (Answered Done) (sym shown)) concludes) in
        let (cards, finds) = searches_found task came.value Done d.out came.rest in
        record {
          bytes = came.bytes;
          held = came.held;
          is_short = came.is_short;
          ballots = came.value;
          read = came.is;
          cards = cards;
          has = done_is task.sets task.gap task.floor task.plan came.value d.out finds;
        }
    | inr (name, reading, reaches, there, stops) ↦ absurd (stopped 0 name reading d stops zero refl refl refl)
  ]

  module _ (call : Call) (text : List ℕ) (has : HasPrinted words files call text) where
    found : Found text
    found = elim has.answer.otherwise [
      | inl undone ↦ absurd (let zero = has.done in omega (arith, undone, zero))
      | inr (to_out, to_err, may, took, took_err) ↦
          let ended : Outcome = record { status = call.status; out = to_out; err = to_err } in
          let may' : MayCome (AsHeld files) (asked words) ended = may in
          subst Found (sym (one_text call.out has.before text to_out has.told_before has.told_after took))
          (found_by ended has.done (subst (λ command. MayCome (AsHeld files) (asked_by command) ended) search.asked may'))
    ]

    abbrev was_printed : WasPrinted files task.ballots task.contest (Sets task.sets) text
    was_printed =
        let f = found in
        let file = f.has.file in
        let limits = (are_checked words (SearchFewest task) search.asked).plan in
        let records : file.records ≡ length f.ballots.rankings = ap (λ (f : Content). f.records) f.has.is.is in
        let (holds, reads, accepted) = accepted_with task.sets task.gap f.bytes task.contest f.ballots file (option_map (plan_by file) task.plan) f.read f.has.is
        (sound_by task.plan f.ballots file records limits f.cards) (clean_by task.plan file) in
        record {
          bytes = f.bytes;
          held = f.held;
          is_short = f.is_short;
          ballots = f.ballots;
          read = f.read;
          file = printed task.plan (with_own_margin file);
          reads = subst (λ t. assertion_file_of t ≡ Ok (printed task.plan (with_own_margin file))) (sym f.has.shown) reads;
          accepted = accepted;
        }

    asks_for : AsksForFewest words files was_printed.ballots found.has.is.winner
    asks_for =
        let f = found in
        record { search = search; bytes = f.bytes; held = f.held; accepted = f.read; cards = f.cards; won = f.has.is.won }

pub fewest_is_accepted : FewestIsAccepted
fewest_is_accepted words others search check files more first second text printed holds settled =
    accepted_later others search.task.ballots search.task.contest (Sets search.task.sets) check files more second text
    (was_printed files search first text printed) holds settled

pub fewest_is_opened : FewestIsOpened
fewest_is_opened words others search opening files more first second text printed holds cards settled =
    let was = was_printed files search first text printed in
    let winner = (found files search first text printed).has.is.winner in
    opened_later words others search.task.ballots search.task.contest (Sets search.task.sets) opening files more second text was holds cards
    (cards.placed was.ballots winner (inr (asks_for files search first text printed))) settled
