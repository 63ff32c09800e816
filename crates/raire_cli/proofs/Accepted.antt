-- Status 0 of a check comes with an assertion file that holds for the ballots.
use Rattle.std.proofs.Common.{◌≡◌, ℕ, List, Some, Ok, Err, refl, subst}
use Rattle.desk.specs.Desk.{File}
use Rattle.ballots.specs.Ballots.{BallotFile}
use Rattle.ballots.specs.Grammar.{ballots_of}
use Rattle.assertion_file.specs.Content.{Content}
use Rattle.assertion_file.specs.Reading.{assertion_file_of}
use Rattle.cover_checker.specs.Checks.{IsAnswer}
use Rattle.cover_checker.specs.Findings.{Answer}
use Rattle.cover_checker.proofs.Held.{accepted_iff_holds}
use Rattle.cover_checker.specs.declared.checked.Checked.TheVariants.{OtherContest, OtherWinner, OtherMargin, Stands, NotLeast, NotAlternative, Harder, OtherDraws, Accepted}
use Rattle.cover_checker.specs.declared.checked.CheckFault.TheVariants.{Spent, SpentSets, Memory}
use Rattle.cli_base.specs.Outcome.{Answered}
use Rattle.cli_base.specs.Script.{Script, Ends, AsHeld, ComesTo}
use Rattle.cli_base.specs.declared.outcome.AnswerKind.TheVariants.{Done}
use Rattle.check_command.specs.Check.{yes_text, verdict_on, Checks, after_ballots}
use Rattle.input_files.specs.Refusals.{refused_assertions, refused_ballots}
use Rattle.assertion_file.proofs.SoundFiles.{read_is_sound}
use Rattle.command_line.specs.declared.commands.Command.TheVariants.{Check}
use Rattle.raire_cli.specs.Asks.{Asks}
use Rattle.raire_cli.specs.Acceptance.{HoldsAsked}
use Rattle.raire_cli.specs.Held.{AreChecked}
use Rattle.raire_cli.specs.Answers.{asked, asked_by}
use Rattle.raire_cli.proofs.Said.{said, says_of}

-- `yes` is printed for a file that is accepted
pub accepted_answer : (file : Content) (answer : Answer) (text : List ℕ) → verdict_on file answer ≡ Some (Answered Done text) → answer ≡ Ok Accepted
accepted_answer file (Ok OtherContest) text told = absurd (cc told)
accepted_answer file (Ok (OtherWinner winner)) text told = absurd (cc told)
accepted_answer file (Ok (OtherMargin index found)) text told = absurd (cc told)
accepted_answer file (Ok (Stands order)) text told = absurd (cc told)
accepted_answer file (Ok (NotLeast found)) text told = absurd (cc told)
accepted_answer file (Ok NotAlternative) text told = absurd (cc told)
accepted_answer file (Ok (Harder assertion margin)) text told = absurd (cc told)
accepted_answer file (Ok (OtherDraws index found)) text told = absurd (cc told)
accepted_answer file (Ok Accepted) text told = refl
accepted_answer file (Err (Spent last)) text told = absurd (cc told)
accepted_answer file (Err (SpentSets sets)) text told = absurd (cc told)
accepted_answer file (Err Memory) text told = absurd (cc told)

yes_is : (file : Content) (text : List ℕ) → verdict_on file (Ok Accepted) ≡ Some (Answered Done text) → text ≡ yes_text file
yes_is file text told = cc

module _ (words : List (List ℕ)) (files : List File) (asks : Asks Check words) (text : List ℕ) where
  -- the file that the words name holds, and this is what is printed about it
  abbrev Held : Type 0
  Held = (file : Content) × HoldsAsked words files file × (text ≡ yes_text file)

  -- a check that says yes accepts its file, which was read
  accepts : (ballots : BallotFile) (file : Content) →
      AreChecked files asks.task.ballots asks.task.assertions asks.task.contest ballots file →
      Checks asks.task.budget ballots file (Answered Done text) → Held
  accepts ballots file are (answer, found, told) =
      let yes = accepted_answer file answer text told in
      let sound = read_is_sound are.of_assertions.bytes file are.of_assertions.is in
      let holds = (accepted_iff_holds asks.task.budget ballots file Accepted sound (subst (IsAnswer asks.task.budget ballots file) yes found)).0 refl in (
        file,
        record { asks = asks; ballots = ballots; are = are; holds = holds },
        yes_is file text (subst (λ a. verdict_on file a ≡ Some (Answered Done text)) yes told),
      )

  abbrev with_ballots : List ℕ → BallotFile → Script
  with_ballots bytes ballots = after_ballots asks.task.assertions asks.task.budget ballots

  pub held_of : ComesTo (AsHeld files) (asked words) (Answered Done text) → Held
  held_of comes =
      let task = asks.task in
      let is = said files task.ballots (refused_ballots task.ballots) (λ bytes. ballots_of bytes task.contest) with_ballots Done text (λ why. tt)
      (subst (λ command. ComesTo (AsHeld files) (asked_by command) (Answered Done text)) asks.asked comes) in
      let its = said files task.assertions (refused_assertions task.assertions) assertion_file_of (λ bytes file. Ends (Checks task.budget is.value file)) Done
      text (λ why. tt) is.rest in
      accepts is.value its.value (record { of_ballots = says_of is; of_assertions = says_of its }) its.rest
