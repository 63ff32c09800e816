-- Status 0 of a trim comes with the trimmed file.
use Rattle.std.proofs.Common.{◌≡◌, ◌≤◌, ℕ, List, [], length, Option, Some, None, IfSome, Result, Ok, Err, refl, sym, subst}
use Rattle.std.specs.Prelude.{option_map}
use Rattle.desk.specs.Desk.{File}
use Rattle.budget.specs.declared.budget.Budget.{Budget}
use Rattle.ballots.specs.Ballots.{BallotFile}
use Rattle.ballots.specs.Grammar.{ballots_of}
use Rattle.assertion_file.specs.Content.{Content, Plan, HasNames, IsDrawCount, IsSound, IsSoundClaim, IsSoundPlan, candidate_count}
use Rattle.assertion_file.specs.Reading.{assertion_file_of}
use Rattle.assertion_file.specs.Text.{assertion_file_text}
use Rattle.assertion_file.proofs.Printed.{printed_reads_back}
use Rattle.assertion_file.proofs.SoundFiles.{read_is_sound, read_keeps}
use Rattle.cover_checker.specs.Checks.{IsAnswer}
use Rattle.cover_checker.specs.Findings.{Answer}
use Rattle.cover_checker.specs.declared.checked.Checked.TheVariants.{OtherContest, OtherWinner, OtherMargin, Stands, NotLeast, NotAlternative, Harder, OtherDraws, Accepted}
use Rattle.cover_checker.specs.declared.checked.CheckFault.TheVariants.{Spent, SpentSets, Memory}
use Rattle.cover_checker.proofs.Exactly.{accepted-covered}
use Rattle.trimmer.specs.Trimmed.{draws_left, left_of as claims_left, margin_left, trimmed, with_draws}
use Rattle.trimmer.specs.declared.fault.TrimFault.{TrimFault}
use Rattle.trimmer.specs.declared.fault.TrimFault.TheVariants.{Spent as TrimSpent, SpentSets as TrimSpentSets, Memory as TrimMemory}
use Rattle.assertions.specs.declared.assertion.Claim.{Claim}
use Rattle.trimmer.specs.Laws.{IsPartOf}
use Rattle.trimmer.proofs.Accepted.{all-part, some-left, sound-margin, trimmed_is_accepted}
use Rattle.trimmer.proofs.Kept.{trimmed_is_irredundant}
use Rattle.trimmer.proofs.Draws.{draws-all, draws-many, trimmed_is_part}
use Rattle.trimmer.proofs.Lefts.{from_trimmed}
use Rattle.cli_base.specs.Outcome.{Answered}
use Rattle.cli_base.specs.Script.{Script, Ends, AsHeld, ComesTo}
use Rattle.cli_base.specs.declared.outcome.AnswerKind.TheVariants.{Done}
use Rattle.input_files.specs.Refusals.{refused_assertions, refused_ballots}
use Rattle.trim_command.specs.Trim.{Trims, after_ballots, trim_verdict, verdict_on}
use Rattle.command_line.specs.declared.commands.Command.TheVariants.{Trim}
use Rattle.raire_cli.specs.Asks.{Asks}
use Rattle.raire_cli.specs.Answers.{asked, asked_by}
use Rattle.raire_cli.specs.Held.{AreChecked}
use Rattle.raire_cli.specs.Trims.{IsTrimmedOf}
use Rattle.raire_cli.proofs.Accepted.{accepted_answer}
use Rattle.raire_cli.proofs.Said.{said, says_of}

-- the printed file is what is left
left_of : (file : Content) (r : Result Content TrimFault) (text : List ℕ) → trim_verdict file r ≡ Some (Answered Done text) →
    (left : Content) × (r ≡ Ok left) × (text ≡ assertion_file_text left)
left_of file (Ok left) text told = (left, refl, cc)
left_of file (Err (TrimSpent claim last)) text told = absurd (cc told)
left_of file (Err (TrimSpentSets claim sets)) text told = absurd (cc told)
left_of file (Err TrimMemory) text told = absurd (cc told)

-- a trim that has an answer has accepted its file
trimmed_answer : (budget : Budget) (file : Content) (answer : Answer) (text : List ℕ) → verdict_on budget file answer ≡ Some (Answered Done text) →
    answer ≡ Ok Accepted
trimmed_answer budget file (Ok OtherContest) text told = accepted_answer file (Ok OtherContest) text told
trimmed_answer budget file (Ok (OtherWinner winner)) text told = accepted_answer file (Ok (OtherWinner winner)) text told
trimmed_answer budget file (Ok (OtherMargin index found)) text told = accepted_answer file (Ok (OtherMargin index found)) text told
trimmed_answer budget file (Ok (Stands order)) text told = accepted_answer file (Ok (Stands order)) text told
trimmed_answer budget file (Ok (NotLeast found)) text told = accepted_answer file (Ok (NotLeast found)) text told
trimmed_answer budget file (Ok NotAlternative) text told = accepted_answer file (Ok NotAlternative) text told
trimmed_answer budget file (Ok (Harder assertion margin)) text told = accepted_answer file (Ok (Harder assertion margin)) text told
trimmed_answer budget file (Ok (OtherDraws index found)) text told = accepted_answer file (Ok (OtherDraws index found)) text told
trimmed_answer budget file (Ok Accepted) text told = refl
trimmed_answer budget file (Err (Spent last)) text told = accepted_answer file (Err (Spent last)) text told
trimmed_answer budget file (Err (SpentSets sets)) text told = accepted_answer file (Err (SpentSets sets)) text told
trimmed_answer budget file (Err Memory) text told = accepted_answer file (Err Memory) text told

-- the plan of the claims that are left is a plan if the plan of all claims is one
left_sound : (budget : Budget) (file : Content) (claims : List Claim) → claims_left budget file [] file.claims ≡ Ok claims → (plan : Option Plan) →
    IfSome plan (IsSoundPlan file.records (length file.claims)) →
    IfSome (option_map (λ (plan : Plan). with_draws (draws_left budget file [] file.claims plan.draws) plan) plan) (IsSoundPlan file.records (length claims))
left_sound budget file claims left None sound = tt
left_sound budget file claims left (Some plan) sound = record {
  some_cards = sound.some_cards;
  most_cards = sound.most_cards;
  some_gamma = sound.some_gamma;
  most_gamma = sound.most_gamma;
  some_limit = sound.some_limit;
  most_limit = sound.most_limit;
  each = draws-many budget file [] file.claims claims plan.draws left sound.each;
  draws = draws-all budget file (λ draws. IfSome draws IsDrawCount) [] file.claims claims plan.draws left sound.draws;
}

-- a part of the claims of a file that was read reads back
part_sound : (file : Content) (claims : List Claim) (plan : Option Plan) → IsPartOf claims file.claims → 1 ≤ length claims → IsSound file →
    IfSome plan (IsSoundPlan file.records (length claims)) → IsSound (record file { margin = margin_left file claims; claims = claims; plan = plan })
part_sound file claims plan part some sound planned = record {
  fewest = sound.fewest;
  most = sound.most;
  differ = sound.differ;
  some_records = sound.some_records;
  most_records = sound.most_records;
  winner = sound.winner;
  order = sound.order;
  margin = sound-margin file claims sound.margin some (all-part (IsSoundClaim (candidate_count file) file.records) part sound.claims);
  claims = all-part (IsSoundClaim (candidate_count file) file.records) part sound.claims;
  plan = planned;
}

part_names : (file : Content) (claims : List Claim) (plan : Option Plan) → HasNames file →
    HasNames (record file { margin = margin_left file claims; claims = claims; plan = plan })
part_names file claims plan names = record { contest = names.contest; candidates = names.candidates }

pub trimmed_reads_back : (bytes : List ℕ) (budget : Budget) (ballots : BallotFile) (file left : Content) → assertion_file_of bytes ≡ Ok file →
    IsAnswer budget ballots file (Ok Accepted) → trimmed budget file ≡ Ok left → assertion_file_of (assertion_file_text left) ≡ Ok left
trimmed_reads_back bytes budget ballots file left read accepted is =
    let (part, draws, terms, same) = trimmed_is_part budget file left is in
    let (sound, names) = read_keeps bytes file read in
    let t = from_trimmed budget file left is in
    let some = some-left budget file left.claims sound t.claims (accepted-covered budget ballots file sound accepted) in
    let planned : IfSome left.plan (IsSoundPlan file.records (length left.claims)) =
    subst (λ plan. IfSome plan (IsSoundPlan file.records (length left.claims))) (sym t.plan)
    (left_sound budget file left.claims t.claims file.plan sound.plan) in
    subst (λ content. assertion_file_of (assertion_file_text content) ≡ Ok content) (sym same)
    (printed_reads_back (record file { margin = margin_left file left.claims; claims = left.claims; plan = left.plan })
    (part_sound file left.claims left.plan part some sound planned)
    (part_names file left.claims left.plan names))

module _ (words : List (List ℕ)) (files : List File) (asks : Asks Trim words) (text : List ℕ) where
  -- what a trim that answers has read, and what is left of it
  pub record Left : Type 0 where
    pub ballots : BallotFile
    pub file : Content
    pub are : AreChecked files asks.task.ballots asks.task.assertions asks.task.contest ballots file
    pub accepts : IsAnswer asks.task.budget ballots file (Ok Accepted)
    pub left : Content
    pub is : trimmed asks.task.budget file ≡ Ok left
    pub shown : text ≡ assertion_file_text left

  leaves : (ballots : BallotFile) (file : Content) → AreChecked files asks.task.ballots asks.task.assertions asks.task.contest ballots file →
      Trims asks.task.budget ballots file (Answered Done text) → Left
  leaves ballots file are (answer, found, told) =
      let budget : Budget = asks.task.budget in
      let yes = trimmed_answer budget file answer text told in
      let (left, is, shown) = left_of file (trimmed budget file) text (subst (λ a. verdict_on budget file a ≡ Some (Answered Done text)) yes told) in
      record {
        ballots = ballots;
        file = file;
        are = are;
        accepts = subst (IsAnswer budget ballots file) yes found;
        left = left;
        is = is;
        shown = shown;
      }

  abbrev with_ballots : List ℕ → BallotFile → Script
  with_ballots bytes ballots = after_ballots asks.task.assertions asks.task.budget ballots

  pub left_by : ComesTo (AsHeld files) (asked words) (Answered Done text) → Left
  left_by comes =
      let task = asks.task in
      let is = said files task.ballots (refused_ballots task.ballots) (λ bytes. ballots_of bytes task.contest) with_ballots Done text (λ why. tt)
      (subst (λ command. ComesTo (AsHeld files) (asked_by command) (Answered Done text)) asks.asked comes) in
      let its = said files task.assertions (refused_assertions task.assertions) assertion_file_of (λ bytes file. Ends (Trims task.budget is.value file)) Done
      text (λ why. tt) is.rest in
      leaves is.value its.value (record { of_ballots = says_of is; of_assertions = says_of its }) its.rest

  pub reads_back : (l : Left) → assertion_file_of (assertion_file_text l.left) ≡ Ok l.left
  reads_back l = trimmed_reads_back l.are.of_assertions.bytes asks.task.budget l.ballots l.file l.left l.are.of_assertions.is l.accepts l.is

  pub accepted_left : (l : Left) → IsAnswer asks.task.budget l.ballots l.left (Ok Accepted)
  accepted_left l = trimmed_is_accepted asks.task.budget l.ballots l.file l.left (read_is_sound l.are.of_assertions.bytes l.file l.are.of_assertions.is) l.accepts l.is

  pub printed_of : ComesTo (AsHeld files) (asked words) (Answered Done text) →
      (left : Content) × IsTrimmedOf words files left × (text ≡ assertion_file_text left)
  printed_of comes =
      let l = left_by comes in
      let (part, draws, terms, same) = trimmed_is_part asks.task.budget l.file l.left l.is in (
        l.left,
        record {
          asks = asks;
          ballots = l.ballots;
          file = l.file;
          are = l.are;
          reads_back = reads_back l;
          was_accepted = l.accepts;
          accepted = accepted_left l;
          part = part;
          draws = draws;
          terms = terms;
          same = same;
          needed = trimmed_is_irredundant asks.task.budget l.file l.left l.is;
        },
        l.shown,
      )
