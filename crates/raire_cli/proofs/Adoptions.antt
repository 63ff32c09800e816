-- Status 0 of an adoption comes with the file of the claims, and exactly for claims that prove their winner.
use Rattle.std.proofs.Common.{◌≡◌, ◌∙◌, ℕ, List, Some, Ok, Err, refl, sym, ap, subst, arith}
use Rattle.desk.specs.Desk.{File}
use Rattle.std.specs.List.{list_all}
use Rattle.irv_base.specs.Names.{Id, is_name}
use Rattle.irv_base.specs.Tabulation.{AllElect}
use Rattle.assertions.proofs.Decided.{proof-decided}
use Rattle.ballots.specs.Ballots.{BallotFile, AreCandidates}
use Rattle.ballots.specs.Grammar.{ballots_of}
use Rattle.assertion_file.specs.Content.{Content}
use Rattle.assertion_file.specs.Reading.{assertion_file_of}
use Rattle.assertion_file.specs.Text.{assertion_file_text}
use Rattle.assertion_file.proofs.Printed.{printed_reads_back}
use Rattle.claims_file.specs.Claimed.{Claimed, AreSound}
use Rattle.claims_file.specs.Reading.{claims_of}
use Rattle.claims_file.proofs.Sound.{claims-sound}
use Rattle.adoption.specs.Adopted.{IsAdopted}
use Rattle.adoption.specs.Answers.{Answer, IsAnswer}
use Rattle.adoption.specs.declared.adoption.Adoption.TheVariants.{OtherWinner, Untrue, Stands, Adopted}
use Rattle.adoption.proofs.Adopting.{adopted_exactly, adopted_is, adopted_is_accepted, adopted_sound}
use Rattle.cover_checker.specs.Checks.{IsAnswer as IsCheckAnswer}
use Rattle.cover_checker.specs.declared.checked.Checked.TheVariants.{Accepted}
use Rattle.cover_checker.specs.declared.cover.CoverFault.TheVariants.{Spent, SpentSets, Memory}
use Rattle.cli_base.specs.Outcome.{Verdict, Answered}
use Rattle.cli_base.specs.Script.{Script, Ends, AsHeld, ComesTo, Concludes}
use Rattle.cli_base.specs.Statuses.{HasAnswer}
use Rattle.cli_base.specs.declared.outcome.AnswerKind.TheVariants.{Done}
use Rattle.command_line.specs.declared.commands.Command.TheVariants.{Adopt}
use Rattle.input_files.specs.Refusals.{refused_ballots, refused_claims}
use Rattle.contest_search.specs.Contest.{candidate_count}
use Rattle.contest_search.proofs.ReadBallots.{IsFit, ballots_fit}
use Rattle.adopt_command.specs.Adopt.{Adopts, after_ballots, verdict_on}
use Rattle.raire_cli.specs.Adoptions.{AreAdoptable, IsAdoptedOf}
use Rattle.raire_cli.specs.Answers.{asked, asked_by}
use Rattle.raire_cli.specs.Asks.{Asks}
use Rattle.raire_cli.specs.Held.{AreClaimed}
use Rattle.raire_cli.proofs.Said.{said, says_of, saying}

-- a file is printed for claims that are adopted
done_answer : (ids : List Id) (answer : Answer) (text : List ℕ) → verdict_on ids answer ≡ Some (Answered Done text) →
    (file : Content) × (answer ≡ Ok (Adopted file)) × (text ≡ assertion_file_text file)
done_answer ids (Ok (Adopted file)) text told = (file, refl, cc)
done_answer ids (Ok (OtherWinner winner)) text told = absurd (cc told)
done_answer ids (Ok (Untrue assertion)) text told = absurd (cc told)
done_answer ids (Ok (Stands order)) text told = absurd (cc told)
done_answer ids (Err (Spent last)) text told = absurd (cc told)
done_answer ids (Err (SpentSets sets)) text told = absurd (cc told)
done_answer ids (Err Memory) text told = absurd (cc told)

are-candidates : (ballots : BallotFile) → IsFit ballots → AreCandidates ballots.candidates
are-candidates ballots fit = record { fewest = omega (arith, fit.fewest); most = fit.most; differ = fit.differ }

module _ (words : List (List ℕ)) (files : List File) (asks : Asks Adopt words) (text : List ℕ) where
  -- what an adoption that answers has read, and the file that it prints
  pub record Adoption : Type 0 where
    pub ballots : BallotFile
    pub claims : Claimed
    pub are : AreClaimed files asks.task.ballots asks.task.claims asks.task.contest ballots claims
    pub file : Content
    pub adopted : IsAdopted ballots claims file
    pub decided : AllElect (candidate_count ballots) ballots.rankings file.winner
    pub reads_back : assertion_file_of (assertion_file_text file) ≡ Ok file
    pub accepted : IsCheckAnswer asks.task.budget ballots file (Ok Accepted)
    pub shown : text ≡ assertion_file_text file

  adopts : (ballots : BallotFile) (claims : Claimed) →
      AreClaimed files asks.task.ballots asks.task.claims asks.task.contest ballots claims →
      Adopts asks.task.budget ballots claims (Answered Done text) → Adoption
  adopts ballots claims are (answer, found, told) =
      let (file, is, shown) = done_answer ballots.candidates answer text told in
      let found' : IsAnswer asks.task.budget ballots claims (Ok (Adopted file)) = subst (IsAnswer asks.task.budget ballots claims) is found in
      let fit = ballots_fit are.of_ballots.bytes asks.task.contest ballots are.of_ballots.is in
      let of = are-candidates ballots fit in
      let sound = claims-sound ballots.candidates ballots.contest are.of_claims.bytes claims are.of_claims.is in
      let adopted = adopted_is asks.task.budget ballots claims of sound file found' in
      let proof = ((adopted_exactly asks.task.budget ballots claims of sound).0 (file, found')).0 in
      record {
        ballots = ballots;
        claims = claims;
        are = are;
        file = file;
        adopted = adopted;
        decided = subst (AllElect (candidate_count ballots) ballots.rankings) (sym adopted.winner)
            (proof-decided (candidate_count ballots) claims.winner ballots.rankings sound.winner fit.fewest claims.assertions proof);
        reads_back = printed_reads_back file (adopted_sound asks.task.budget ballots claims of sound fit.few file found') (record {
          contest = ap is_name adopted.holds.contest ∙ fit.contest;
          candidates = ap (list_all is_name) adopted.holds.candidates ∙ fit.candidates;
        });
        accepted = adopted_is_accepted asks.task.budget ballots claims of sound file found';
        shown = shown;
      }

  abbrev with_ballots : List ℕ → BallotFile → Script
  with_ballots bytes ballots = after_ballots asks.task.claims asks.task.budget ballots

  pub adoption_by : ComesTo (AsHeld files) (asked words) (Answered Done text) → Adoption
  adoption_by comes =
      let task = asks.task in
      let is = said files task.ballots (refused_ballots task.ballots) (λ bytes. ballots_of bytes task.contest) with_ballots Done text (λ why. tt)
      (subst (λ command. ComesTo (AsHeld files) (asked_by command) (Answered Done text)) asks.asked comes) in
      let its = said files task.claims (refused_claims task.claims) (claims_of is.value.contest is.value.candidates)
      (λ bytes claims. Ends (Adopts task.budget is.value claims)) Done text (λ why. tt) is.rest in
      adopts is.value its.value (record { of_ballots = says_of is; of_claims = says_of its }) its.rest

  pub adopted_of : ComesTo (AsHeld files) (asked words) (Answered Done text) →
      (file : Content) × IsAdoptedOf words files file × (text ≡ assertion_file_text file)
  adopted_of comes =
      let a = adoption_by comes in (
        a.file,
        record {
          asks = asks;
          ballots = a.ballots;
          claims = a.claims;
          are = a.are;
          adopted = a.adopted;
          decided = a.decided;
          reads_back = a.reads_back;
          accepted = a.accepted;
        },
        a.shown,
      )

-- claims that prove their winner are adopted
pub has_adoption : (words : List (List ℕ)) (files : List File) → AreAdoptable words files → HasAnswer (asked words) files Done
has_adoption words files ok =
    let task = ok.asks.task in
    let b = ok.are.of_ballots in
    let c = ok.are.of_claims in
    let of = are-candidates ok.ballots (ballots_fit b.bytes task.contest ok.ballots b.is) in
    let sound = claims-sound ok.ballots.candidates ok.ballots.contest c.bytes ok.claims c.is in
    let (file, answer) = (adopted_exactly task.budget ok.ballots ok.claims of sound).1 (ok.proof, ok.enough) in
    let verdict : Verdict = Answered Done (assertion_file_text file) in
    let last : Adopts task.budget ok.ballots ok.claims verdict = (Ok (Adopted file), answer, refl) in
    let of_claims = saying files task.claims (refused_claims task.claims) (claims_of ok.ballots.contest ok.ballots.candidates)
    (λ bytes claims. Ends (Adopts task.budget ok.ballots claims)) c.bytes c.held c.is_short ok.claims c.is verdict last in
    let of_ballots = saying files task.ballots (refused_ballots task.ballots) (λ bytes. ballots_of bytes task.contest)
    (λ bytes ballots. after_ballots task.claims task.budget ballots) b.bytes b.held b.is_short ok.ballots b.is verdict of_claims in (
      assertion_file_text file,
      subst (λ command. ComesTo (AsHeld files) (asked_by command) verdict) (sym ok.asks.asked) of_ballots,
    )
