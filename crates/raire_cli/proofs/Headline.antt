-- Status 0 of a search comes with a file that confirms the winner, and status 5 with a reason for a full count.
use Rattle.std.proofs.Common.{◌≡◌, ℕ, true, List, [], Some, Ok, refl, ap, ap₂, subst, ◌∙◌}
use Rattle.std.specs.Prelude.{unwrap_or, IsSomeAnd}
use Rattle.desk.specs.Desk.{File, held_bytes}
use Rattle.ballots.specs.Ballots.{BallotFile}
use Rattle.ballots.specs.Grammar.{ballots_of}
use Rattle.assertion_file.specs.Content.{Content}
use Rattle.assertion_file.specs.Text.{assertion_file_text}
use Rattle.report.specs.Texts.{order_text}
use Rattle.cli_base.specs.Outcome.{Answered}
use Rattle.cli_base.specs.Script.{Script, Ends, AsHeld, ComesTo}
use Rattle.cli_base.specs.declared.outcome.AnswerKind.{AnswerKind}
use Rattle.cli_base.specs.declared.outcome.AnswerKind.TheVariants.{Done, FullCount}
use Rattle.input_files.specs.Refusals.{refused_ballots}
use Rattle.contest_search.specs.Contest.{candidate_count}
use Rattle.contest_search.proofs.ReadBallots.{ballots_fit}
use Rattle.search_commands.specs.Search.{HasCertificate, HasFullCount, Searches, full_count_lines, has_cards, printed}
use Rattle.search_commands.proofs.Searches.{done_is, found_by, full_count_is}
use Rattle.command_line.specs.declared.commands.Command.TheVariants.{Search}
use Rattle.raire_cli.specs.Asks.{Asks}
use Rattle.raire_cli.specs.Answers.{asked, asked_by}
use Rattle.raire_cli.specs.Confirmation.{ConfirmsAsked, GivesReason, IsHardest}
use Rattle.raire_cli.proofs.Confirmed.{certificate-confirms, confirms-least}
use Rattle.raire_cli.proofs.Said.{IsSaid, said}

module _ (words : List (List ℕ)) (files : List File) (asks : Asks Search words) where
  -- how a search continues with its ballots
  abbrev pub searching : List ℕ → BallotFile → Script
  searching bytes ballots = Ends (Searches asks.task ballots)

  -- what a search comes to is found in the ballots that it reads
  pub search_came : (kind : AnswerKind) (text : List ℕ) → ComesTo (AsHeld files) (asked words) (Answered kind text) →
      IsSaid files asks.task.ballots (λ bytes. ballots_of bytes asks.task.contest) searching kind text
  search_came kind text comes =
      said files asks.task.ballots (refused_ballots asks.task.ballots) (λ bytes. ballots_of bytes asks.task.contest) searching kind text (λ why. tt)
      (subst (λ command. ComesTo (AsHeld files) (asked_by command) (Answered kind text)) asks.asked comes)

  -- a file confirms the winner, and this is its text
  abbrev pub Confirmed : List ℕ → Type 0
  Confirmed text = (file : Content) × ConfirmsAsked words files file × (text ≡ assertion_file_text file)

  confirmed : (bytes : List ℕ) (ballots : BallotFile) (text : List ℕ) → held_bytes asks.task.ballots files ≡ Some bytes →
      ballots_of bytes asks.task.contest ≡ Ok ballots → has_cards asks.task.plan ballots ≡ true →
      HasCertificate asks.task.budget asks.task.floor asks.task.plan ballots text → Confirmed text
  confirmed bytes ballots text held is cards has =
      let c = has.is in
      let confirms = certificate-confirms ballots has.file (ballots_fit bytes asks.task.contest ballots is).fewest c in (
        printed asks.task.plan has.file,
        record {
          ballots = ballots;
          winner = c.winner;
          asks = record { search = asks; bytes = bytes; held = held; accepted = is; cards = cards; won = c.won };
          elected = c.decided;
          contest = ap (λ (f : Content). f.contest) c.is;
          candidates = ap (λ (f : Content). f.candidates) c.is;
          records = ap (λ (f : Content). f.records) c.is;
          named = ap (λ (f : Content). f.winner) c.is;
          floor = has.floor;
          confirms = record {
            hold = confirms.hold;
            cover = confirms.cover;
            reached = confirms.reached;
            smallest = confirms.smallest;
            order = confirms.order;
          };
          plan = refl;
        },
        has.shown,
      )

  reasoned : (bytes : List ℕ) (ballots : BallotFile) (text : List ℕ) → held_bytes asks.task.ballots files ≡ Some bytes →
      ballots_of bytes asks.task.contest ≡ Ok ballots → has_cards asks.task.plan ballots ≡ true →
      HasFullCount asks.task.budget asks.task.floor ballots text → GivesReason words files text
  reasoned bytes ballots text held is cards has =
      let c = has.is in
      let confirms = certificate-confirms ballots has.file (ballots_fit bytes asks.task.contest ballots is).fewest c in
      record {
        ballots = ballots;
        winner = c.winner;
        asks = record { search = asks; bytes = bytes; held = held; accepted = is; cards = cards; won = c.won };
        elected = c.decided;
        order = c.order;
        margin = has.file.margin;
        below = has.floor;
        reason = subst (λ order. IsSomeAnd order (λ order. IsHardest (candidate_count ballots) ballots.rankings c.winner order has.file.margin))
            (ap (λ (f : Content). f.order) c.is) confirms.order;
        least = confirms-least (candidate_count ballots) ballots.rankings c.winner has.file confirms;
        shown = has.shown ∙ ap₂ (λ names order. full_count_lines (order_text names (unwrap_or order [])) has.file.margin asks.task.floor)
            (ap (λ (f : Content). f.candidates) c.is) (ap (λ (f : Content). f.order) c.is);
      }

  pub confirms_asked : (text : List ℕ) → ComesTo (AsHeld files) (asked words) (Answered Done text) → Confirmed text
  confirms_asked text comes =
      let came = search_came Done text comes in
      let (cards, finds) = found_by asks.task came.value Done text came.rest in
      confirmed came.bytes came.value text came.held came.is cards (done_is asks.task.budget asks.task.floor asks.task.plan came.value text finds)

  pub gives_reason : (text : List ℕ) → ComesTo (AsHeld files) (asked words) (Answered FullCount text) → GivesReason words files text
  gives_reason text comes =
      let came = search_came FullCount text comes in
      let (cards, finds) = found_by asks.task came.value FullCount text came.rest in
      reasoned came.bytes came.value text came.held came.is cards (full_count_is asks.task.budget asks.task.floor asks.task.plan came.value text finds)
