-- The clauses of `run`. Each follows from how the call went.
use Rattle.std.proofs.Common.{◌≡◌, ◌⊎◌, inl, inr, ⊎_elim, ℕ, ◌≤◌, ◌-◌, ◌^◌, List, Option, None, Some, IfSome, false, refl, sym, ap, subst, ◌∙◌, arith}
use Rattle.std.specs.Prelude.{◌≢◌, is_some}
use Rattle.std.proofs.lemmas.Bool.{cases_eq}
use Rattle.desk.specs.Desk.{File}
use Rattle.desk.specs.declared.served.Served.{Served}
use Rattle.cli_base.specs.Begun.{HasCome}
use Rattle.cli_base.proofs.Begun.{due_of}
use Rattle.ballots.specs.Ballots.{BallotFile}
use Rattle.budget.specs.declared.budget.Budget.TheVariants.{Sets}
use Rattle.contest_search.specs.Contest.{candidate_count}
use Rattle.assertion_file.specs.Content.{Content}
use Rattle.assertion_file.specs.Text.{assertion_file_text}
use Rattle.cli_base.specs.Confirmed.{confirmed_kind}
use Rattle.cli_base.specs.Outcome.{Outcome, Answered, status_of}
use Rattle.cli_base.specs.Script.{Asked, AsHeld, ByDesk, IsDue, ComesTo, AgreeOn, SameButContests, SameStatus}
use Rattle.cli_base.specs.Ends.{Writing, Took, IsWritten}
use Rattle.cli_base.specs.Statuses.{IsAnswered, IsUndone, IsQuiet, Exactly, ExactlyInBudget, IsNothing, HasAnswer, Statuses, ContestsStatuses}
use Rattle.cli_base.specs.Story.{Story}
use Rattle.cli_base.specs.declared.outcome.AnswerKind.{AnswerKind}
use Rattle.cli_base.specs.declared.outcome.AnswerKind.TheVariants.{Done, Tie, Spent, FullCount, Unconfirmed}
use Rattle.session_rounds.specs.Rounds.{kind_of}
use Rattle.contests_command.specs.Table.{all_signed}
use Rattle.cli_base.proofs.Statuses.{status_in}
use Rattle.cli_base.proofs.Clauses.{bad_words_clause, contests_clause, statuses_clause, exact_clause, answered_clause, answered_with, undone_is_nine}
use Rattle.cli_base.proofs.ConfirmedKinds.{done_is_confirmed, unconfirmed_is_not}
use Rattle.command_line.specs.Line.{command_of, is_line}
use Rattle.command_line.specs.declared.commands.Command.{Command}
use Rattle.command_line.specs.declared.commands.Command.TheVariants.{Adopt, Contests, Audit, AuditPlurality, Check, Open, OpenPlurality, Poll, PollEach, Search, SearchFewest, Trial, Trim}
use Rattle.command_line.proofs.Checked.{have_meanings}
use Rattle.check_command.specs.Check.{yes_text}
use Rattle.session_state.specs.Content.{Content as SessionContent}
use Rattle.session_state.specs.Sessions.{is_signed_off}
use Rattle.session_file.specs.Text.{session_text}
use Rattle.raire_cli.specs.Asks.{Asks}
use Rattle.raire_cli.specs.Answers.{asked, asked_by, files_known, is_of_contests, is_open, known_by, of_contests}
use Rattle.raire_cli.specs.Confirmation.{ConfirmsAsked, GivesReason, IsConfirmed}
use Rattle.raire_cli.specs.Fewest.{ConfirmsFewest, GivesFewestReason, IsFewest, IsFewestComplete, IsReasoned}
use Rattle.raire_cli.specs.Acceptance.{HoldsAsked, IsUpheld}
use Rattle.raire_cli.specs.Budgets.{budget_of}
use Rattle.raire_cli.specs.Sets.{IsNeverSpentBySets, IsSpentBySets, MoreCount}
use Rattle.raire_cli.specs.Trims.{IsTrimmed, IsTrimmedOf}
use Rattle.raire_cli.specs.Adoptions.{AreAdopted, IsAdoptedOf, IsAdoptionComplete}
use Rattle.raire_cli.specs.Promises.{IsComplete, IsTabulationComplete, IsTrialComplete, IsExactUnlessOpen, HasCause}
use Rattle.raire_cli.specs.Undecided.{IsAbout, IsTied, IsTieComplete, TellsTie}
use Rattle.raire_cli.specs.Audits.{GoesOn, IsAudited}
use Rattle.raire_cli.specs.Pluralities.{IsPluralityAudited, IsPluralityOpened, OpensPlurality, PluralGoesOn}
use Rattle.raire_cli.specs.PluralityTies.{TellsPluralityTie}
use Rattle.raire_cli.specs.Polls.{IsPollOf, IsPolled, is_confirmed_by, told_of}
use Rattle.raire_cli.specs.PollsComplete.{IsPollComplete}
use Rattle.raire_cli.specs.PollsEach.{IsEachPollOf, IsPolledEach, is_confirmed_by as is_confirmed_by_each, told_of as told_of_each}
use Rattle.raire_cli.specs.Enough.{IsNeverSpent, IsNeverSpentOver}
use Rattle.raire_cli.specs.Openings.{Opens, IsOpened}
use Rattle.raire_cli.specs.Contests.{AuditsContests, IsAuditedByContest, blocks_of}
use Rattle.raire_cli.proofs.Accepted.{held_of}
use Rattle.raire_cli.proofs.ContestsRefused.{refused_anyway}
use Rattle.raire_cli.proofs.ContestsAudited.{audited_by}
use Rattle.raire_cli.proofs.Adoptions.{adopted_of, has_adoption}
use Rattle.raire_cli.proofs.Trims.{printed_of}
use Rattle.raire_cli.proofs.Audited.{IsKind, goes_on}
use Rattle.raire_cli.proofs.AdoptionsSpent.{adoption_never}
use Rattle.raire_cli.proofs.Enough.{never_spent}
use Rattle.raire_cli.proofs.Limited.{limited}
use Rattle.raire_cli.proofs.Opened.{is_opened}
use Rattle.raire_cli.proofs.PluralAudited.{plural_goes_on}
use Rattle.raire_cli.proofs.PluralOpened.{plural_is_opened}
use Rattle.raire_cli.proofs.PluralLimited.{plural_limited}
use Rattle.raire_cli.proofs.Polled.{polled_by, were_within}
use Rattle.raire_cli.proofs.PolledEach.{are_first, polled_each_by}
use Rattle.raire_cli.proofs.PollsComplete.{HasEnd, confirmed_status, has_each_poll, has_poll}
use Rattle.raire_cli.proofs.EachCommand.{agrees_by, agrees_in_status, contests_agree, counts_in_full}
use Rattle.raire_cli.proofs.Complete.{not_spent, has_answer, tried}
use Rattle.raire_cli.proofs.Fewest.{confirms_fewest, fewest_ends, gives_fewest_reason}
use Rattle.raire_cli.proofs.Headline.{confirms_asked, gives_reason}
use Rattle.raire_cli.proofs.Rounds.{has_rounds, never_stopped}
use Rattle.raire_cli.proofs.SetsSpent.{closed_by, more_spent, never_by_sets, spent_more}
use Rattle.raire_cli.proofs.Undecided.{has_tie, never_spent_there, tells_tie}

-- how a call went, from what was due and what the sinks took of it
pub story_of : {asked : Asked} {held : Option (List File)} {failed : Type 0} {before after : Served} {status : ℕ} {out err : Writing} {due : Outcome}
    → HasCome (ByDesk held failed) before after asked due → IsWritten due status out err → Story asked held failed before after status out err
story_of {asked} {held} {failed} {before} {after} {status} {out} {err} {due} come written = record { due = due; come = come; written = written }

-- a trial goes this way whatever the desk holds
known_story : {held : Option (List File)} {failed : Type 0} {before after : Served} {status : ℕ} {out err : Writing} (command : Option Command) →
    Story (asked_by command) held failed before after status out err → Story (asked_by command) (known_by command held) failed before after status out err
known_story (Some (Trial task)) story = record {
  due = story.due;
  come = record { files = story.come.files; begun = story.come.begun; is_due = story.come.is_due };
  written = story.written;
}
known_story _ story = story

pub story_known : {held : Option (List File)} {failed : Type 0} {before after : Served} {status : ℕ} {out err : Writing} (words : List (List ℕ)) →
    Story (asked words) held failed before after status out err → Story (asked words) (files_known words held) failed before after status out err
story_known words story = known_story (command_of words) story

if_some : {A : Type 0} (o : Option A) (P Q : A → Type 0) → ((x : A) → P x → Q x) → IfSome o P → IfSome o Q
if_some None P Q f p = tt
if_some (Some x) P Q f p = f x p

-- words aren't a line exactly when they ask for nothing
nothing_some : (command : Option Command) → is_some command ≡ false → IsNothing (asked_by command)
nothing_some None none = tt
nothing_some (Some command) none = absurd (cc none)

some_nothing : (command : Option Command) → IsNothing (asked_by command) → is_some command ≡ false
some_nothing None nothing = refl
some_nothing (Some command) nothing = absurd nothing

exactly_same : (n status : ℕ) (P Q : Type 0) → (P → Q) → (Q → P) → Exactly n status P → Exactly n status Q
exactly_same n status P Q to from (only, wherever) = (λ e. to (only e), λ q. wherever (from q))

asked_exact : (words : List (List ℕ)) (command : Command) → command_of words ≡ Some command → is_open command ≡ false → AgreeOn SameStatus (asked words)
asked_exact words command is closed = subst (λ c. AgreeOn SameStatus (asked_by c)) (sym is) (agrees_in_status command closed)

-- for every command except an audit of all contests
without_contests : (words : List (List ℕ)) (command : Option Command) → command_of words ≡ command → (Asks Contests words → ⊥) →
    of_contests command ≡ false
without_contests words None is none = refl
without_contests words (Some (Contests task)) is none = absurd (none (record { task = task; asked = is }))
without_contests words (Some command) is none = refl

about_one : (files : List File) (command : Command) (ballots : BallotFile) → IsAbout files command ballots → is_of_contests command ≡ false
about_one files (Contests task) ballots about = absurd about
about_one files _ ballots about = refl

module _ (words : List (List ℕ)) {held : Option (List File)} {failed : Type 0} {before after : Served} {status : ℕ} {out err : Writing}
    (story : Story (asked words) held failed before after status out err) where
  pub headline_clause : IsConfirmed held words status out
  headline_clause = if_some held (λ files. status ≡ 0 → (text : List ℕ) × ComesTo (AsHeld files) (asked words) (Answered Done text) × Took out text)
      (λ files. Asks Search words → status ≡ 0 → (file : Content) × ConfirmsAsked words files file × Took out (assertion_file_text file))
      (λ files answer asks zero.
      let (text, comes, took) = answer zero in
      let (file, confirms, shown) = confirms_asked words files asks text comes in
      (file, confirms, subst (Took out) shown took))
      (answered_with story Done)

  pub fewest_clause : IsFewest held words status out
  fewest_clause = if_some held (λ files. status ≡ 0 → (text : List ℕ) × ComesTo (AsHeld files) (asked words) (Answered Done text) × Took out text)
      (λ files. Asks SearchFewest words → status ≡ 0 → (file : Content) × ConfirmsFewest words files file × Took out (assertion_file_text file))
      (λ files answer asks zero.
      let (text, comes, took) = answer zero in
      let (file, confirms, shown) = confirms_fewest words files asks text comes in
      (file, confirms, subst (Took out) shown took))
      (answered_with story Done)

  pub full_count_clause : IsReasoned held words status out
  full_count_clause = if_some held (λ files. status ≡ 5 → (text : List ℕ) × ComesTo (AsHeld files) (asked words) (Answered FullCount text) × Took out text)
      (λ files. status ≡ 5 → (text : List ℕ) × (GivesReason words files text ⊎ GivesFewestReason words files text) × Took out text)
      (λ files answer five.
      let (text, comes, took) = answer five in
      let reason : GivesReason words files text ⊎ GivesFewestReason words files text =
      ⊎_elim (λ asks. inl (gives_reason words files asks text comes)) (λ asks. inr (gives_fewest_reason words files asks text comes))
      (counts_in_full words (AsHeld files) text (command_of words) refl comes) in
      (text, reason, took))
      (answered_with story FullCount)

  pub tied_clause : IsTied held words status out
  tied_clause = if_some held (λ files. status ≡ 3 → (text : List ℕ) × ComesTo (AsHeld files) (asked words) (Answered Tie text) × Took out text)
      (λ files. status ≡ 3 → (text : List ℕ) × (TellsTie words files text ⊎ TellsPluralityTie words files text) × Took out text)
      (λ files answer three.
      let (text, comes, took) = answer three in
      (text, tells_tie words files text comes, took))
      (answered_with story Tie)

  pub accepted_clause : IsUpheld held words status out
  accepted_clause = if_some held (λ files. status ≡ 0 → (text : List ℕ) × ComesTo (AsHeld files) (asked words) (Answered Done text) × Took out text)
      (λ files. Asks Check words → status ≡ 0 → (file : Content) × HoldsAsked words files file × Took out (yes_text file))
      (λ files answer asks zero.
      let (text, comes, took) = answer zero in
      let (file, holds, shown) = held_of words files asks text comes in
      (file, holds, subst (Took out) shown took))
      (answered_with story Done)

  pub trimmed_clause : IsTrimmed held words status out
  trimmed_clause = if_some held (λ files. status ≡ 0 → (text : List ℕ) × ComesTo (AsHeld files) (asked words) (Answered Done text) × Took out text)
      (λ files. Asks Trim words → status ≡ 0 → (left : Content) × IsTrimmedOf words files left × Took out (assertion_file_text left))
      (λ files answer asks zero.
      let (text, comes, took) = answer zero in
      let (left, is, shown) = printed_of words files asks text comes in
      (left, is, subst (Took out) shown took))
      (answered_with story Done)

  pub adopted_clause : AreAdopted held words status out
  adopted_clause = if_some held (λ files. status ≡ 0 → (text : List ℕ) × ComesTo (AsHeld files) (asked words) (Answered Done text) × Took out text)
      (λ files. Asks Adopt words → status ≡ 0 → (file : Content) × IsAdoptedOf words files file × Took out (assertion_file_text file))
      (λ files answer asks zero.
      let (text, comes, took) = answer zero in
      let (file, is, shown) = adopted_of words files asks text comes in
      (file, is, subst (Took out) shown took))
      (answered_with story Done)

  pub opened_clause : IsOpened held words status out
  opened_clause = if_some held (λ files. status ≡ 0 → (text : List ℕ) × ComesTo (AsHeld files) (asked words) (Answered Done text) × Took out text)
      (λ files. Asks Open words → status ≡ 0 → (session : SessionContent) × Opens words files session × Took out (session_text session))
      (λ files answer asks zero.
      let (text, comes, took) = answer zero in
      let (session, opens, shown) = is_opened words files asks text comes in
      (session, opens, subst (Took out) shown took))
      (answered_with story Done)

  -- an audit that ends with an answer of this kind, and its session
  audited-of : (files : List File) (kind : AnswerKind) → IsKind kind → Asks Audit words →
      (text : List ℕ) × ComesTo (AsHeld files) (asked words) (Answered kind text) × Took out text →
      (next : SessionContent) × (on : GoesOn words files next) × Took out (session_text next) × (kind ≡ kind_of next.session)
  audited-of files kind of asks (text, comes, took) =
      let (next, on, text-is, kind-is) = goes_on words files asks kind text of comes in
      (next, on, subst (Took out) text-is took, kind-is)

  pub audited_clause : IsAudited held words status out
  audited_clause = by held (answered_with story Done) (answered_with story Unconfirmed) where
    by : (h : Option (List File)) → IfSome h (λ files. status ≡ 0 → (text : List ℕ) × ComesTo (AsHeld files) (asked words) (Answered Done text)
        × Took out text) →
        IfSome h (λ files. status ≡ 10 → (text : List ℕ) × ComesTo (AsHeld files) (asked words) (Answered Unconfirmed text) × Took out text) →
        IsAudited h words status out
    by None done unconfirmed = tt
    by (Some files) done unconfirmed = λ asks status-is. elim status-is [
      | inl zero ↦
          let (next, on, took, kind-is) = audited-of files Done (inl refl) asks (done zero) in (
            next,
            on,
            took,
            (λ e. done_is_confirmed (is_signed_off next.session) kind-is, λ yes. zero),
            λ e. limited next on (done_is_confirmed (is_signed_off next.session) kind-is),
          )
      | inr ten ↦
          let (next, on, took, kind-is) = audited-of files Unconfirmed (inr refl) asks (unconfirmed ten) in (
            next,
            on,
            took,
            (λ zero. absurd (omega (arith, zero, ten)), λ yes. absurd (unconfirmed_is_not (is_signed_off next.session) kind-is yes)),
            λ zero. absurd (omega (arith, zero, ten)),
          )
    ]

  -- a poll that ends with an answer of this kind
  polled-of : (files : List File) (kind : AnswerKind) → IsKind kind → Asks Poll words →
      (text : List ℕ) × ComesTo (AsHeld files) (asked words) (Answered kind text) × Took out text →
      (of : IsPollOf words files) × Took out (told_of of) × (kind ≡ confirmed_kind (is_confirmed_by of))
  polled-of files kind of asks (text, comes, took) =
      let (made, text-is, kind-is) = polled_by words files asks kind text of comes in
      (made, subst (Took out) text-is took, kind-is)

  pub polled_clause : IsPolled held words status out
  polled_clause = by held (answered_with story Done) (answered_with story Unconfirmed) where
    by : (h : Option (List File)) → IfSome h (λ files. status ≡ 0 → (text : List ℕ) × ComesTo (AsHeld files) (asked words) (Answered Done text)
        × Took out text) →
        IfSome h (λ files. status ≡ 10 → (text : List ℕ) × ComesTo (AsHeld files) (asked words) (Answered Unconfirmed text) × Took out text) →
        IsPolled h words status out
    by None done unconfirmed = tt
    by (Some files) done unconfirmed = λ asks status-is. elim status-is [
      | inl zero ↦
          let (of, took, kind-is) = polled-of files Done (inl refl) asks (done zero) in
          let yes = done_is_confirmed (is_confirmed_by of) kind-is in
          (of, took, (λ e. yes, λ yes. zero), λ e. were_within of yes)
      | inr ten ↦
          let (of, took, kind-is) = polled-of files Unconfirmed (inr refl) asks (unconfirmed ten) in (
            of,
            took,
            (λ zero. absurd (omega (arith, zero, ten)), λ yes. absurd (unconfirmed_is_not (is_confirmed_by of) kind-is yes)),
            λ zero. absurd (omega (arith, zero, ten)),
          )
    ]

  -- the same for a poll with a look after each draw
  polled_each-of : (files : List File) (kind : AnswerKind) → IsKind kind → Asks PollEach words →
      (text : List ℕ) × ComesTo (AsHeld files) (asked words) (Answered kind text) × Took out text →
      (of : IsEachPollOf words files) × Took out (told_of_each of) × (kind ≡ confirmed_kind (is_confirmed_by_each of))
  polled_each-of files kind of asks (text, comes, took) =
      let (made, text-is, kind-is) = polled_each_by words files asks kind text of comes in
      (made, subst (Took out) text-is took, kind-is)

  pub polled_each_clause : IsPolledEach held words status out
  polled_each_clause = by held (answered_with story Done) (answered_with story Unconfirmed) where
    by : (h : Option (List File)) → IfSome h (λ files. status ≡ 0 → (text : List ℕ) × ComesTo (AsHeld files) (asked words) (Answered Done text)
        × Took out text) →
        IfSome h (λ files. status ≡ 10 → (text : List ℕ) × ComesTo (AsHeld files) (asked words) (Answered Unconfirmed text) × Took out text) →
        IsPolledEach h words status out
    by None done unconfirmed = tt
    by (Some files) done unconfirmed = λ asks status-is. elim status-is [
      | inl zero ↦
          let (of, took, kind-is) = polled_each-of files Done (inl refl) asks (done zero) in
          (of, took, (λ e. done_is_confirmed (is_confirmed_by_each of) kind-is, λ yes. zero), are_first of)
      | inr ten ↦
          let (of, took, kind-is) = polled_each-of files Unconfirmed (inr refl) asks (unconfirmed ten) in (
            of,
            took,
            (λ zero. absurd (omega (arith, zero, ten)), λ yes. absurd (unconfirmed_is_not (is_confirmed_by_each of) kind-is yes)),
            are_first of,
          )
    ]

  -- ---- a plurality contest

  pub opened_plurality_clause : IsPluralityOpened held words status out
  opened_plurality_clause = if_some held (λ files. status ≡ 0 → (text : List ℕ) × ComesTo (AsHeld files) (asked words) (Answered Done text) × Took out text)
      (λ files. Asks OpenPlurality words → status ≡ 0 → (session : SessionContent) × OpensPlurality words files session × Took out (session_text session))
      (λ files answer asks zero.
      let (text, comes, took) = answer zero in
      let (session, opens, shown) = plural_is_opened words files asks text comes in
      (session, opens, subst (Took out) shown took))
      (answered_with story Done)

  -- a round that ends with an answer of this kind, and its session
  plural-of : (files : List File) (kind : AnswerKind) → IsKind kind → Asks AuditPlurality words →
      (text : List ℕ) × ComesTo (AsHeld files) (asked words) (Answered kind text) × Took out text →
      (next : SessionContent) × (on : PluralGoesOn words files next) × Took out (session_text next) × (kind ≡ kind_of next.session)
  plural-of files kind of asks (text, comes, took) =
      let (next, on, text-is, kind-is) = plural_goes_on words files asks kind text of comes in
      (next, on, subst (Took out) text-is took, kind-is)

  pub audited_plurality_clause : IsPluralityAudited held words status out
  audited_plurality_clause = by held (answered_with story Done) (answered_with story Unconfirmed) where
    by : (h : Option (List File)) → IfSome h (λ files. status ≡ 0 → (text : List ℕ) × ComesTo (AsHeld files) (asked words) (Answered Done text)
        × Took out text) →
        IfSome h (λ files. status ≡ 10 → (text : List ℕ) × ComesTo (AsHeld files) (asked words) (Answered Unconfirmed text) × Took out text) →
        IsPluralityAudited h words status out
    by None done unconfirmed = tt
    by (Some files) done unconfirmed = λ asks status-is. elim status-is [
      | inl zero ↦
          let (next, on, took, kind-is) = plural-of files Done (inl refl) asks (done zero) in (
            next,
            on,
            took,
            (λ e. done_is_confirmed (is_signed_off next.session) kind-is, λ yes. zero),
            λ e. plural_limited next on (done_is_confirmed (is_signed_off next.session) kind-is),
          )
      | inr ten ↦
          let (next, on, took, kind-is) = plural-of files Unconfirmed (inr refl) asks (unconfirmed ten) in (
            next,
            on,
            took,
            (λ zero. absurd (omega (arith, zero, ten)), λ yes. absurd (unconfirmed_is_not (is_signed_off next.session) kind-is yes)),
            λ zero. absurd (omega (arith, zero, ten)),
          )
    ]

  -- ---- all contests of a file

  -- an audit of all contests that ends with an answer of this kind
  contests-of : (files : List File) (kind : AnswerKind) → Asks Contests words →
      (text : List ℕ) × ComesTo (AsHeld files) (asked words) (Answered kind text) × Took out text →
      (audit : AuditsContests words files) × Took out (blocks_of audit) × (kind ≡ confirmed_kind (all_signed audit.ends))
  contests-of files kind asks (text, comes, took) =
      let (audit, text-is, kind-is) = audited_by words files asks kind text comes in
      (audit, subst (Took out) text-is took, kind-is)

  pub audited_contests_clause : IsAuditedByContest held words status out
  audited_contests_clause = by held (answered_with story Done) (answered_with story Unconfirmed) where
    by : (h : Option (List File)) → IfSome h (λ files. status ≡ 0 → (text : List ℕ) × ComesTo (AsHeld files) (asked words) (Answered Done text)
        × Took out text) →
        IfSome h (λ files. status ≡ 10 → (text : List ℕ) × ComesTo (AsHeld files) (asked words) (Answered Unconfirmed text) × Took out text) →
        IsAuditedByContest h words status out
    by None done unconfirmed = tt
    by (Some files) done unconfirmed = λ asks status-is. elim status-is [
      | inl zero ↦
          let (audit, took, kind-is) = contests-of files Done asks (done zero) in
          (audit, took, (λ e. done_is_confirmed (all_signed audit.ends) kind-is, λ yes. zero))
      | inr ten ↦
          let (audit, took, kind-is) = contests-of files Unconfirmed asks (unconfirmed ten) in
          (audit, took, (λ zero. absurd (omega (arith, zero, ten)), λ yes. absurd (unconfirmed_is_not (all_signed audit.ends) kind-is yes)))
    ]

  -- ---- the statuses

  causes : of_contests (command_of words) ≡ false → Statuses (asked words) held failed before after status out err
  causes one = statuses_clause story (agrees_by (command_of words) one)

  contests_causes : Asks Contests words → ContestsStatuses (asked words) held failed before after status out err
  contests_causes asks =
      contests_clause story (subst (λ command. AgreeOn SameButContests (asked_by command)) (sym asks.asked) (contests_agree asks.task))

  pub status_clause : HasCause held words failed before after status out err
  status_clause = record {
    by_words = exactly_same 1 status (IsNothing (asked words)) (is_line words ≡ false)
        (λ nothing. have_meanings words ∙ some_nothing (command_of words) nothing)
        (λ none. nothing_some (command_of words) (sym (have_meanings words) ∙ none)) (bad_words_clause story);
    by_files = λ none. causes (without_contests words (command_of words) refl none);
    by_contests = contests_causes;
    refused_anyway = refused_anyway words (answered_clause story);
  }

  pub exact_promise : IsExactUnlessOpen held words status
  exact_promise command is closed = exact_clause story (asked_exact words command is closed)

  pub enough_clause : IsNeverSpent held words status
  enough_clause = if_some held (λ files. status ≡ 4 → (text : List ℕ) × ComesTo (AsHeld files) (asked words) (Answered Spent text) × Took out text)
      (λ files. IsNeverSpentOver files words status)
      (λ files spent. record {
        judged = λ command judging line is enough four.
            let (text, comes, took) = spent four in never_spent words files command judging line is enough (text, comes);
        adopted = λ adopt enough four.
            let (text, comes, took) = spent four in adoption_never words files adopt enough (text, comes);
      })
      (answered_with story Spent)

  -- ---- a number of sets

  pub spent_sets_clause : IsSpentBySets held words status
  spent_sets_clause = by held exact_promise where
    by : (h : Option (List File)) → IsExactUnlessOpen h words status → IsSpentBySets h words status
    by None exact = tt
    by (Some files) exact = λ command sets line is.
        exactly_same 4 status (HasAnswer (asked words) files Spent) (MoreCount files command sets)
        (λ (text, comes). spent_more files command sets text is (subst (λ c. ComesTo (AsHeld files) (asked_by c) (Answered Spent text)) line comes))
        (λ more. let (text, comes) = more_spent files command sets is more in
        (text, subst (λ c. ComesTo (AsHeld files) (asked_by c) (Answered Spent text)) (sym line) comes))
        (exact command line (closed_by command sets is) Spent)

  pub enough_sets_clause : IsNeverSpentBySets held words status
  enough_sets_clause = if_some held (λ files. status ≡ 4 → (text : List ℕ) × ComesTo (AsHeld files) (asked words) (Answered Spent text) × Took out text)
      (λ files. (command : Command) (ballots : BallotFile) (sets : ℕ) → command_of words ≡ Some command → IsAbout files command ballots →
      budget_of command ≡ Sets sets → 2 ^ candidate_count ballots - 3 ≤ sets → status ≢ 4)
      (λ files spent command ballots sets line about is enough four.
      let (text, comes, took) = spent four in
      never_by_sets files command ballots sets text about is enough
      (subst (λ c. ComesTo (AsHeld files) (asked_by c) (Answered Spent text)) line comes))
      (answered_with story Spent)

  -- ---- a call that can't run out of budget

  abbrev IsOfOne : Type 0
  IsOfOne = of_contests (command_of words) ≡ false

  settled : {n : ℕ} (files : List File) → (HasAnswer (asked words) files Spent → ⊥) → IsQuiet failed out err → (status ≡ 4 → HasAnswer (asked words) files Spent) →
      (status ≡ n) ⊎ (status ≡ 4) ⊎ IsUndone status → (status ≡ n) ⊎ (status ≡ 9)
  settled files never quiet spent (inl is) = inl is
  settled files never quiet spent (inr (inl four)) = absurd (never (spent four))
  settled files never quiet spent (inr (inr undone)) = inr (undone_is_nine story quiet undone)

  pub complete_clause : IsComplete held words failed status out err
  complete_clause = by held (λ one. (causes one).done) (λ one. (causes one).full_count) (λ one. (causes one).spent)
    where
      by : (h : Option (List File)) → (IsOfOne → IfSome h (λ files. ExactlyInBudget 0 status (HasAnswer (asked words) files Done))) →
          (IsOfOne → IfSome h (λ files. ExactlyInBudget 5 status (HasAnswer (asked words) files FullCount))) →
          (IsOfOne → IfSome h (λ files. status ≡ 4 → HasAnswer (asked words) files Spent)) →
          IsComplete h words failed status out err
      by None done full spent = tt
      by (Some files) done full spent = λ ok quiet.
          let one : IsOfOne = ap of_contests ok.asks.search.asked in
          elim (has_answer words files ok) [
            | inl answer ↦
                ⊎_elim (λ zero. inl zero) (λ nine. inr (inr nine)) (settled files (not_spent words files ok) quiet (spent one) ((done one).1 answer))
            | inr count ↦
                ⊎_elim (λ five. inr (inl five)) (λ nine. inr (inr nine)) (settled files (not_spent words files ok) quiet (spent one) ((full one).1 count))
          ]

  -- the same for a search for the fewest NENs, by what it came to
  pub complete_fewest_clause : IsFewestComplete held words failed status out err
  complete_fewest_clause = by held (answered_clause story) where
    by : (h : Option (List File)) → IsAnswered (asked words) h failed status out err → IsFewestComplete h words failed status out err
    by None answer = tt
    by (Some files) answer = λ ok quiet. elim (cases_eq status 9) [
      | inl nine ↦ inr (inr nine)
      | inr other ↦
          let (to_out, to_err, may, took_out, took_err) = answer.quiet quiet other in
          ⊎_elim (λ zero. inl zero) (λ five. inr (inl five)) (fewest_ends words files ok (record { status = status; out = to_out; err = to_err }) may)
    ]

  pub complete_tie_clause : IsTieComplete held words failed status out err
  complete_tie_clause = by held (λ one. (causes one).tie) (λ one. (causes one).spent) where
    by : (h : Option (List File)) → (IsOfOne → IfSome h (λ files. ExactlyInBudget 3 status (HasAnswer (asked words) files Tie))) →
        (IsOfOne → IfSome h (λ files. status ≡ 4 → HasAnswer (asked words) files Spent)) → IsTieComplete h words failed status out err
    by None tie spent = tt
    by (Some files) tie spent = λ ok quiet.
        let one : IsOfOne = ap of_contests ok.asks.asked ∙ about_one files ok.asks.command ok.ballots ok.asks.about in
        settled files (never_spent_there words files ok) quiet (spent one) ((tie one).1 (has_tie words files ok))

  -- a poll that has an end comes to it
  ended : (files : List File) (end : HasEnd words files) → IsQuiet failed out err →
      ((kind : AnswerKind) → Exactly (status_of kind) status (HasAnswer (asked words) files kind)) → (status ≡ 0) ⊎ (status ≡ 10) ⊎ (status ≡ 9)
  ended files end quiet exact = elim ((exact (confirmed_kind end.confirmed)).1 end.answer) [
    | inl is ↦ ⊎_elim (λ zero. inl zero) (λ ten. inr (inl ten)) (confirmed_status end.confirmed status is)
    | inr undone ↦ inr (inr (undone_is_nine story quiet undone))
  ]

  pub complete_poll_clause : IsPollComplete held words failed status out err
  complete_poll_clause = by held exact_promise where
    by : (h : Option (List File)) → IsExactUnlessOpen h words status → IsPollComplete h words failed status out err
    by None exact = tt
    by (Some files) exact = λ pollable quiet. ⊎_elim
        (λ ok. ended files (has_poll words files ok) quiet (exact (Poll ok.asks.task) ok.asks.asked refl))
        (λ ok. ended files (has_each_poll words files ok) quiet (exact (PollEach ok.asks.task) ok.asks.asked refl)) pollable

  pub complete_adoption_clause : IsAdoptionComplete held words failed status out err
  complete_adoption_clause = by held exact_promise where
    by : (h : Option (List File)) → IsExactUnlessOpen h words status → IsAdoptionComplete h words failed status out err
    by None exact = tt
    by (Some files) exact = λ ok quiet. elim ((exact (Adopt ok.asks.task) ok.asks.asked refl Done).1 (has_adoption words files ok)) [
      | inl zero ↦ inl zero
      | inr undone ↦ inr (undone_is_nine story quiet undone)
    ]

  pub complete_tabulation_clause : IsTabulationComplete held words failed status out err
  complete_tabulation_clause = by held (λ one. (causes one).done) (λ one. (causes one).spent) where
    by : (h : Option (List File)) → (IsOfOne → IfSome h (λ files. ExactlyInBudget 0 status (HasAnswer (asked words) files Done))) →
        (IsOfOne → IfSome h (λ files. status ≡ 4 → HasAnswer (asked words) files Spent)) → IsTabulationComplete h words failed status out err
    by None done spent = tt
    by (Some files) done spent = λ ok quiet.
        let one : IsOfOne = ap of_contests ok.asks.asked in
        settled files (never_stopped words files ok) quiet (spent one) ((done one).1 (has_rounds words files ok))

  -- ---- a trial that can't run out of budget

  pub complete_trial_clause : IsTrialComplete words failed status out err
  complete_trial_clause ok quiet = elim story.written [
    | inl whole ↦ subst (λ s. (s ≡ 0) ⊎ (s ≡ 3) ⊎ (s ≡ 9)) (sym whole.ends) (by (due_of story.come))
    | inr cut ↦ absurd (⊎_elim quiet.sink_out quiet.sink_err cut.cause)
  ]
    where
      by : IsDue (ByDesk held failed) (asked words) story.due → (story.due.status ≡ 0) ⊎ (story.due.status ≡ 3) ⊎ (story.due.status ≡ 9)
      by (inl may) = ⊎_elim (λ zero. inl zero) (λ three. inr (inl three)) (tried words ok (ByDesk held failed) story.due may)
      by (inr memory) = inr (inr (ap status_in memory))
