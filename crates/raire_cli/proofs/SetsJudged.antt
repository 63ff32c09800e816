-- More sets count in the check of an assertion file exactly when the check runs out of budget. This includes the checks before a trim, before
-- a session is opened, and before a round.
use Rattle.std.proofs.Common.{◌≡◌, ◌⊎◌, inl, inr, ℕ, ◌<◌, ◌==◌, Bool, true, false, if◌then◌else◌, List, [], ◌∷◌, Option, None, Some, Result, Ok, Err, MatchBool, refl, sym, ap, subst, arith, eqb-true, eq-eqb, lt-ltb, ◌∙◌}
use Rattle.std.proofs.lemmas.Bool.{cases_Bool, cases_lt}
use Rattle.sha2.specs.Sha256.{sha256}
use Rattle.desk.specs.Desk.{File, held_bytes}
use Rattle.irv_base.specs.Names.{Id}
use Rattle.ballots.specs.Ballots.{BallotFile}
use Rattle.ballots.specs.Grammar.{ballots_of}
use Rattle.manifest.specs.Cards.{Batches}
use Rattle.assertion_file.specs.Content.{Content, candidate_count as count_in}
use Rattle.assertion_file.specs.Reading.{assertion_file_of}
use Rattle.session_state.specs.declared.digests.Digests.{Digests}
use Rattle.session_state.specs.Content.{Content as Session}
use Rattle.budget.specs.declared.budget.Budget.{Budget}
use Rattle.budget.specs.declared.budget.Budget.TheVariants.{Sets}
use Rattle.cover_checker.specs.Checks.{Judges, IsAnswer, checked_is, first_found}
use Rattle.cover_checker.specs.Covers.{standing_order, standing_sets, or_spent, verdict_on as cover_verdict_on}
use Rattle.cover_checker.specs.Findings.{Answer, assertions_of, elected, harder, is_about, other_draws, other_margin, other_smallest, other_winner, uncovered, unless_covered}
use Rattle.cover_checker.specs.declared.checked.Checked.TheVariants.{OtherContest, OtherWinner, OtherMargin, Stands, NotLeast, NotAlternative, Harder, OtherDraws, Accepted}
use Rattle.cover_checker.specs.declared.checked.CheckFault.{CheckFault}
use Rattle.cover_checker.specs.declared.checked.CheckFault.TheVariants.{Spent as SpentAt, SpentSets, Memory}
use Rattle.cover_checker.specs.declared.cover.CoverFault.TheVariants.{SpentSets as CoverSpentSets}
use Rattle.cover_checker.proofs.Answered.{from_answer, judged}
use Rattle.cover_checker.proofs.Existing.{answer_never_fault, margins-never}
use Rattle.cover_checker.proofs.OneAnswer.{answer_is_one}
use Rattle.trimmer.specs.Trimmed.{trimmed}
use Rattle.trimmer.proofs.BySets.{trim-spends}
use Rattle.check_command.specs.Check.{Checks, verdict_on}
use Rattle.trim_command.specs.Trim.{Trims, trim_verdict, verdict_on as trim_verdict_on}
use Rattle.cli_base.specs.Outcome.{Verdict, Answered}
use Rattle.cli_base.specs.Script.{Script, Read, Ends, AsHeld, Concludes}
use Rattle.cli_base.specs.declared.outcome.AnswerKind.{AnswerKind}
use Rattle.cli_base.specs.declared.outcome.AnswerKind.TheVariants.{Spent}
use Rattle.command.specs.declared.audit.AuditTask.{AuditTask}
use Rattle.command.specs.declared.open.OpenTask.{OpenTask}
use Rattle.contest_search.specs.Contest.{IsWon}
use Rattle.input_files.specs.Cards.{cards_for}
use Rattle.input_files.specs.Judged.{told, go_on}
use Rattle.input_files.specs.Refusals.{refused_assertions, refused_ballots}
use Rattle.input_files.proofs.Going.{IsRefusal, OnlyRefuses, cards-only, told-only}
use Rattle.report.specs.Ends.{spent_sets}
use Rattle.session_commands.specs.Accepted.{if_accepted, is_accepted, on_if}
use Rattle.session_commands.specs.Audit as audit
use Rattle.session_commands.specs.Open as opening
use Rattle.session_rounds.specs.Rounds.{same_ballots, same_manifest, session_to_go_on}
use Rattle.session_commands.proofs.Acceptance.{decided}
use Rattle.session_commands.proofs.Audits.{assertions-only}
use Rattle.session_rounds.proofs.OneRound.{ballots-only, manifest-only, session-only}
use Rattle.raire_cli.specs.Held.{AreChecked, Says}
use Rattle.raire_cli.specs.Sets.{AreOfRound, AreOpened, CountsMore, TrialCountsMore}
use Rattle.raire_cli.proofs.Enough.{facts-never, spent_answer, spent_trial}
use Rattle.raire_cli.proofs.Said.{held_whole, read_whole, short_of, told_ok, value_of}

-- ---- a file that is judged

module _ {A : Type 0} (files : List File) (name : List ℕ) (judge : List ℕ → Result A Verdict) (next : List ℕ → A → Script) where
  abbrev whole : Script
  whole = Read name (λ bytes. go_on (judge bytes) (next bytes))

  -- a command that answers continues with what the file says
  pub goes_on_with : (kind : AnswerKind) (text : List ℕ) → ((bytes : List ℕ) → OnlyRefuses (judge bytes)) →
      Concludes (AsHeld files) whole (Answered kind text) →
      (value : A) × (says : Says files name judge value) × Concludes (AsHeld files) (next says.bytes value) (Answered kind text)
  goes_on_with kind text only (bytes, there, rest) =
      let (value, is, on) = value_of (AsHeld files) (judge bytes) (next bytes) kind text (only bytes) rest in (
        value,
        record {
          bytes = bytes;
          held = held_whole (held_bytes name files) bytes there;
          is_short = short_of (held_bytes name files) bytes there;
          is = is;
        },
        on,
      )

  -- and the other way around
  pub going_on_with : (value : A) (says : Says files name judge value) (v : Verdict) → Concludes (AsHeld files) (next says.bytes value) v →
      Concludes (AsHeld files) whole v
  going_on_with value says v rest = (
    says.bytes,
    read_whole name files says.bytes says.held says.is_short,
    subst (λ j. Concludes (AsHeld files) (go_on j (next says.bytes)) v) (sym says.is) rest,
  )

-- with words for what is wrong, or without
module _ {A Why : Type 0} (files : List File) (name : List ℕ) (words : Why → Verdict) (read : List ℕ → Result A Why) (value : A) where
  untold : Says files name (λ bytes. told words (read bytes)) value → Says files name read value
  untold says = record { bytes = says.bytes; held = says.held; is_short = says.is_short; is = told_ok words (read says.bytes) value says.is }

  abbrev in_words : Says files name read value → Says files name (λ bytes. told words (read bytes)) value
  in_words says = record { bytes = says.bytes; held = says.held; is_short = says.is_short; is = ap (told words) says.is }

-- ---- a check

module _ (sets : ℕ) (ballots : BallotFile) (file : Content) where
  abbrev later : List (Option Answer)
  later = other_smallest file ∷ elected file ∷ harder ballots.rankings file ∷ other_draws file ∷ []

  abbrev from_margins : List (Option Answer)
  from_margins = other_margin ballots.rankings file ∷ uncovered (Sets sets) file ∷ later

  -- what is found before isn't a fault
  winner_first : (winner : ℕ) (fault : CheckFault) → checked_is (Sets sets) ballots.rankings file winner ≡ Err fault →
      (file.winner ≡ winner) × (first_found from_margins (Ok Accepted) ≡ Err fault)
  winner_first winner fault is = by (file.winner == winner) refl is where
    by : (b : Bool) → (file.winner == winner) ≡ b →
        first_found ((if b then None else Some (Ok (OtherWinner winner))) ∷ from_margins) (Ok Accepted) ≡ Err fault →
        (file.winner ≡ winner) × (first_found from_margins (Ok Accepted) ≡ Err fault)
    by true same is = (eqb-true file.winner winner same, is)
    by false other is = absurd (cc is)

  margins_first : (fault : CheckFault) → first_found from_margins (Ok Accepted) ≡ Err fault → other_margin ballots.rankings file ≡ None
  margins_first fault is = by (other_margin ballots.rankings file) (margins-never ballots.rankings 1 file.claims) is where
    by : (found : Option Answer) → ((fault : CheckFault) → found ≡ Some (Err fault) → ⊥) →
        first_found (found ∷ uncovered (Sets sets) file ∷ later) (Ok Accepted) ≡ Err fault → found ≡ None
    by None never is = refl
    by (Some (Ok checked)) never is = absurd (cc is)
    by (Some (Err other)) never is = absurd (never other refl)

  pub counted_more : (fault : CheckFault) → IsAnswer (Sets sets) ballots file (Err fault) → CountsMore sets ballots file
  counted_more fault is = elim (cases_Bool (is_about ballots file)) [
    | inr elsewhere ↦
        let failed : Answer = Err fault in
        let other : failed ≡ Ok OtherContest = subst (λ b. MatchBool b (Judges (Sets sets) ballots file failed) (failed ≡ Ok OtherContest)) elsewhere is in
        absurd (cc other)
    | inl about ↦
        let judges = from_answer (Sets sets) ballots file about (Err fault) is in
        let (same, rest) = winner_first judges.winner fault judges.answer_is in
        record {
          about = about;
          won = subst (IsWon ballots) (sym same) judges.tabulated;
          margins = margins_first fault rest;
          above = elim (cases_lt sets (standing_sets (count_in file) file.winner (assertions_of file))) [
            | inl above ↦ above
            | inr within ↦ absurd (answer_never_fault (Sets sets) ballots file fault within is)
          ];
        }
  ]

  pub counted_answer : CountsMore sets ballots file → IsAnswer (Sets sets) ballots file (Err (SpentSets sets))
  counted_answer more =
      judged (Sets sets) ballots file more.about (Err (SpentSets sets))
      (record { winner = file.winner; tabulated = more.won; answer_is = won_first ∙ margins_next ∙ sets_next })
    where
      left : Option (List ℕ)
      left = standing_order (count_in file) file.winner (assertions_of file)

      won_first : checked_is (Sets sets) ballots.rankings file file.winner ≡ first_found from_margins (Ok Accepted)
      won_first = ap (λ b. first_found ((if b then None else Some (Ok (OtherWinner file.winner))) ∷ from_margins) (Ok Accepted))
          (eq-eqb file.winner file.winner refl)

      margins_next : first_found from_margins (Ok Accepted) ≡ first_found (uncovered (Sets sets) file ∷ later) (Ok Accepted)
      margins_next = ap (λ found. first_found (found ∷ uncovered (Sets sets) file ∷ later) (Ok Accepted)) more.margins

      sets_next : first_found (uncovered (Sets sets) file ∷ later) (Ok Accepted) ≡ Err (SpentSets sets)
      sets_next =
          ap (λ b. first_found (unless_covered (or_spent (if b then Some (CoverSpentSets sets) else None) (cover_verdict_on left)) ∷ later) (Ok Accepted))
          (lt-ltb sets (standing_sets (count_in file) file.winner (assertions_of file)) more.above)

  -- ---- at a budget of this number of sets

  module _ (budget : Budget) (is : budget ≡ Sets sets) where
    pub checked_more : (text : List ℕ) → Checks budget ballots file (Answered Spent text) → CountsMore sets ballots file
    checked_more text (answer, found, tells) =
        let (fault, e) = spent_answer file answer text tells in
        counted_more fault (subst (λ budget. IsAnswer budget ballots file (Err fault)) is (subst (IsAnswer budget ballots file) e found))

    its_answer : CountsMore sets ballots file → IsAnswer budget ballots file (Err (SpentSets sets))
    its_answer more = subst (λ budget. IsAnswer budget ballots file (Err (SpentSets sets))) (sym is) (counted_answer more)

    pub more_checked : CountsMore sets ballots file → Checks budget ballots file (Answered Spent (spent_sets sets))
    more_checked more = (Err (SpentSets sets), its_answer more, refl)

    -- a check doesn't accept a file like this
    pub not_accepted : CountsMore sets ballots file → is_accepted budget ballots file ≡ false
    not_accepted more = elim (cases_Bool (is_accepted budget ballots file)) [
      | inl accepted ↦
          let failed : Answer = Err (SpentSets sets) in
          let both : failed ≡ Ok Accepted =
          answer_is_one budget ballots file failed (Ok Accepted) (its_answer more) ((decided budget ballots file).0 accepted) in
          absurd (cc both)
      | inr not ↦ not
    ]

    -- ---- a trim

    abbrev EitherMore : Type 0
    EitherMore = CountsMore sets ballots file ⊎ TrialCountsMore sets ballots file

    trial_more : (text : List ℕ) → IsAnswer budget ballots file (Ok Accepted) → trim_verdict file (trimmed budget file) ≡ Some (Answered Spent text) →
        TrialCountsMore sets ballots file
    trial_more text found tells =
        let (fault, e) = spent_trial file (trimmed budget file) text tells in
        let its : trimmed (Sets sets) file ≡ Err fault = subst (λ budget. trimmed budget file ≡ Err fault) is e in
        let (claim, same) = trim-spends sets file fault its in record {
          accepted = subst (λ budget. IsAnswer budget ballots file (Ok Accepted)) is found;
          claim = claim;
          spent = its ∙ ap Err same;
        }

    pub trims_more : (text : List ℕ) → Trims budget ballots file (Answered Spent text) → EitherMore
    trims_more text (Ok Accepted, found, tells) = inr (trial_more text found tells)
    trims_more text (Ok OtherContest, found, tells) = inl (checked_more text (Ok OtherContest, found, tells))
    trims_more text (Ok (OtherWinner c), found, tells) = inl (checked_more text (Ok (OtherWinner c), found, tells))
    trims_more text (Ok (OtherMargin at m), found, tells) = inl (checked_more text (Ok (OtherMargin at m), found, tells))
    trims_more text (Ok (Stands order), found, tells) = inl (checked_more text (Ok (Stands order), found, tells))
    trims_more text (Ok (NotLeast m), found, tells) = inl (checked_more text (Ok (NotLeast m), found, tells))
    trims_more text (Ok NotAlternative, found, tells) = inl (checked_more text (Ok NotAlternative, found, tells))
    trims_more text (Ok (Harder a m), found, tells) = inl (checked_more text (Ok (Harder a m), found, tells))
    trims_more text (Ok (OtherDraws at d), found, tells) = inl (checked_more text (Ok (OtherDraws at d), found, tells))
    trims_more text (Err (SpentAt last), found, tells) = inl (checked_more text (Err (SpentAt last), found, tells))
    trims_more text (Err (SpentSets some), found, tells) = inl (checked_more text (Err (SpentSets some), found, tells))
    trims_more text (Err Memory, found, tells) = inl (checked_more text (Err Memory, found, tells))

    pub more_trims : EitherMore → Trims budget ballots file (Answered Spent (spent_sets sets))
    more_trims (inl more) = (Err (SpentSets sets), its_answer more, refl)
    more_trims (inr trial) =
        let spent = ap (λ budget. trimmed budget file) is ∙ trial.spent in (
          Ok Accepted,
          subst (λ budget. IsAnswer budget ballots file (Ok Accepted)) (sym is) trial.accepted,
          ap (trim_verdict file) spent,
        )

-- ---- the files of a check or a trim

module _ (files : List File) (name assertions : List ℕ) (contest : Option Id) (Comes : BallotFile → Content → Verdict → Type 0) where
  abbrev read_ballots : List ℕ → Result BallotFile Verdict
  read_ballots bytes = told (refused_ballots name) (ballots_of bytes contest)

  abbrev read_assertions : List ℕ → Result Content Verdict
  read_assertions bytes = told (refused_assertions assertions) (assertion_file_of bytes)

  abbrev after_both : BallotFile → Content → Script
  after_both ballots file = Ends (Comes ballots file)

  abbrev after_first : BallotFile → Script
  after_first ballots = Read assertions (λ bytes. go_on (read_assertions bytes) (after_both ballots))

  abbrev both : Script
  both = Read name (λ bytes. go_on (read_ballots bytes) after_first)

  pub both_said : (kind : AnswerKind) (text : List ℕ) → Concludes (AsHeld files) both (Answered kind text) →
      (ballots : BallotFile) × (file : Content) × AreChecked files name assertions contest ballots file × Comes ballots file (Answered kind text)
  both_said kind text comes =
      let (ballots, of_ballots, rest) = goes_on_with files name read_ballots (λ bytes. after_first) kind text
      (λ bytes. told-only (refused_ballots name) (ballots_of bytes contest) (λ why. tt)) comes in
      let (file, of_assertions, ends) = goes_on_with files assertions read_assertions (λ bytes. after_both ballots) kind text
      (λ bytes. told-only (refused_assertions assertions) (assertion_file_of bytes) (λ why. tt)) rest in (
        ballots,
        file,
        record {
          of_ballots = untold files name (refused_ballots name) (λ bytes. ballots_of bytes contest) ballots of_ballots;
          of_assertions = untold files assertions (refused_assertions assertions) assertion_file_of file of_assertions;
        },
        ends,
      )

  pub both_saying : (ballots : BallotFile) (file : Content) → AreChecked files name assertions contest ballots file → (v : Verdict) → Comes ballots file v →
      Concludes (AsHeld files) both v
  both_saying ballots file are v ends =
      going_on_with files name read_ballots (λ bytes. after_first) ballots
      (in_words files name (refused_ballots name) (λ bytes. ballots_of bytes contest) ballots are.of_ballots) v
      (going_on_with files assertions read_assertions (λ bytes. after_both ballots) file
      (in_words files assertions (refused_assertions assertions) assertion_file_of file are.of_assertions) v ends)

-- ---- a session that is opened

module _ (files : List File) (task : OpenTask) (sets : ℕ) (is : task.budget ≡ Sets sets) where
  abbrev opening_ballots : List ℕ → Result BallotFile Verdict
  opening_ballots bytes = told (refused_ballots task.ballots) (ballots_of bytes task.contest)

  abbrev opening_assertions : List ℕ → Result Content Verdict
  opening_assertions bytes = told (refused_assertions task.assertions) (assertion_file_of bytes)

  -- when the digests of the first two files are known
  abbrev opens_with : BallotFile → Batches → List ℕ → List ℕ → List ℕ → Content → Script
  opens_with ballots batches b m a file =
      Ends (opening.Opens task ballots batches file (opening.all_digests (record { ballots = sha256 b; manifest = sha256 m }) a))

  opens_more : (text : List ℕ) (ballots : BallotFile) (batches : Batches) (file : Content) (digests : Digests) →
      opening.Opens task ballots batches file digests (Answered Spent text) → CountsMore sets ballots file
  opens_more text ballots batches file digests opens = by (is_accepted task.budget ballots file) opens where
    by : (b : Bool) → MatchBool b (Answered Spent text ≡ opening.opened task batches file digests) (Checks task.budget ballots file (Answered Spent text)) →
        CountsMore sets ballots file
    by true same = absurd (cc same)
    by false checks = checked_more sets ballots file task.budget is text checks

  more_opens : (ballots : BallotFile) (batches : Batches) (file : Content) (digests : Digests) → CountsMore sets ballots file →
      opening.Opens task ballots batches file digests (Answered Spent (spent_sets sets))
  more_opens ballots batches file digests more =
      let v : Verdict = Answered Spent (spent_sets sets) in
      subst (λ b. MatchBool b (v ≡ opening.opened task batches file digests) (Checks task.budget ballots file v))
      (sym (not_accepted sets ballots file task.budget is more)) (more_checked sets ballots file task.budget is more)

  pub open_more : (text : List ℕ) → Concludes (AsHeld files) (opening.script task) (Answered Spent text) →
      (ballots : BallotFile) × (file : Content) × AreOpened files task ballots file × CountsMore sets ballots file
  open_more text comes =
      let (ballots, of_ballots, rest) = goes_on_with files task.ballots opening_ballots
      (λ bytes ballots. opening.after_ballots task ballots (sha256 bytes)) Spent text
      (λ bytes. told-only (refused_ballots task.ballots) (ballots_of bytes task.contest) (λ why. tt)) comes in
      let (batches, of_manifest, more) = goes_on_with files task.manifest (cards_for task.ballots ballots task.manifest)
      (λ bytes batches. opening.after_manifest task ballots batches (record { ballots = sha256 of_ballots.bytes; manifest = sha256 bytes })) Spent text
      (cards-only task.ballots ballots task.manifest) rest in
      let (file, of_assertions, ends) = goes_on_with files task.assertions opening_assertions
      (opens_with ballots batches of_ballots.bytes of_manifest.bytes) Spent text
      (λ bytes. told-only (refused_assertions task.assertions) (assertion_file_of bytes) (λ why. tt)) more in (
        ballots,
        file,
        record {
          of_ballots = untold files task.ballots (refused_ballots task.ballots) (λ bytes. ballots_of bytes task.contest) ballots of_ballots;
          batches = batches;
          of_manifest = of_manifest;
          of_assertions = untold files task.assertions (refused_assertions task.assertions) assertion_file_of file of_assertions;
        },
        opens_more text ballots batches file _ ends,
      )

  pub more_open : (ballots : BallotFile) (file : Content) → AreOpened files task ballots file → CountsMore sets ballots file →
      Concludes (AsHeld files) (opening.script task) (Answered Spent (spent_sets sets))
  more_open ballots file are more =
      let v : Verdict = Answered Spent (spent_sets sets) in
      going_on_with files task.ballots opening_ballots (λ bytes ballots. opening.after_ballots task ballots (sha256 bytes)) ballots
      (in_words files task.ballots (refused_ballots task.ballots) (λ bytes. ballots_of bytes task.contest) ballots are.of_ballots) v
      (going_on_with files task.manifest (cards_for task.ballots ballots task.manifest)
      (λ bytes batches. opening.after_manifest task ballots batches (record { ballots = sha256 are.of_ballots.bytes; manifest = sha256 bytes })) are.batches
      are.of_manifest v
      (going_on_with files task.assertions opening_assertions (opens_with ballots are.batches are.of_ballots.bytes are.of_manifest.bytes) file
      (in_words files task.assertions (refused_assertions task.assertions) assertion_file_of file are.of_assertions) v
      (more_opens ballots are.batches file
      (opening.all_digests (record { ballots = sha256 are.of_ballots.bytes; manifest = sha256 are.of_manifest.bytes }) are.of_assertions.bytes) more)))

-- ---- a round

module _ (files : List File) (task : AuditTask) (sets : ℕ) (is : task.budget ≡ Sets sets) where
  accepted_more : (text : List ℕ) (session : Session) (ballots : BallotFile) (batches : Batches) (file : Content) →
      Concludes (AsHeld files) (audit.after_assertions task session ballots batches file) (Answered Spent text) → CountsMore sets ballots file
  accepted_more text session ballots batches file comes = by (is_accepted task.budget ballots file) comes where
    by : (b : Bool) → Concludes (AsHeld files) (on_if b (audit.after_check task session ballots batches file) (Ends (Checks task.budget ballots file)))
        (Answered Spent text) → CountsMore sets ballots file
    by true on = absurd (facts-never files text task session ballots batches file on)
    by false checks = checked_more sets ballots file task.budget is text checks

  pub round_more : (text : List ℕ) → Concludes (AsHeld files) (audit.script task) (Answered Spent text) →
      (ballots : BallotFile) × (file : Content) × AreOfRound files task ballots file × CountsMore sets ballots file
  round_more text comes =
      let (session, of_session, rest) = goes_on_with files task.session (session_to_go_on task.session task.draws)
      (λ bytes. audit.after_session task) Spent text
      (session-only task.session task.draws) comes in
      let (ballots, of_ballots, more) = goes_on_with files task.ballots (same_ballots task.ballots session)
      (λ bytes. audit.after_ballots task session) Spent text
      (ballots-only task.ballots session) rest in
      let (batches, of_manifest, most) = goes_on_with files task.manifest (same_manifest task.ballots task.manifest session ballots)
      (λ bytes. audit.after_manifest task session ballots) Spent text (manifest-only task.ballots task.manifest session ballots) more in
      let (file, of_assertions, ends) = goes_on_with files task.assertions (audit.same_assertions task session)
      (λ bytes. audit.after_assertions task session ballots batches) Spent text (assertions-only task session) most in (
        ballots,
        file,
        record {
          session = session;
          of_session = of_session;
          of_ballots = of_ballots;
          batches = batches;
          of_manifest = of_manifest;
          of_assertions = of_assertions;
        },
        accepted_more text session ballots batches file ends,
      )

  pub more_round : (ballots : BallotFile) (file : Content) → AreOfRound files task ballots file → CountsMore sets ballots file →
      Concludes (AsHeld files) (audit.script task) (Answered Spent (spent_sets sets))
  more_round ballots file are more =
      let v : Verdict = Answered Spent (spent_sets sets) in
      let session = are.session in
      going_on_with files task.session (session_to_go_on task.session task.draws) (λ bytes. audit.after_session task) session are.of_session v
      (going_on_with files task.ballots (same_ballots task.ballots session) (λ bytes. audit.after_ballots task session) ballots are.of_ballots v
      (going_on_with files task.manifest (same_manifest task.ballots task.manifest session ballots) (λ bytes. audit.after_manifest task session ballots)
      are.batches are.of_manifest v
      (going_on_with files task.assertions (audit.same_assertions task session) (λ bytes. audit.after_assertions task session ballots are.batches) file
      are.of_assertions v
      (subst (λ b. Concludes (AsHeld files) (on_if b (audit.after_check task session ballots are.batches file) (Ends (Checks task.budget ballots file))) v)
      (sym (not_accepted sets ballots file task.budget is more)) (more_checked sets ballots file task.budget is more)))))
