-- A later call accepts what a search printed.
use Rattle.std.proofs.Common.{◌≡◌, inl, inr, ℕ, ◌≤◌, List, ◌++◌, length, Option, Some, None, Ok, IfSome, MatchBool, true, refl, sym, ap, subst, ◌∙◌, arith, leb-true}
use Rattle.std.specs.Prelude.{option_map}
use Rattle.std.specs.Io.KnownBytes.{Appends}
use Rattle.std.proofs.lemmas.List.{append_cancel_left}
use Rattle.sha2.specs.Sha256.{sha256}
use Rattle.desk.specs.Desk.{File, held_bytes}
use Rattle.irv_base.specs.Names.{Id}
use Rattle.assertion_file.specs.Content.{Content, IsSoundPlan}
use Rattle.assertion_file.specs.Reading.{assertion_file_of}
use Rattle.session_state.specs.declared.digests.Digests.{Digests}
use Rattle.cover_checker.specs.Checks.{IsAnswer}
use Rattle.cover_checker.specs.Draws.{IsPlanOf}
use Rattle.cover_checker.specs.declared.checked.Checked.TheVariants.{Accepted}
use Rattle.budget.specs.declared.budget.Budget.{Budget}
use Rattle.ballots.specs.Ballots.{BallotFile}
use Rattle.ballots.specs.Grammar.{ballots_of}
use Rattle.manifest.specs.Cards.{Batches}
use Rattle.manifest.specs.Linked.{first_without_card}
use Rattle.manifest.specs.Manifest.{manifest_of}
use Rattle.cli_base.specs.Ends.{Writing, Took}
use Rattle.cli_base.specs.Outcome.{Outcome, Verdict, Answered, outcome}
use Rattle.cli_base.specs.Script.{Script, Ends, AsHeld, Concludes, May, MayCome, limit}
use Rattle.cli_base.specs.declared.outcome.AnswerKind.TheVariants.{Done}
use Rattle.cli_base.proofs.Scripts.{ended}
use Rattle.cli_base.proofs.Statuses.{answer_verdict, stopped}
use Rattle.command.specs.PlanTerms.{AreWithinLimits}
use Rattle.command.specs.declared.plan_terms.PlanTerms.{PlanTerms}
use Rattle.command.specs.declared.search.SearchTask.{SearchTask}
use Rattle.command_line.specs.declared.commands.Command.TheVariants.{Check, Open, Search}
use Rattle.command_line.proofs.Checked.{are_checked}
use Rattle.check_command.specs.Check.{Checks, after_ballots, yes_text}
use Rattle.check_command.proofs.Checks.{accepted_is_yes}
use Rattle.contest_search.proofs.Accepted.{accepted_with, IsTaken}
use Rattle.contest_search.proofs.Plans.{plan_clean, plan_sound}
use Rattle.input_files.specs.Cards.{cards_for}
use Rattle.input_files.specs.Judged.{told, then_judged, unless}
use Rattle.input_files.specs.Refusals.{no_card, refused_assertions, refused_ballots, refused_manifest}
use Rattle.search_commands.specs.Search.{has_cards, plan_by, printed, HasCertificate, script}
use Rattle.search_commands.proofs.Searches.{done_is, found_by as searches_found}
use Rattle.session_commands.specs.Accepted.{is_accepted}
use Rattle.session_commands.specs.Open as opened
use Rattle.session_commands.proofs.Acceptance.{decided}
use Rattle.raire_cli.specs.Asks.{Asks}
use Rattle.call_laws.specs.Agreement.{Call, IsSettled}
use Rattle.raire_cli.specs.Answers.{asked, asked_by}
use Rattle.raire_cli.specs.Confirmation.{AsksFor}
use Rattle.call_laws.specs.PrintedFiles.{ChecksTheSame, HasPrinted, HoldsCards, HoldsPrinted, OpensTheSame, PrintedIsAccepted, PrintedIsOpened}
use Rattle.call_laws.proofs.Agreement.{not_spent}
use Rattle.call_laws.proofs.Ended.{ends_with}
use Rattle.raire_cli.proofs.Headline.{searching}
use Rattle.raire_cli.proofs.Said.{going, may_say, read_whole, said}

-- a sink that reports what it takes took one text
pub one_text : (sink : Writing) (before text other : List ℕ) → sink.before ≡ Some before → sink.after ≡ Some (before ++ text) → Took sink other → text ≡ other
one_text sink before text other told_before told_after took =
    append_cancel_left before text other (subst (λ s. Appends s (Some (before ++ text)) other) told_before
    (subst (λ s. Appends sink.before s other) told_after took))

module _ {words : List (List ℕ)} (files : List File) (search : Asks Search words) where
  abbrev task : SearchTask
  task = search.task

  -- the ballots that a search read, and the text of their certificate
  pub record Found (text : List ℕ) : Type 0 where
    pub bytes : List ℕ
    pub held : held_bytes task.ballots files ≡ Some bytes
    pub is_short : length bytes ≤ limit
    pub ballots : BallotFile
    pub read : ballots_of bytes task.contest ≡ Ok ballots
    pub cards : has_cards task.plan ballots ≡ true
    pub has : HasCertificate task.budget task.floor task.plan ballots text

  found_by : (d : Outcome) → d.status ≡ 0 → May (AsHeld files) (script task) d → Found d.out
  found_by d zero may = elim (ended (AsHeld files) (script task) d may) [
    | inl (v, concludes, is) ↦
        let (text, answered) = answer_verdict Done v d is zero in
        let shown : d.out ≡ text = ap (λ (o : Outcome). o.out) is ∙ ap (λ v. (outcome v).out) answered in
        let came = said files task.ballots (refused_ballots task.ballots) (λ bytes. ballots_of bytes task.contest) (searching words files search) Done d.out
        (λ why. tt) (subst (Concludes (AsHeld files) (script task)) (answered ∙ ap (Answered Done) (sym shown)) concludes) in
        let (cards, finds) = searches_found task came.value Done d.out came.rest in
        record {
          bytes = came.bytes;
          held = came.held;
          is_short = came.is_short;
          ballots = came.value;
          read = came.is;
          cards = cards;
          has = done_is task.budget task.floor task.plan came.value d.out finds;
        }
    | inr (name, reading, reaches, there, stops) ↦ absurd (stopped 0 name reading d stops zero refl refl refl)
  ]

  pub found : (call : Call) (text : List ℕ) → HasPrinted words files call text → Found text
  found call text printed = elim printed.answer.otherwise [
    | inl undone ↦ absurd (let zero = printed.done in omega (arith, undone, zero))
    | inr (to_out, to_err, may, took, took_err) ↦
        let ended : Outcome = record { status = call.status; out = to_out; err = to_err } in
        let may' : MayCome (AsHeld files) (asked words) ended = may in
        subst Found (sym (one_text call.out printed.before text to_out printed.told_before printed.told_after took))
        (found_by ended printed.done (subst (λ command. MayCome (AsHeld files) (asked_by command) ended) search.asked may'))
  ]

-- what a search printed
abbrev file_of : {budget : Budget} {least : ℕ} {ballots : BallotFile} {text : List ℕ} (plan : Option PlanTerms) → HasCertificate budget least plan ballots text → Content
file_of plan has = printed plan has.file

-- the plan that is printed can be one, and has the clean draws of the claims
pub sound_by : (plan : Option PlanTerms) (ballots : BallotFile) (file : Content) → file.records ≡ length ballots.rankings → IfSome plan AreWithinLimits →
    has_cards plan ballots ≡ true → IfSome (option_map (plan_by file) plan) (IsSoundPlan file.records (length file.claims))
sound_by None ballots file same limits cards = tt
sound_by (Some terms) ballots file same limits cards =
    let enough : length ballots.rankings ≤ terms.cards = leb-true (length ballots.rankings) terms.cards cards in
    plan_sound terms.cards terms.gamma terms.limit file.records file.claims (record {
      some_cards = omega (arith, same, enough);
      most_cards = limits.cards.1;
      some_gamma = limits.gamma.0;
      most_gamma = limits.gamma.1;
      some_limit = limits.limit.0;
      most_limit = limits.limit.1;
    })

pub clean_by : (plan : Option PlanTerms) (file : Content) → IfSome (option_map (plan_by file) plan) (IsPlanOf file.claims)
clean_by None file = tt
clean_by (Some terms) file = plan_clean terms.cards terms.gamma terms.limit file.claims

-- it reads back, and is accepted
module _ (budget : Budget) (least : ℕ) (plan : Option PlanTerms) (limits : IfSome plan AreWithinLimits) (bytes : List ℕ) (contest : Option Id) (ballots : BallotFile)
    (text : List ℕ) (read : ballots_of bytes contest ≡ Ok ballots) (cards : has_cards plan ballots ≡ true) (has : HasCertificate budget least plan ballots text)
  where
    taken : IsTaken budget ballots (file_of plan has)
    taken =
        let file = has.file in
        let records : file.records ≡ length ballots.rankings = ap (λ (f : Content). f.records) has.is.is in
        accepted_with budget bytes contest ballots file (option_map (plan_by file) plan) read (record { is = has.is; within = has.within })
        (sound_by plan ballots file records limits cards) (clean_by plan file)

    printed_reads : assertion_file_of text ≡ Ok (file_of plan has)
    printed_reads = subst (λ t. assertion_file_of t ≡ Ok (file_of plan has)) (sym has.shown)
        (let (is, reads, accepted) = taken in reads)

    printed_accepted : IsAnswer budget ballots (file_of plan has) (Ok Accepted)
    printed_accepted = let (is, reads, accepted) = taken in accepted

-- ---- what was printed, by any search

-- the ballots that it read, with this name and of this contest, and the file that it printed for them, which reads back and is accepted
pub record WasPrinted (files : List File) (own : List ℕ) (contest : Option Id) (budget : Budget) (text : List ℕ) : Type 0 where
  pub bytes : List ℕ
  pub held : held_bytes own files ≡ Some bytes
  pub is_short : length bytes ≤ limit
  pub ballots : BallotFile
  pub read : ballots_of bytes contest ≡ Ok ballots
  pub file : Content
  pub reads : assertion_file_of text ≡ Ok file
  pub accepted : IsAnswer budget ballots file (Ok Accepted)

module _ {words : List (List ℕ)} (files : List File) (search : Asks Search words) (call : Call) (text : List ℕ) (has : HasPrinted words files call text) where
  abbrev was_printed : WasPrinted files search.task.ballots search.task.contest search.task.budget text
  was_printed =
      let found = found files search call text has in
      let limits = (are_checked words (Search search.task) search.asked).plan in
      record {
        bytes = found.bytes;
        held = found.held;
        is_short = found.is_short;
        ballots = found.ballots;
        read = found.read;
        file = file_of search.task.plan found.has;
        reads = printed_reads search.task.budget search.task.floor search.task.plan limits found.bytes search.task.contest found.ballots text found.read
            found.cards found.has;
        accepted = printed_accepted search.task.budget search.task.floor search.task.plan limits found.bytes search.task.contest found.ballots text found.read
            found.cards found.has;
      }

  -- the search asked for these ballots
  asks_for : AsksFor words files was_printed.ballots (found files search call text has).has.is.winner
  asks_for =
      let found = found files search call text has in
      record { search = search; bytes = found.bytes; held = found.held; accepted = found.read; cards = found.cards; won = found.has.is.won }

-- ---- a check

pub accepted_later : (others : List (List ℕ)) (own : List ℕ) (contest : Option Id) (budget : Budget) (check : ChecksTheSame contest budget others)
    (files more : List File) (second : Call) (text : List ℕ) → WasPrinted files own contest budget text →
    HoldsPrinted own files more text check.asks.task.ballots check.asks.task.assertions → IsSettled others more second → second.status ≡ 0
accepted_later others own contest budget check files more second text printed holds settled =
    let task = check.asks.task in
    let file = printed.file in
    let yes : Verdict = Answered Done (yes_text file) in
    let checks : Checks task.budget printed.ballots file yes =
    subst (λ budget. Checks budget printed.ballots file yes) (sym check.same_budget)
    ((accepted_is_yes budget printed.ballots file yes printed.accepted).1 refl) in
    let with_ballots : List ℕ → BallotFile → Script = λ bytes ballots. after_ballots task.assertions task.budget ballots in
    let after : May (AsHeld more) (after_ballots task.assertions task.budget printed.ballots) (outcome yes) =
    may_say more task.assertions (refused_assertions task.assertions) assertion_file_of (λ bytes file. Ends (Checks task.budget printed.ballots file)) text
    holds.printed holds.is_short file printed.reads (outcome yes) (yes, checks, refl) in
    let comes : MayCome (AsHeld more) (asked_by (Some (Check task))) (outcome yes) =
    may_say more task.ballots (refused_ballots task.ballots) (λ bytes. ballots_of bytes task.contest) with_ballots printed.bytes
    (holds.same_ballots ∙ printed.held) printed.is_short printed.ballots (ap (ballots_of printed.bytes) check.same_contest ∙ printed.read) (outcome yes) after in
    (ends_with others more (outcome yes) (subst (λ command. MayCome (AsHeld more) (asked_by command) (outcome yes)) (sym check.asks.asked) comes)
    (λ asks. absurd (not_spent others (Check task) check.asks.asked refl asks))).alone second settled

pub printed_is_accepted : PrintedIsAccepted
printed_is_accepted words others search check files more first second text printed holds settled =
    accepted_later others search.task.ballots search.task.contest search.task.budget check files more second text
    (was_printed files search first text printed) holds settled

-- ---- a session

-- the manifest has a card for each ballot
cards-ok : (name : List ℕ) (ballots : BallotFile) (manifest bytes : List ℕ) (batches : Batches) → manifest_of bytes ≡ Ok batches →
    first_without_card batches ballots ≡ None →
    cards_for name ballots manifest bytes ≡ Ok batches
cards-ok name ballots manifest bytes batches is placed =
    ap (λ read. then_judged (told (refused_manifest manifest) read)
    (λ batches. unless (option_map (no_card name) (first_without_card batches ballots)) (Ok batches))) is
    ∙ ap (λ without. unless (option_map (no_card name) without) (Ok batches)) placed

pub opened_later : (words others : List (List ℕ)) (own : List ℕ) (contest : Option Id) (budget : Budget) (opening : OpensTheSame contest budget others)
    (files more : List File) (second : Call) (text : List ℕ) (printed : WasPrinted files own contest budget text) →
    HoldsPrinted own files more text opening.asks.task.ballots opening.asks.task.assertions
    → (cards : HoldsCards words files more opening.asks.task.manifest) → first_without_card cards.batches printed.ballots ≡ None →
    IsSettled others more second → second.status ≡ 0
opened_later words others own contest budget opening files more second text printed holds cards placed settled =
    let task = opening.asks.task in
    let ballots = printed.ballots in
    let file = printed.file in
    let held = AsHeld more in
    let digests : Digests = opened.all_digests (record { ballots = sha256 printed.bytes; manifest = sha256 cards.bytes }) text in
    let session : Verdict = opened.opened task cards.batches file digests in
    let due = outcome session in
    let accepted : is_accepted task.budget ballots file ≡ true =
    ap (λ budget. is_accepted budget ballots file) opening.same_budget ∙ (decided budget ballots file).1 printed.accepted in
    let opens : opened.Opens task ballots cards.batches file digests session =
    subst (λ b. MatchBool b (session ≡ session) (Checks task.budget ballots file session)) (sym accepted) refl in
    let with_file : List ℕ → Content → Script = λ bytes file. Ends (opened.Opens task ballots cards.batches file (opened.all_digests (record { ballots = sha256 printed.bytes; manifest = sha256 cards.bytes }) bytes)) in
    let from_assertions : May held (opened.after_manifest task ballots cards.batches
    (record { ballots = sha256 printed.bytes; manifest = sha256 cards.bytes })) due =
    may_say more task.assertions (refused_assertions task.assertions) assertion_file_of with_file text holds.printed holds.is_short file printed.reads due
    (session, opens, refl) in
    let from_manifest : May held (opened.after_ballots task ballots (sha256 printed.bytes)) due = inr (
      cards.bytes,
      read_whole task.manifest more cards.bytes cards.held cards.is_short,
      going held (cards_for task.ballots ballots task.manifest cards.bytes) cards.batches
          (λ batches. opened.after_manifest task ballots batches (record { ballots = sha256 printed.bytes; manifest = sha256 cards.bytes })) due
          (cards-ok task.ballots ballots task.manifest cards.bytes cards.batches cards.accepted placed) from_assertions,
    ) in
    let with_ballots : List ℕ → BallotFile → Script = λ bytes ballots. opened.after_ballots task ballots (sha256 bytes) in
    let comes : MayCome held (asked_by (Some (Open task))) due =
    may_say more task.ballots (refused_ballots task.ballots) (λ bytes. ballots_of bytes task.contest) with_ballots printed.bytes
    (holds.same_ballots ∙ printed.held) printed.is_short ballots (ap (ballots_of printed.bytes) opening.same_contest ∙ printed.read) due from_manifest in
    (ends_with others more due (subst (λ command. MayCome held (asked_by command) due) (sym opening.asks.asked) comes)
    (λ asks. absurd (not_spent others (Open task) opening.asks.asked refl asks))).alone second settled

pub printed_is_opened : PrintedIsOpened
printed_is_opened words others search opening files more first second text printed holds cards settled =
    let was = was_printed files search first text printed in
    let winner = (found files search first text printed).has.is.winner in
    opened_later words others search.task.ballots search.task.contest search.task.budget opening files more second text was holds cards
    (cards.placed was.ballots winner (inl (asks_for files search first text printed))) settled
