-- Status 0 of a search for the fewest NENs comes with a file that confirms the winner with the fewest NENs, and status 5 with a reason for
-- a full count. Within its budget the search ends in one of these two ways.
use Rattle.std.proofs.Common.{◌≡◌, ◌⊎◌, inl, inr, ℕ, ◌<◌, ◌≤◌, ◌-◌, ◌^◌, ◌&&◌, ◌==◌, true, false, if◌then◌else◌, nat_le, length, map, List, [], None, Some, Ok, All, Contains, refl, sym, ap, ap₂, subst, arith, eq-eqb, eqb-true, le-leb, ◌∙◌}
use Rattle.std.specs.Prelude.{unwrap_or, IsSomeAnd}
use Rattle.std.specs.List.{list_any}
use Rattle.std.proofs.lemmas.Bool.{and_parts, and_from, false_from_ne_true}
use Rattle.std.proofs.lemmas.List.Elements.{All-contains}
use Rattle.desk.specs.Desk.{File, held_bytes}
use Rattle.irv_base.proofs.Members.{Member, contains-from_member, list_all-each, list_any-member, member-from_contains, member-map}
use Rattle.assertions.specs.declared.assertion.Assertion.{Assertion}
use Rattle.assertions.specs.declared.assertion.Claim.{Claim}
use Rattle.assertions.specs.Assertions.{is_proper, is_true, true_margin}
use Rattle.assertions.specs.Refutation.{refutes}
use Rattle.assertions.specs.Suffixes.{alternative_orders}
use Rattle.assertions.proofs.Elections.{from_covers}
use Rattle.assertions.proofs.Endings.{alternative-member, from_alternative}
use Rattle.fewest.specs.Nens.{is_enough}
use Rattle.ballots.specs.Ballots.{BallotFile}
use Rattle.ballots.specs.Grammar.{ballots_of}
use Rattle.assertion_file.specs.Content.{Content}
use Rattle.assertion_file.specs.Text.{assertion_file_text}
use Rattle.cover_checker.proofs.Held.{all-from_members, refuting_claim}
use Rattle.trimmer.specs.Laws.{IsIrredundant}
use Rattle.fewest_search.proofs.Findings.{each-enough}
use Rattle.fewest_search.specs.Gap.{least_margin}
use Rattle.fewest_search.proofs.Needs.{all_are_needed, least-kept, none-above_best}
use Rattle.report.specs.Texts.{order_text}
use Rattle.cli_base.specs.Outcome.{Outcome, Verdict, Answered, outcome}
use Rattle.cli_base.specs.Script.{Script, Ends, AsHeld, ComesTo, May, MayCome}
use Rattle.cli_base.specs.declared.outcome.AnswerKind.{AnswerKind}
use Rattle.cli_base.specs.declared.outcome.AnswerKind.TheVariants.{Done, FullCount}
use Rattle.cli_base.proofs.Statuses.{status_in}
use Rattle.command.specs.declared.search_fewest.SearchFewestTask.{SearchFewestTask}
use Rattle.command_line.specs.declared.commands.Command.TheVariants.{SearchFewest}
use Rattle.input_files.specs.Refusals.{refused_ballots}
use Rattle.contest_search.specs.Certificate.{certificate_of, margin_of}
use Rattle.contest_search.specs.Contest.{candidate_count}
use Rattle.contest_search.specs.Fewest.{IsFewestFoundIn, fewest_sets_of, with_own_margin}
use Rattle.contest_search.proofs.Contests.{winner-below, winner-one}
use Rattle.contest_search.proofs.OwnMargin.{own, own-reached, own-smallest}
use Rattle.contest_search.proofs.ReadBallots.{ballots_fit}
use Rattle.search_commands.specs.Search.{full_count_lines, has_cards, printed}
use Rattle.search_commands.specs.SearchFewest.{Finds, HasFewest, HasFullCount, Searches}
use Rattle.search_commands.proofs.Fewest.{done_is, found_by, full_count_is, searched_finds}
use Rattle.search_commands.proofs.Ties.{never_both}
use Rattle.raire_cli.specs.Asks.{Asks}
use Rattle.raire_cli.specs.Answers.{asked, asked_by}
use Rattle.raire_cli.specs.Confirmation.{ClaimHolds, IsHardest, IsLeast}
use Rattle.raire_cli.specs.Fewest.{AreTrueBy, ConfirmsBelow, ConfirmsFewest, GivesFewestReason, HasFewestNens, IsBestMargin, IsFewestSearchable, RuleOut}
use Rattle.raire_cli.proofs.Confirmed.{certificate-confirms, confirms-least, hardest_order}
use Rattle.raire_cli.proofs.Said.{IsSaid, said, says}

abbrev assertion-of : Claim → Assertion
assertion-of claim = claim.assertion

-- ---- the file

module _ (ballots : BallotFile) (sets gap : ℕ) (file : Content) (two : 1 < candidate_count ballots) (found : IsFewestFoundIn sets gap ballots file) where
  abbrev n : ℕ
  n = candidate_count ballots

  abbrev records : List (List ℕ)
  records = ballots.rankings

  abbrev pub best : ℕ
  best = margin_of ballots found.winner

  abbrev floor : ℕ
  floor = least_margin gap best

  abbrev printed-file : Content
  printed-file = with_own_margin file

  abbrev list : List Assertion
  list = map assertion-of file.claims

  abbrev below : found.winner < n
  below = winner-below ballots found.winner found.won

  pub margin-is : file.margin ≡ best
  margin-is = ap (λ (f : Content). f.margin) found.is

  claim-holds : (claim : Claim) → Member claim file.claims → ClaimHolds n records claim
  claim-holds claim m =
      let a = claim.assertion in
      let enough = each-enough n found.winner records floor list found.claims.fewest a (member-map assertion-of m) in
      let (proper, rest) = and_parts (is_proper n a) (is_true records a && nat_le floor (true_margin records a)) enough in
      let (holds, _) = and_parts (is_true records a) (nat_le floor (true_margin records a)) rest in
      record {
        proper = proper;
        holds = holds;
        margin = All-contains (λ (claim : Claim). claim.margin ≡ true_margin records claim.assertion) file.claims claim found.claims.measured
            (contains-from_member m);
      }

  abbrev some-claim : (claim : Claim) × Contains file.claims claim × (claim.margin ≤ best)
  some-claim = none-above_best n found.winner sets floor records file.claims below two found.claims

  pub hardest : IsHardest n records found.winner found.order best
  hardest = hardest_order n records found.winner found.order best below two refl found.hardest

  -- the best margin is that of the certificate
  pub is-best : IsBestMargin n records found.winner best
  is-best =
      let certificate = certificate_of ballots found.winner found.order in
      let confirms = certificate-confirms ballots certificate two
      (record { winner = found.winner; won = found.won; decided = found.decided; order = found.order; least = found.hardest; is = refl }) in
      record { least = confirms-least n records found.winner certificate confirms; order = found.order; hardest = hardest }

  pub not-above : own file.claims ≤ best
  not-above =
      let (claim, k, le) = some-claim in
      let ge = All-contains (λ (claim : Claim). own file.claims ≤ claim.margin) file.claims claim (own-smallest file.claims) k in
      omega (arith, le, ge)

  at-best : own file.claims ≡ best → IsSomeAnd printed-file.order (λ order. IsHardest n records found.winner order (own file.claims))
  at-best same =
      let is : (own file.claims == file.margin) ≡ true = eq-eqb (own file.claims) file.margin (same ∙ sym margin-is) in
      let order : printed-file.order ≡ Some found.order =
      ap (λ b. if b then file.order else None) is ∙ ap (λ (f : Content). f.order) found.is in
      subst (λ order. IsSomeAnd order (λ order. IsHardest n records found.winner order (own file.claims))) (sym order)
      (subst (IsHardest n records found.winner found.order) (sym same) hardest)

  below-best : own file.claims < best → printed-file.order ≡ None
  below-best l =
      let is : (own file.claims == file.margin) ≡ false =
      false_from_ne_true (own file.claims == file.margin) (λ t. let e = eqb-true (own file.claims) file.margin t in omega (arith, e, l, margin-is)) in
      ap (λ b. if b then file.order else None) is

  pub confirms : ConfirmsBelow n records found.winner best printed-file
  confirms = record {
    hold = all-from_members (ClaimHolds n records) file.claims claim-holds;
    cover = λ order (whole, (c, ne, elects)).
        let (a, m, r) = from_covers n found.winner list order found.claims.fewest.complete.covering
        (alternative-member n found.winner c order whole ne elects) in
        refuting_claim file.claims order a m r;
    reached = own-reached file.claims some-claim.0 some-claim.1;
    smallest = own-smallest file.claims;
    not_above = not-above;
    at_best = at-best;
    below_best = below-best;
  }

  pub least-kept_by : least_margin gap best ≤ own file.claims
  least-kept_by =
      let (claim, k, e) = own-reached file.claims some-claim.0 some-claim.1 in
      let ge = All-contains (λ (claim : Claim). floor ≤ claim.margin) file.claims claim
      (least-kept n found.winner sets floor records file.claims below two found.claims) k in
      omega (arith, e, ge)

  pub fewest : HasFewestNens n records found.winner floor printed-file
  fewest others are out = found.claims.fewest.least others (record {
    enough = list_all-each (is_enough n records floor) others (λ a m.
        let (proper, holds, reaches) = All-contains (λ a. (is_proper n a ≡ true) × (is_true records a ≡ true) × (floor ≤ true_margin records a))
        others a are (contains-from_member m) in
        and_from (is_proper n a) (is_true records a && nat_le floor (true_margin records a)) proper
        (and_from (is_true records a) (nat_le floor (true_margin records a)) holds (le-leb floor (true_margin records a) reaches)));
    covering = list_all-each (λ order. list_any (λ a. refutes a order) others) (alternative_orders n found.winner) (λ order m.
        let (a, among, r) = out order (from_alternative n found.winner order m) in
        list_any-member (λ a. refutes a order) (member-from_contains a others among) r);
  })

  pub needed : 2 ^ n - 3 ≤ sets → IsIrredundant printed-file
  needed all before claim behind is =
      let (order, alternative, stands) = all_are_needed n found.winner sets floor records file.claims before claim behind below two all found.claims is in
      let names : length file.candidates ≡ n = ap (λ (f : Content). length f.candidates) found.is in
      let who : file.winner ≡ found.winner = ap (λ (f : Content). f.winner) found.is in
      (order, rw (names, who) alternative, stands)

-- ---- the call

module _ (words : List (List ℕ)) (files : List File) (asks : Asks SearchFewest words) where
  -- how a search continues with its ballots
  abbrev pub searching_fewest : List ℕ → BallotFile → Script
  searching_fewest bytes ballots = Ends (Searches asks.task ballots)

  -- what a search comes to is found in the ballots that it reads
  search_came : (kind : AnswerKind) (text : List ℕ) → ComesTo (AsHeld files) (asked words) (Answered kind text) →
      IsSaid files asks.task.ballots (λ bytes. ballots_of bytes asks.task.contest) searching_fewest kind text
  search_came kind text comes =
      said files asks.task.ballots (refused_ballots asks.task.ballots) (λ bytes. ballots_of bytes asks.task.contest) searching_fewest kind text (λ why. tt)
      (subst (λ command. ComesTo (AsHeld files) (asked_by command) (Answered kind text)) asks.asked comes)

  confirmed : (bytes : List ℕ) (ballots : BallotFile) (text : List ℕ) → held_bytes asks.task.ballots files ≡ Some bytes →
      ballots_of bytes asks.task.contest ≡ Ok ballots → has_cards asks.task.plan ballots ≡ true →
      HasFewest asks.task.sets asks.task.gap asks.task.floor asks.task.plan ballots text →
      (file : Content) × ConfirmsFewest words files file × (text ≡ assertion_file_text file)
  confirmed bytes ballots text held is cards has =
      let sets = asks.task.sets in
      let gap = asks.task.gap in
      let two = (ballots_fit bytes asks.task.contest ballots is).fewest in
      let by = confirms ballots sets gap has.file two has.is in (
        printed asks.task.plan (with_own_margin has.file),
        record {
          ballots = ballots;
          winner = has.is.winner;
          asks = record { search = asks; bytes = bytes; held = held; accepted = is; cards = cards; won = has.is.won };
          elected = has.is.decided;
          contest = ap (λ (f : Content). f.contest) has.is.is;
          candidates = ap (λ (f : Content). f.candidates) has.is.is;
          records = ap (λ (f : Content). f.records) has.is.is;
          named = ap (λ (f : Content). f.winner) has.is.is;
          best = margin_of ballots has.is.winner;
          is_best = is-best ballots sets gap has.file two has.is;
          floor = subst (λ margin. asks.task.floor ≤ margin) (margin-is ballots sets gap has.file two has.is) has.floor;
          confirms = record {
            hold = by.hold;
            cover = by.cover;
            reached = by.reached;
            smallest = by.smallest;
            not_above = by.not_above;
            at_best = by.at_best;
            below_best = by.below_best;
          };
          least = least-kept_by ballots sets gap has.file two has.is;
          fewest = fewest ballots sets gap has.file two has.is;
          needed = needed ballots sets gap has.file two has.is;
          plan = refl;
        },
        has.shown,
      )

  reasoned : (bytes : List ℕ) (ballots : BallotFile) (text : List ℕ) → held_bytes asks.task.ballots files ≡ Some bytes →
      ballots_of bytes asks.task.contest ≡ Ok ballots → has_cards asks.task.plan ballots ≡ true →
      HasFullCount asks.task.sets asks.task.gap asks.task.floor ballots text → GivesFewestReason words files text
  reasoned bytes ballots text held is cards has =
      let two = (ballots_fit bytes asks.task.contest ballots is).fewest in
      let same = margin-is ballots asks.task.sets asks.task.gap has.file two has.is in
      let best = is-best ballots asks.task.sets asks.task.gap has.file two has.is in
      record {
        ballots = ballots;
        winner = has.is.winner;
        asks = record { search = asks; bytes = bytes; held = held; accepted = is; cards = cards; won = has.is.won };
        elected = has.is.decided;
        order = has.is.order;
        margin = has.file.margin;
        below = has.floor;
        reason = subst (IsHardest (candidate_count ballots) ballots.rankings has.is.winner has.is.order) (sym same)
            (hardest ballots asks.task.sets asks.task.gap has.file two has.is);
        least = subst (IsLeast (candidate_count ballots) ballots.rankings has.is.winner) (sym same) best.least;
        shown = has.shown ∙ ap₂ (λ names order. full_count_lines (order_text names (unwrap_or order [])) has.file.margin asks.task.floor)
            (ap (λ (f : Content). f.candidates) has.is.is) (ap (λ (f : Content). f.order) has.is.is);
      }

  pub confirms_fewest : (text : List ℕ) → ComesTo (AsHeld files) (asked words) (Answered Done text) →
      (file : Content) × ConfirmsFewest words files file × (text ≡ assertion_file_text file)
  confirms_fewest text comes =
      let came = search_came Done text comes in
      let (cards, finds) = found_by asks.task came.value Done text came.rest in
      confirmed came.bytes came.value text came.held came.is cards (done_is asks.task.sets asks.task.gap asks.task.floor asks.task.plan came.value text finds)

  pub gives_fewest_reason : (text : List ℕ) → ComesTo (AsHeld files) (asked words) (Answered FullCount text) → GivesFewestReason words files text
  gives_fewest_reason text comes =
      let came = search_came FullCount text comes in
      let (cards, finds) = found_by asks.task came.value FullCount text came.rest in
      reasoned came.bytes came.value text came.held came.is cards (full_count_is asks.task.sets asks.task.gap asks.task.floor asks.task.plan came.value text finds)

-- ---- within its budget

module _ (words : List (List ℕ)) (files : List File) (ok : IsFewestSearchable words files) where
  abbrev task : SearchFewestTask
  task = ok.asks.search.task

  answers : (v : Verdict) (d : Outcome) → Finds task.sets task.gap task.floor task.plan ok.ballots v → d ≡ outcome v → (d.status ≡ 0) ⊎ (d.status ≡ 5)
  answers v d (inl (text, has, e)) is = inl (ap status_in (is ∙ ap outcome e))
  answers v d (inr (inl (text, (tie, told), e))) is = absurd (never_both ok.ballots ok.winner text ok.decided tie)
  answers v d (inr (inr (inl (text, spent, e)))) is =
      let its = spent.is in
      let above = its.above in
      let budget = ok.budget in
      let same = ap (fewest_sets_of ok.ballots) (winner-one ok.ballots its.winner ok.winner its.won ok.asks.won) in
      absurd (omega (arith, above, budget, same))
  answers v d (inr (inr (inr (text, has, e)))) is = inr (ap status_in (is ∙ ap outcome e))

  -- what a search like this may come to
  pub fewest_ends : (d : Outcome) → MayCome (AsHeld files) (asked words) d → (d.status ≡ 0) ⊎ (d.status ≡ 5)
  fewest_ends d may =
      let (v, searches, is) = says files task.ballots (refused_ballots task.ballots) (λ bytes. ballots_of bytes task.contest)
      (searching_fewest words files ok.asks.search) ok.asks.bytes ok.asks.held ok.is_short ok.ballots ok.asks.accepted d
      (subst (λ command. MayCome (AsHeld files) (asked_by command) d) ok.asks.search.asked may) in
      answers v d (searched_finds task ok.ballots v ok.asks.cards searches) is
