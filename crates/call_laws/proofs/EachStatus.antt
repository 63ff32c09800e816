-- Words and files for each status.
use lib.Seq.{drop-nil}
use Rattle.std.proofs.Common.{◌≡◌, ◌≢◌, inl, inr, ℕ, zero, suc, ◌<◌, if◌then◌else◌, List, [], ◌∷◌, length, replicate, None, Some, Ok, Err, codes, refl, sym, ap, subst, arith}
use Rattle.std.proofs.lemmas.Bool.Decides.{leb_tells}
use Rattle.std.proofs.lemmas.List.{length-replicate}
use Rattle.csv.specs.Machine.{next_record}
use Rattle.csv.specs.Reading.{records_from, strip_bom}
use Rattle.desk.specs.Desk.{File}
use Rattle.irv_base.proofs.Decided.{no_tie_is_decided, tie_for_the_win}
use Rattle.irv_base.specs.Tabulation.{is_tied, HasNoTie}
use Rattle.std.proofs.lemmas.List.Elements.{All-nil}
use Rattle.std.specs.Fmt.{digits}
use Rattle.serde_json.proofs.OnLiterals.{serde_json_on_literals}
use Rattle.assertion_file.specs.Content.{Content, IsSound, IsSoundClaim}
use Rattle.assertion_file.specs.Ids.{id_of}
use Rattle.assertion_file.specs.Reading.{assertion_file_of}
use Rattle.assertion_file.specs.Text.{assertion_file_text, file_value}
use Rattle.assertion_file.proofs.Printed.{printed_reads_back}
use Rattle.ballots.specs.Ballots.{BallotFile}
use Rattle.ballots.specs.Grammar.{ballots_of}
use Rattle.ballots.specs.declared.fault.BRule.TheVariants.{B1}
use Rattle.cli_base.specs.Outcome.{Verdict, Answered, outcome, bad_words, no_such_file, too_long}
use Rattle.cli_base.specs.Script.{Ends, Bytes, Missing, TooLong, AsHeld, May, MayCome, limit, reading_of}
use Rattle.cli_base.specs.declared.outcome.AnswerKind.TheVariants.{Done, Tie, Spent, FullCount}
use Rattle.command_line.specs.Line.{command_of}
use Rattle.budget.specs.declared.budget.Budget.TheVariants.{Nodes}
use Rattle.budget.specs.declared.limits.TheConstants.{DEFAULT_NODES}
use Rattle.command.specs.declared.limits.TheConstants.{DEFAULT_WORKERS}
use Rattle.cover_checker.specs.Checks.{IsAnswer, checked_is}
use Rattle.cover_checker.specs.Findings.{Answer}
use Rattle.cover_checker.specs.Outcomes.{IsWinner}
use Rattle.cover_checker.specs.declared.checked.Checked.TheVariants.{Stands}
use Rattle.cover_checker.specs.declared.checked.CheckFault.TheVariants.{Spent as SpentAt}
use Rattle.command_line.specs.declared.commands.Command.TheVariants.{Check}
use Rattle.command.specs.declared.check.CheckTask.{CheckTask}
use Rattle.command.specs.declared.search.SearchTask.{SearchTask}
use Rattle.contest_search.specs.Certificate.{certificate_of, margin_of}
use Rattle.contest_search.specs.Contest.{IsElected, IsWon}
use Rattle.input_files.specs.Judged.{told, go_on}
use Rattle.input_files.specs.Refusals.{refused_assertions, refused_ballots}
use Rattle.search_commands.specs.Ends.{HasTie}
use Rattle.search_commands.specs.Search.{Finds, Searches, HasFullCount, full_count_text}
use Rattle.search_commands.specs.Tabulate.{HasRounds, Tabulates}
use Rattle.check_command.specs.Check.{Checks, after_ballots, differs, stands, verdict_on}
use Rattle.report.specs.Ends.{spent_at, tie_text}
use Rattle.report.specs.Tabulations.{tabulation_text}
use Rattle.report.specs.Texts.{order_text}
use Rattle.raire_cli.specs.Answers.{asked_by}
use Rattle.call_laws.specs.EachStatus.{EndsWith, IsOfSome, EachStatus}
use Rattle.call_laws.proofs.Agreement.{not_spent}
use Rattle.call_laws.proofs.Ended.{ends_with}
use Rattle.raire_cli.proofs.Said.{going}
use Rattle.call_laws.proofs.Nodes.{default_suffices}
use Rattle.call_laws.proofs.Unconfirmed.{unconfirmed_end}

-- ---- one file

abbrev f : List ℕ
f = codes "f"

abbrev one_file : List ℕ → List File
one_file bytes = record { name = f; bytes = bytes } ∷ []

abbrev tabulate_words : List (List ℕ)
tabulate_words = codes "tabulate" ∷ f ∷ []

bad_words_end : IsOfSome 1
bad_words_end = ([], [], ends_with [] [] bad_words refl (λ asks. let is = asks.asked_for in absurd (cc is)))

missing_end : IsOfSome 12
missing_end = (tabulate_words, [], ends_with tabulate_words [] (no_such_file f) (inl (Missing, refl, refl)) (λ asks. λ four. absurd (cc four)))

-- ---- a file that is too long

long_reading : (bytes : List ℕ) → limit < length bytes → TooLong ≡ reading_of (Some bytes)
long_reading bytes long = elim (leb_tells (length bytes) limit) [
  | inl (test, le) ↦ absurd (omega (arith, le, long))
  | inr (test, lt) ↦ sym (ap (λ b. if b then Bytes bytes else TooLong) test)
]

too_long_ends : (bytes : List ℕ) → limit < length bytes → EndsWith 11 tabulate_words (one_file bytes)
too_long_ends bytes long =
    ends_with tabulate_words (one_file bytes) (too_long f) (inl (TooLong, long_reading bytes long, refl)) (λ asks. λ four. absurd (cc four))

-- kept folded, since it is long
unfoldable longer : (n : ℕ) → (bytes : List ℕ) × (n < length bytes)
longer n = let is = length-replicate {A = ℕ} (suc n) 0 in (replicate (suc n) 0, omega (arith, is))

too_long_end : IsOfSome 11
too_long_end = let (bytes, long) = longer limit in (tabulate_words, one_file bytes, too_long_ends bytes long)

-- ---- a tabulation

tabulated_end : (bytes : List ℕ) (ballots : BallotFile) (v : Verdict) → Bytes bytes ≡ reading_of (Some bytes) → ballots_of bytes None ≡ Ok ballots →
    Tabulates DEFAULT_NODES ballots v → (outcome v).status ≢ 4 → EndsWith (outcome v).status tabulate_words (one_file bytes)
tabulated_end bytes ballots v short read tabulates unspent =
    ends_with tabulate_words (one_file bytes) (outcome v) (inr (bytes, short, ends)) (λ asks. unspent)
  where
    ends : May (AsHeld (one_file bytes)) (go_on (told (refused_ballots f) (ballots_of bytes None)) (λ ballots. Ends (Tabulates DEFAULT_NODES ballots))) (outcome v)
    ends = going (AsHeld (one_file bytes)) (told (refused_ballots f) (ballots_of bytes None)) ballots (λ ballots. Ends (Tabulates DEFAULT_NODES ballots))
        (outcome v) (ap (told (refused_ballots f)) read) (v, tabulates, refl)

nothing_read : ballots_of [] None ≡ Err (record { rule = B1; at = 1 })
unfolding strip_bom records_from next_record
nothing_read = refl

refused_end : IsOfSome 2
refused_end =
    let verdict : Verdict = refused_ballots f (record { rule = B1; at = 1 }) in
    let reads : May (AsHeld (one_file [])) (go_on (told (refused_ballots f) (ballots_of [] None)) (λ ballots. Ends (Tabulates DEFAULT_NODES ballots)))
    (outcome verdict) =
    subst (λ r. May (AsHeld (one_file [])) (go_on (told (refused_ballots f) r) (λ ballots. Ends (Tabulates DEFAULT_NODES ballots))) (outcome verdict))
    (sym nothing_read) (verdict, refl, refl) in (
      tabulate_words,
      one_file [],
      ends_with tabulate_words (one_file []) (outcome verdict) (inr ([], refl, reads)) (λ asks. λ four. absurd (cc four)),
    )

-- two candidates, and one ballot or none

abbrev head : List ℕ
head = codes "1\nContest,1,2,a,b\n"

abbrev two : List (List ℕ) → List (List ℕ) → List ℕ → BallotFile
two ids rankings places = record { contest = codes "1"; candidates = codes "a" ∷ codes "b" ∷ []; ids = ids; places = places; rankings = rankings }

abbrev none : BallotFile
none = two [] [] []

abbrev one : BallotFile
one = two (codes "c" ∷ []) ((0 ∷ []) ∷ []) (3 ∷ [])

tie_of_none : HasTie none (tie_text none.candidates 1 3 0)
tie_of_none = record {
  round = 1;
  tied = 3;
  votes = 0;
  is = record {
    counted = omega arith;
    first = record {
      order = 0 ∷ 1 ∷ [];
      permutation = refl;
      tabulated = refl;
      shared = refl;
      first = λ k before. absurd (omega (arith, before));
      who = refl;
      with = refl;
    };
    undecided = tie_for_the_win 2 0 1 [] [] refl refl refl;
  };
  shown = refl;
}

none_read : ballots_of head None ≡ Ok none
unfolding strip_bom records_from next_record
none_read = refl

tie_end : IsOfSome 3
tie_end =
    let text = tie_text none.candidates 1 3 0 in
    let tabulates : Tabulates DEFAULT_NODES none (Answered Tie text) = inr (inl (text, tie_of_none, refl)) in (
      tabulate_words,
      one_file head,
      tabulated_end head none (Answered Tie text) refl none_read tabulates (λ four. absurd (cc four)),
    )

abbrev one_bytes : List ℕ
one_bytes = codes "1\nContest,1,2,a,b\n1,c,a\n"

one_read : ballots_of one_bytes None ≡ Ok one
unfolding strip_bom records_from next_record
one_read = refl

abbrev won_of_one : IsWon one 0
won_of_one = record { order = 1 ∷ 0 ∷ []; permutation = refl; tabulated = refl; elects = (1 ∷ [], refl) }

no_tie_of_one : HasNoTie one.rankings (1 ∷ 0 ∷ [])
no_tie_of_one zero = refl
no_tie_of_one (suc zero) = refl
no_tie_of_one (suc (suc k)) = ap (is_tied one.rankings) (drop-nil k)

elected_of_one : IsElected one 0
elected_of_one = no_tie_is_decided 2 0 one.rankings (1 ∷ 0 ∷ []) refl refl (1 ∷ [], refl) no_tie_of_one

done_end : IsOfSome 0
done_end =
    let text = tabulation_text one (1 ∷ 0 ∷ []) 0 in
    let rounds : HasRounds one text = record { winner = 0; won = won_of_one; decided = elected_of_one; shown = refl } in
    let tabulates : Tabulates DEFAULT_NODES one (Answered Done text) = inl (text, rounds, refl) in (
      tabulate_words,
      one_file one_bytes,
      tabulated_end one_bytes one (Answered Done text) refl one_read tabulates (λ four. absurd (cc four)),
    )

-- ---- a full count

abbrev search_words : List (List ℕ)
search_words = codes "search" ∷ f ∷ codes "--floor" ∷ codes "2" ∷ []

abbrev certificate : Content
certificate = certificate_of one 0 (0 ∷ 1 ∷ [])

margin_is_one : margin_of one 0 ≡ 1
margin_is_one = refl

full_count : HasFullCount (Nodes DEFAULT_NODES) 2 one (full_count_text certificate 2)
full_count = record {
  file = certificate;
  is = record { winner = 0; won = won_of_one; decided = elected_of_one; order = 0 ∷ 1 ∷ []; least = refl; is = refl };
  within = λ c other. let few = default_suffices one [] 0 c other (omega arith) in omega (arith, few);
  floor = let is = margin_is_one in omega (arith, is);
  shown = refl;
}

full_count_end : IsOfSome 5
full_count_end =
    let task : SearchTask =
    record { ballots = f; contest = None; workers = DEFAULT_WORKERS; budget = Nodes DEFAULT_NODES; floor = 2; plan = None } in
    let verdict : Verdict = Answered FullCount (full_count_text certificate 2) in
    let finds : Finds (Nodes DEFAULT_NODES) 2 None one verdict = inr (inr (inr (full_count_text certificate 2, full_count, refl))) in
    let ends : May (AsHeld (one_file one_bytes)) (go_on (told (refused_ballots f) (ballots_of one_bytes None)) (λ ballots. Ends (Searches task ballots)))
    (outcome verdict) =
    going (AsHeld (one_file one_bytes)) (told (refused_ballots f) (ballots_of one_bytes None)) one (λ ballots. Ends (Searches task ballots))
    (outcome verdict) (ap (told (refused_ballots f)) one_read) (verdict, finds, refl) in (
      search_words,
      one_file one_bytes,
      ends_with search_words (one_file one_bytes) (outcome verdict) (inr (one_bytes, refl, ends)) (λ asks. λ four. absurd (cc four)),
    )

-- ---- a check of a file without assertions

abbrev g : List ℕ
g = codes "g"

abbrev check_words : List ℕ → List (List ℕ)
check_words nodes = codes "check" ∷ f ∷ g ∷ codes "--nodes" ∷ nodes ∷ []

abbrev three_bytes : List ℕ
three_bytes = codes "1\nContest,1,3,a,b,c\n1,x,a\n1,y,a\n1,z,b\n"

abbrev three : BallotFile
three = record {
  contest = codes "1";
  candidates = codes "a" ∷ codes "b" ∷ codes "c" ∷ [];
  ids = codes "x" ∷ codes "y" ∷ codes "z" ∷ [];
  places = 3 ∷ 4 ∷ 5 ∷ [];
  rankings = (0 ∷ []) ∷ (0 ∷ []) ∷ (1 ∷ []) ∷ [];
}

three_read : ballots_of three_bytes None ≡ Ok three
unfolding strip_bom records_from next_record
three_read = refl

abbrev empty : Content
empty = record { contest = three.contest; candidates = three.candidates; records = 3; winner = 0; margin = 1; order = Some (2 ∷ 0 ∷ 1 ∷ []); claims = []; plan = None }

abbrev empty_bytes : List ℕ
empty_bytes = codes "{\"assertions\":[],\"candidates\":[\"a\",\"b\",\"c\"],\"contest\":\"1\",\"margin\":1,\"order\":[\"c\",\"a\",\"b\"],\"records\":3,\"version\":1,\"winner\":\"a\"}\n"

empty_text : assertion_file_text empty ≡ empty_bytes
unfolding file_value digits serde_json_on_literals
empty_text = refl

empty_is_sound : IsSound empty
empty_is_sound = record {
  fewest = omega arith;
  most = omega arith;
  differ = refl;
  some_records = omega arith;
  most_records = omega arith;
  winner = omega arith;
  order = refl;
  margin = record { some = omega arith; most = omega arith };
  claims = All-nil (IsSoundClaim 3 3);
  plan = tt;
}

read_empty : assertion_file_of empty_bytes ≡ Ok empty
read_empty =
    subst (λ bytes. assertion_file_of bytes ≡ Ok empty) empty_text (printed_reads_back empty empty_is_sound (record { contest = refl; candidates = refl }))

abbrev two_files : List File
two_files = record { name = f; bytes = three_bytes } ∷ record { name = g; bytes = empty_bytes } ∷ []

won_of_three : IsWinner 3 three.rankings 0
won_of_three = record { order = 2 ∷ 1 ∷ 0 ∷ []; permutation = refl; tabulated = refl; elects = (2 ∷ 1 ∷ [], refl) }

checked_end : (words : List (List ℕ)) (nodes : ℕ) (answer : Answer) (v : Verdict) →
    command_of words ≡ Some (Check (record { ballots = f; assertions = g; contest = None; budget = Nodes nodes })) →
    checked_is (Nodes nodes) three.rankings empty 0 ≡ answer →
    verdict_on empty answer ≡ Some v → EndsWith (outcome v).status words two_files
checked_end words nodes answer v is found told_is =
    ends_with words two_files (outcome v) (subst (λ command. MayCome (AsHeld two_files) (asked_by command) (outcome v)) (sym is) comes)
    (λ asks. absurd (not_spent words (Check task) is refl asks))
  where
    task : CheckTask
    task = record { ballots = f; assertions = g; contest = None; budget = Nodes nodes }

    judges : IsAnswer (Nodes nodes) three empty answer
    judges = record { winner = 0; tabulated = won_of_three; answer_is = found }

    after : May (AsHeld two_files) (after_ballots g (Nodes nodes) three) (outcome v)
    after = inr (
      empty_bytes,
      refl,
      going (AsHeld two_files) (told (refused_assertions g) (assertion_file_of empty_bytes)) empty (λ file. Ends (Checks (Nodes nodes) three file)) (outcome v)
          (ap (told (refused_assertions g)) read_empty) (v, (answer, judges, told_is), refl),
    )

    comes : MayCome (AsHeld two_files) (asked_by (Some (Check task))) (outcome v)
    comes = inr (
      three_bytes,
      refl,
      going (AsHeld two_files) (told (refused_ballots f) (ballots_of three_bytes None)) three (λ ballots. after_ballots g (Nodes nodes) ballots) (outcome v)
          (ap (told (refused_ballots f)) three_read) after,
    )

spent_end : IsOfSome 4
spent_end = (
  check_words (codes "1"),
  two_files,
  checked_end (check_words (codes "1")) 1 (Err (SpentAt 1))
      (Answered Spent (spent_at (id_of empty.candidates 1))) refl refl refl,
)

differs_end : IsOfSome 6
differs_end = (
  check_words (codes "2"),
  two_files,
  checked_end (check_words (codes "2")) 2 (Ok (Stands (2 ∷ 0 ∷ 1 ∷ [])))
      (differs (stands (order_text empty.candidates (2 ∷ 0 ∷ 1 ∷ [])))) refl refl refl,
)

-- ---- all

pub each_status : EachStatus
each_status = record {
  done = done_end;
  bad_words = bad_words_end;
  refused = refused_end;
  tie = tie_end;
  spent = spent_end;
  full_count = full_count_end;
  differs = differs_end;
  unconfirmed = unconfirmed_end;
  too_long = too_long_end;
  missing = missing_end;
}
