-- A session of one card that continues by one draw, and isn't signed off yet.
use Rattle.std.proofs.Common.{◌≡◌, inl, inr, ℕ, ◌<◌, ◌≤◌, nat_le, true, List, [], ◌∷◌, get_or, length, None, Some, Ok, codes, All, refl, sym, subst, arith}
use Rattle.std.proofs.lemmas.Bool.Decides.{leb_tells}
use Rattle.std.proofs.lemmas.List.Elements.{All-cons, All-nil}
use Rattle.std.proofs.lemmas.List.Sums.{AllPass-from_list_all}
use Rattle.std.specs.Fmt.{digits}
use Rattle.std.specs.List.{list_all}
use Rattle.csv.specs.Machine.{next_record}
use Rattle.csv.specs.Reading.{records_from, strip_bom}
use Rattle.hex.specs.Hex.{encode_with}
use Rattle.serde_json.proofs.OnLiterals.{serde_json_on_literals}
use Rattle.sha2.specs.Sha256.{compress, digest_bytes, first_words, hash_after, rounds, schedule, sha256}
use Rattle.desk.specs.Desk.{File}
use Rattle.irv_base.specs.declared.limits.TheConstants.{MOST_DRAWS}
use Rattle.assertions.specs.declared.assertion.Assertion.TheVariants.{Neb}
use Rattle.assertions.specs.declared.assertion.Claim.{Claim}
use Rattle.assertion_file.specs.Content.{Content as FileContent, IsMargin, IsSound as IsSoundFile, IsSoundClaim, margins_of}
use Rattle.assertion_file.specs.Reading.{assertion_file_of}
use Rattle.assertion_file.specs.Text.{assertion_file_text, file_value}
use Rattle.assertion_file.proofs.Printed.{printed_reads_back}
use Rattle.ballots.specs.Ballots.{BallotFile}
use Rattle.ballots.specs.Grammar.{ballots_of}
use Rattle.manifest.specs.Cards.{Batches, cards_of}
use Rattle.manifest.specs.Linked.{first_without_card, linked_of}
use Rattle.manifest.specs.Manifest.{manifest_of}
use Rattle.assorters.specs.declared.seen.Seen.TheVariants.{Found}
use Rattle.seen_file.specs.Reading.{seen_of}
use Rattle.seen_file.specs.Seen.{Entry}
use Rattle.km_risk.specs.Printed.{printed_risk}
use Rattle.session_state.specs.Claims.{values_of}
use Rattle.session_state.specs.Content.{Content, IsSound}
use Rattle.session_state.specs.Inputs.{has_facts}
use Rattle.session_state.specs.Sessions.{IsRound, Round}
use Rattle.session_file.specs.Forms.{HasForms}
use Rattle.session_file.specs.Text.{session_text, session_value}
use Rattle.session_file.specs.Reading.{session_of}
use Rattle.session_file.proofs.ReadsBack.{printed_reads_back as printed_session_reads_back}
use Rattle.cli_base.specs.Outcome.{Outcome, Verdict, outcome}
use Rattle.cli_base.specs.Script.{Ends, Readings, AsHeld, May}
use Rattle.command_line.specs.declared.commands.Command.TheVariants.{Audit}
use Rattle.budget.specs.declared.budget.Budget.TheVariants.{Nodes}
use Rattle.budget.specs.declared.limits.TheConstants.{DEFAULT_NODES}
use Rattle.session_commands.specs.Accepted.{is_accepted, on_if}
use Rattle.session_commands.specs.Audit.{after_assertions, after_ballots, after_check, after_manifest, after_session, script, same_assertions}
use Rattle.session_rounds.specs.Rounds.{Compared, GoesOn, next_session, one_round, same_ballots, same_manifest, session_to_go_on, verdict_of, with_seen}
use Rattle.command.specs.declared.audit.AuditTask.{AuditTask}
use Rattle.input_files.specs.Judged.{told}
use Rattle.input_files.specs.Refusals.{refused_seen}
use Rattle.check_command.specs.Check.{Checks}
use Rattle.call_laws.specs.Agreement.{MayBeSpent}
use Rattle.call_laws.specs.EachStatus.{EndsWith, IsOfSome}
use Rattle.call_laws.proofs.Agreement.{not_spent}
use Rattle.call_laws.proofs.Ended.{ends_with}
use Rattle.raire_cli.proofs.Said.{going}

-- ---- its files

abbrev ballots_bytes : List ℕ
ballots_bytes = codes "1\nContest,7,2,1,2\n7,b_1,1\n"

abbrev ballots : BallotFile
ballots = record { contest = codes "7"; candidates = codes "1" ∷ codes "2" ∷ []; ids = codes "b_1" ∷ []; places = 3 ∷ []; rankings = (0 ∷ []) ∷ [] }

ballots_read : ballots_of ballots_bytes (Some (codes "7")) ≡ Ok ballots
unfolding strip_bom records_from next_record
ballots_read = refl

abbrev manifest_bytes : List ℕ
manifest_bytes = codes "batch,cards\nb,1\n"

abbrev batches : Batches
batches = record { ids = codes "b" ∷ []; counts = 1 ∷ [] }

manifest_read : manifest_of manifest_bytes ≡ Ok batches
unfolding strip_bom records_from next_record
manifest_read = refl

abbrev assertions_bytes : List ℕ
assertions_bytes = codes "{\"assertions\":[{\"kind\":\"NEB\",\"loser\":\"2\",\"margin\":1,\"winner\":\"1\"}],\"candidates\":[\"1\",\"2\"],\"contest\":\"7\",\"margin\":1,\"order\":[\"1\",\"2\"],\"records\":1,\"version\":1,\"winner\":\"1\"}\n"

abbrev claim : Claim
claim = record { assertion = Neb 0 1; margin = 1 }

abbrev file : FileContent
file = record { contest = codes "7"; candidates = codes "1" ∷ codes "2" ∷ []; records = 1; winner = 0; margin = 1; order = Some (0 ∷ 1 ∷ []); claims = claim ∷ []; plan = None }

file_text : assertion_file_text file ≡ assertions_bytes
unfolding file_value digits serde_json_on_literals
file_text = refl

one_vote : IsMargin 1 1
one_vote = record { some = omega arith; most = omega arith }

file_is_sound : IsSoundFile file
file_is_sound = record {
  fewest = omega arith;
  most = omega arith;
  differ = refl;
  some_records = omega arith;
  most_records = omega arith;
  winner = omega arith;
  order = refl;
  margin = one_vote;
  claims = All-cons (IsSoundClaim 2 1) claim [] (record { proper = refl; margin = one_vote }) (All-nil (IsSoundClaim 2 1));
  plan = tt;
}

file_read : assertion_file_of assertions_bytes ≡ Ok file
file_read = subst (λ bytes. assertion_file_of bytes ≡ Ok file) file_text (printed_reads_back file file_is_sound (record { contest = refl; candidates = refl }))

abbrev seen_bytes : List ℕ
seen_bytes = codes "b_1,ballot,1\n"

abbrev entries : List Entry
entries = (1, Found (0 ∷ [])) ∷ []

seen_read : seen_of batches file.candidates seen_bytes ≡ Ok entries
unfolding strip_bom records_from next_record digits
seen_read = refl

-- ---- its session

abbrev ballots_digest : List ℕ
ballots_digest =
    0xB2 ∷ 0x46 ∷ 0x13 ∷ 0x26 ∷ 0xED ∷ 0xED ∷ 0xB6 ∷ 0xD1 ∷ 0x09 ∷ 0xBC ∷ 0xEB ∷ 0x69 ∷ 0x3F ∷ 0x72 ∷ 0xE5 ∷ 0xD9 ∷
    0xB6 ∷ 0x13 ∷ 0xD1 ∷ 0x84 ∷ 0x52 ∷ 0xC4 ∷ 0xEE ∷ 0xD4 ∷ 0x77 ∷ 0x2B ∷ 0x70 ∷ 0x19 ∷ 0x16 ∷ 0xC9 ∷ 0x6B ∷ 0xDF ∷ []

abbrev manifest_digest : List ℕ
manifest_digest =
    0x93 ∷ 0xCC ∷ 0x03 ∷ 0xB4 ∷ 0xBC ∷ 0x43 ∷ 0x7D ∷ 0x87 ∷ 0x0C ∷ 0x95 ∷ 0xA7 ∷ 0x6E ∷ 0x4E ∷ 0xA4 ∷ 0xDC ∷ 0x83 ∷
    0x14 ∷ 0xB0 ∷ 0x9C ∷ 0x68 ∷ 0x16 ∷ 0x4E ∷ 0x0E ∷ 0x5F ∷ 0x6B ∷ 0xCA ∷ 0xE0 ∷ 0x9B ∷ 0x62 ∷ 0xD0 ∷ 0xA1 ∷ 0x4C ∷ []

abbrev assertions_digest : List ℕ
assertions_digest =
    0xAE ∷ 0x97 ∷ 0xF9 ∷ 0xD2 ∷ 0x0B ∷ 0x87 ∷ 0x52 ∷ 0xEB ∷ 0xE3 ∷ 0x68 ∷ 0xD7 ∷ 0xFB ∷ 0xC1 ∷ 0x11 ∷ 0xD7 ∷ 0x16 ∷
    0x83 ∷ 0xAC ∷ 0x56 ∷ 0xE9 ∷ 0x20 ∷ 0xC4 ∷ 0x5C ∷ 0x7B ∷ 0x94 ∷ 0x5B ∷ 0xAA ∷ 0x70 ∷ 0x45 ∷ 0xD7 ∷ 0x2B ∷ 0x2E ∷ []

ballots_hash : sha256 ballots_bytes ≡ ballots_digest
unfolding first_words schedule rounds compress hash_after digest_bytes sha256
ballots_hash = refl

manifest_hash : sha256 manifest_bytes ≡ manifest_digest
unfolding first_words schedule rounds compress hash_after digest_bytes sha256
manifest_hash = refl

assertions_hash : sha256 assertions_bytes ≡ assertions_digest
unfolding first_words schedule rounds compress hash_after digest_bytes sha256
assertions_hash = refl

abbrev session : Content
session = record {
  contest = codes "7";
  seed = codes "2024";
  digests = record { ballots = ballots_digest; manifest = manifest_digest; assertions = assertions_digest };
  session = record { cards = 1; margins = 1 ∷ []; limit = 50000; gamma = 100; rounds = [] };
}

abbrev session_bytes : List ℕ
session_bytes = codes "{\"assertions\":\"ae97f9d20b8752ebe368d7fbc111d71683ac56e920c45c7b945baa7045d72b2e\",\"ballots\":\"b2461326ededb6d109bceb693f72e5d9b613d18452c4eed4772b701916c96bdf\",\"cards\":1,\"contest\":\"7\",\"gamma\":100,\"limit\":50000,\"manifest\":\"93cc03b4bc437d870c95a76e4ea4dc8314b09c68164e0e5f6bcae09b62d0a14c\",\"margins\":[1],\"rounds\":[],\"seed\":\"2024\",\"signed_off\":false,\"version\":1}\n"

opened_text : session_text session ≡ session_bytes
unfolding session_value encode_with digits serde_json_on_literals
opened_text = refl

are_bytes : (digest : List ℕ) → list_all (λ byte. nat_le byte 255) digest ≡ true → All (λ byte. byte < 256) digest
are_bytes digest all k d below = elim (leb_tells (get_or digest k d) 255) [
  | inl (test, le) ↦ omega (arith, le)
  | inr (test, lt) ↦
      let pass : nat_le (get_or digest k d) 255 ≡ true = AllPass-from_list_all (λ byte. nat_le byte 255) digest all k d below in absurd (cc (test, pass))
]

forms : HasForms session
forms = record {
  contest = refl;
  seed = refl;
  ballots = record { long = refl; bytes = are_bytes ballots_digest refl };
  manifest = record { long = refl; bytes = are_bytes manifest_digest refl };
  assertions = record { long = refl; bytes = are_bytes assertions_digest refl };
}

abbrev HasFewDraws : Round → Type 0
HasFewDraws round = round.draws ≤ MOST_DRAWS

abbrev IsSoundMargin : ℕ → Type 0
IsSoundMargin margin = (1 ≤ margin) × (margin ≤ 1)

session_is_sound : IsSound session
session_is_sound = record {
  limits = record {
    most_cards = omega arith;
    some_limit = omega arith;
    most_limit = omega arith;
    some_gamma = omega arith;
    most_gamma = omega arith;
    most_draws = All-nil HasFewDraws;
  };
  session = record {
    some = omega arith;
    margins = All-cons IsSoundMargin 1 [] (omega arith, omega arith) (All-nil IsSoundMargin);
    rising = λ i j d before there. absurd (omega (arith, there));
    rounds = All-nil (IsRound session.session);
  };
}

session_read : session_of session_bytes ≡ Some session
session_read = subst (λ bytes. session_of bytes ≡ Some session) opened_text (printed_session_reads_back session session_is_sound forms)

-- ---- it continues

abbrev audit_words : List (List ℕ)
audit_words = codes "audit" ∷ codes "s" ∷ codes "b" ∷ codes "m" ∷ codes "a" ∷ codes "v" ∷ codes "--draws" ∷ codes "1" ∷ []

abbrev audit_files : List File
audit_files =
    record { name = codes "s"; bytes = session_bytes } ∷ record { name = codes "b"; bytes = ballots_bytes } ∷ record {
      name = codes "m";
      bytes = manifest_bytes;
    }
    ∷ record { name = codes "a"; bytes = assertions_bytes } ∷ record { name = codes "v"; bytes = seen_bytes } ∷ []

abbrev asks : AuditTask
asks = record { session = codes "s"; ballots = codes "b"; manifest = codes "m"; assertions = codes "a"; seen = codes "v"; draws = 1; budget = Nodes DEFAULT_NODES }

no_search : MayBeSpent audit_words → ⊥
no_search = not_spent audit_words (Audit asks) refl refl

abbrev compared : Compared
compared = record { recorded = linked_of batches ballots; entries = entries }

abbrev verdict : Verdict
verdict = verdict_of (next_session asks.session asks.seen asks.draws session (values_of file) compared)

verdict_status : (outcome verdict).status ≡ 10
unfolding first_words schedule rounds compress hash_after digest_bytes sha256 digits printed_risk
verdict_status = refl

to_go_on : session_to_go_on asks.session asks.draws session_bytes ≡ Ok session
to_go_on = rw session_read refl

of_ballots : same_ballots asks.ballots session ballots_bytes ≡ Ok ballots
of_ballots = rw (ballots_hash, ballots_read) refl

placed : first_without_card batches ballots ≡ None
unfolding digits
placed = refl

of_manifest : same_manifest asks.ballots asks.manifest session ballots manifest_bytes ≡ Ok batches
of_manifest = rw (manifest_hash, manifest_read, placed) refl

of_assertions : same_assertions asks session assertions_bytes ≡ Ok file
of_assertions = rw (assertions_hash, file_read) refl

accepted : is_accepted (Nodes DEFAULT_NODES) ballots file ≡ true
accepted = refl

agrees : has_facts session (length (cards_of batches)) file.contest (margins_of file) ≡ true
agrees = refl

of_seen : told (refused_seen asks.seen) (seen_of batches file.candidates seen_bytes) ≡ Ok entries
of_seen = rw seen_read refl

abbrev held : Readings
held = AsHeld audit_files

abbrev due : Outcome
due = outcome verdict

seen_counted : May held (with_seen asks.session asks.seen asks.draws session (values_of file) batches (linked_of batches ballots) file.candidates) due
seen_counted =
    inr (
      seen_bytes,
      refl,
      going held (told (refused_seen asks.seen) (seen_of batches file.candidates seen_bytes)) entries
          (λ entries. Ends (GoesOn asks.session asks.seen asks.draws session (values_of file) (record { recorded = linked_of batches ballots; entries = entries })))
          due of_seen (verdict, refl, refl),
    )

facts_hold : May held (after_check asks session ballots batches file) due
facts_hold =
    subst (λ agree. May held (one_round asks.session asks.seen asks.draws agree session (values_of file) batches (linked_of batches ballots) file.candidates) due)
    (sym agrees) seen_counted

assertions_hold : May held (after_assertions asks session ballots batches file) due
assertions_hold =
    subst (λ b. May held (on_if b (after_check asks session ballots batches file) (Ends (Checks (Nodes DEFAULT_NODES) ballots file))) due) (sym accepted) facts_hold

cards_there : May held (after_manifest asks session ballots batches) due
cards_there =
    inr (
      assertions_bytes,
      refl,
      going held (same_assertions asks session assertions_bytes) file
          (after_assertions asks session ballots batches) due of_assertions assertions_hold,
    )

ballots_there : May held (after_ballots asks session ballots) due
ballots_there =
    inr (
      manifest_bytes,
      refl,
      going held (same_manifest asks.ballots asks.manifest session ballots manifest_bytes) batches
          (after_manifest asks session ballots) due of_manifest cards_there,
    )

session_there : May held (after_session asks session) due
session_there =
    inr (ballots_bytes, refl, going held (same_ballots asks.ballots session ballots_bytes) ballots (after_ballots asks session) due of_ballots ballots_there)

goes_on : May held (script asks) due
goes_on = inr (session_bytes, refl, going held (session_to_go_on asks.session asks.draws session_bytes) session (after_session asks) due to_go_on session_there)

pub unconfirmed_end : IsOfSome 10
unconfirmed_end = (
  audit_words,
  audit_files,
  subst (λ status. EndsWith status audit_words audit_files) verdict_status
      (ends_with audit_words audit_files due goes_on (λ asks. absurd (no_search asks))),
)
