-- What holds if a round of an audit isn't refused.
use Rattle.std.proofs.Common.{◌≡◌, inl, inr, ℕ, ◌+◌, ◌<◌, Bool, true, false, if◌then◌else◌, List, [], ◌∷◌, take, Option, None, Some, refl, sym, ap, ◌∙◌}
use Rattle.std.specs.Prelude.{option_map, find}
use Rattle.std.specs.List.{range_with_len}
use Rattle.std.proofs.lemmas.Bool.{cases_Bool}
use Rattle.std.proofs.lemmas.Bool.Decides.{leb_tells}
use Rattle.sha2.specs.Sha256.{sha256}
use Rattle.desk.specs.Desk.{File}
use Rattle.irv_base.specs.Names.{Id, is_same}
use Rattle.manifest.specs.Cards.{Batches}
use Rattle.manifest.specs.declared.recorded.Recorded.{Recorded}
use Rattle.manifest.proofs.Numbers.{same-equal}
use Rattle.km_risk.specs.declared.draws.Counts.{Counts}
use Rattle.session_state.specs.Content.{Content}
use Rattle.session_state.specs.Sessions.{Round}
use Rattle.audit_session.specs.Going.{all_counts}
use Rattle.audit_session.specs.Refusals.{changed_from, changed_in, first_of, last_draws, same_counts, without_record}
use Rattle.audit_session.specs.declared.compared.Drawn.{Drawn}
use Rattle.audit_session.specs.declared.fault.AdvanceFault.{AdvanceFault}
use Rattle.audit_session.specs.declared.fault.AdvanceFault.TheVariants.{NoRecord, Changed}
use Rattle.sampler.specs.Draws.{drawn_card}
use Rattle.seen_file.specs.Reading.{seen_of}
use Rattle.seen_file.specs.Seen.{Entry}
use Rattle.cli_base.specs.Outcome.{Answered, Refused}
use Rattle.cli_base.specs.Script.{AsHeld, Concludes, Ends}
use Rattle.cli_base.specs.declared.outcome.AnswerKind.{AnswerKind}
use Rattle.input_files.specs.Refusals.{refused_seen}
use Rattle.session_rounds.specs.Refusals.{had_text, other_digest, differs_text, refused_by}
use Rattle.session_rounds.specs.Rounds.{GoesOn, had_as_many, one_round}
use Rattle.raire_cli.proofs.Said.{IsSaid, said}

pub same_digest : (name expected bytes : List ℕ) → other_digest name expected bytes ≡ None → expected ≡ sha256 bytes
same_digest name expected bytes none = elim (cases_Bool (is_same expected (sha256 bytes))) [
  | inl same ↦ same-equal expected (sha256 bytes) same
  | inr differ ↦
      let some = sym (ap (λ b. if b then None else Some (Refused name (differs_text expected (sha256 bytes)))) differ) ∙ none in
      absurd (cc some)
]

-- ---- a session that isn't refused

pub not_as_many : (name : List ℕ) (draws : ℕ) (rounds : List Round) → had_as_many name draws rounds ≡ None → last_draws rounds < draws
not_as_many name draws rounds none = elim (leb_tells draws (last_draws rounds)) [
  | inl (test, le) ↦
      let some = sym (ap (λ b. if b then Some (Refused name (had_text (last_draws rounds))) else None) test) ∙ none in
      absurd (cc some)
  | inr (test, lt) ↦ lt
]

pub all_recorded : (session seen seed : List ℕ) (cards : ℕ) (entries : List Entry) (draws : ℕ) →
    refused_by session seen (without_record seed cards entries draws) ≡ None → without_record seed cards entries draws ≡ None
all_recorded session seen seed cards entries draws none = by (find _ (range_with_len 1 draws)) none where
  by : (k : Option ℕ) → refused_by session seen (option_map (λ k. NoRecord (drawn_card seed k cards) k) k) ≡ None →
      option_map (λ k. NoRecord (drawn_card seed k cards) k) k ≡ None
  by None none = refl
  by (Some k) none = absurd (cc none)

-- it is printed if there is one
abbrev IsTold : List ℕ → List ℕ → Option AdvanceFault → Type 0
IsTold session seen fault = refused_by session seen fault ≡ None → fault ≡ None

first-told : (session seen : List ℕ) (a b : Option AdvanceFault) → IsTold session seen a → IsTold session seen b → IsTold session seen (first_of a b)
first-told session seen None b told-a told-b = told-b
first-told session seen (Some fault) b told-a told-b = told-a

changed-told : (session seen : List ℕ) (round claim : ℕ) (expected found : List Counts) → IsTold session seen (changed_in round claim expected found)
changed-told session seen round claim [] found = λ none. refl
changed-told session seen round claim (e ∷ expected) [] = λ none. refl
changed-told session seen round claim (e ∷ expected) (f ∷ found) = by (same_counts e f) (changed-told session seen round (claim + 1) expected found) where
  by : (b : Bool) → IsTold session seen (changed_in round (claim + 1) expected found) →
      IsTold session seen (if b then changed_in round (claim + 1) expected found else Some (Changed round claim e f))
  by true later = later
  by false later = λ none. absurd (cc none)

pub unchanged : (session seen : List ℕ) (values : List (List ℕ → ℕ)) (drawn : List Drawn) (number : ℕ) (rounds : List Round) →
    IsTold session seen (changed_from values drawn number rounds)
unchanged session seen values drawn number [] = λ none. refl
unchanged session seen values drawn number (round ∷ rounds) =
    first-told session seen (changed_in number 1 round.counts (all_counts values (take round.draws drawn))) (changed_from values drawn (number + 1) rounds)
    (changed-told session seen number 1 round.counts (all_counts values (take round.draws drawn))) (unchanged session seen values drawn (number + 1) rounds)

-- ---- a round that answers

-- the session agrees with its inputs, and the seen file is held and says something
pub round_on : (files : List File) (name seen : List ℕ) (draws : ℕ) (agree : Bool) (session : Content) (values : List (List ℕ → ℕ)) (batches : Batches)
    (recorded : List Recorded) (candidates : List Id) (kind : AnswerKind) (text : List ℕ) →
    Concludes (AsHeld files) (one_round name seen draws agree session values batches recorded candidates) (Answered kind text) →
    (agree ≡ true) × IsSaid files seen (seen_of batches candidates)
    (λ bytes entries. Ends (GoesOn name seen draws session values (record { recorded = recorded; entries = entries }))) kind text
round_on files name seen draws true session values batches recorded candidates kind text comes = (
  refl,
  said files seen (refused_seen seen) (seen_of batches candidates)
      (λ bytes entries. Ends (GoesOn name seen draws session values (record { recorded = recorded; entries = entries }))) kind text (λ why. tt) comes,
)
round_on files name seen draws false session values batches recorded candidates kind text comes = absurd (cc comes)
