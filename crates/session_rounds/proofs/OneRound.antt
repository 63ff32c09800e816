-- A round refuses a file, or has one end.
use Rattle.std.proofs.Common.{ℕ, Bool, true, false, nat_le, List, Contains, Option, None, Some, IfSome, ok_or, Result, Ok, Err, sym, ap, subst, ◌∙◌, if◌then◌else◌}
use Rattle.sha2.specs.Sha256.{sha256}
use Rattle.irv_base.specs.Names.{Id, is_same}
use Rattle.ballots.specs.Ballots.{BallotFile}
use Rattle.ballots.specs.Grammar.{ballots_of}
use Rattle.manifest.specs.Cards.{Batches}
use Rattle.manifest.specs.declared.recorded.Recorded.{Recorded}
use Rattle.seen_file.specs.Reading.{seen_of}
use Rattle.session_state.specs.Content.{Content}
use Rattle.session_state.specs.Sessions.{Round, is_signed_off}
use Rattle.session_file.specs.Reading.{session_of}
use Rattle.session_file.specs.Text.{session_text}
use Rattle.audit_session.specs.Refusals.{last_draws}
use Rattle.audit_session.specs.declared.fault.AdvanceFault.{AdvanceFault}
use Rattle.audit_session.specs.declared.fault.AdvanceFault.TheVariants.{Smaller, NoRecord, Changed, Memory}
use Rattle.cli_base.specs.Confirmed.{confirmed_kind}
use Rattle.cli_base.specs.Outcome.{Verdict, Answered, Refused, outcome}
use Rattle.cli_base.specs.Script.{Agree, AreOfKind, IsOfKind, Same}
use Rattle.cli_base.specs.declared.outcome.AnswerKind.{AnswerKind}
use Rattle.cli_base.specs.declared.outcome.AnswerKind.TheVariants.{Done, Unconfirmed}
use Rattle.input_files.specs.Judged.{told}
use Rattle.input_files.specs.Refusals.{refused_ballots, refused_seen}
use Rattle.input_files.proofs.Going.{IsRefusal, OnlyRefuses, cards-only, go_on-agrees, go_on-kinds, told-only, then-only, unless-only}
use Rattle.session_rounds.specs.Refusals.{differs_text, had_text, other_digest, refused_by, refused_session}
use Rattle.session_rounds.specs.Rounds.{Compared, changed, had_as_many, next_session, one_round, same_ballots, same_manifest, session_answer, session_in, session_to_go_on, unseen, verdict_of, with_seen}

-- ---- the files that are refused

pub session_in-only : (name bytes : List ℕ) → OnlyRefuses (session_in name bytes)
session_in-only name bytes = by (session_of bytes) where
  by : (content : Option Content) → OnlyRefuses (ok_or content (refused_session name))
  by None = tt
  by (Some content) = tt

pub digest-only : (name expected bytes : List ℕ) → IfSome (other_digest name expected bytes) IsRefusal
digest-only name expected bytes = by (is_same expected (sha256 bytes)) where
  by : (b : Bool) → IfSome (if b then None else Some (Refused name (differs_text expected (sha256 bytes)))) IsRefusal
  by true = tt
  by false = tt

many-only : (name : List ℕ) (draws : ℕ) (rounds : List Round) → IfSome (had_as_many name draws rounds) IsRefusal
many-only name draws rounds = by (nat_le draws (last_draws rounds)) where
  by : (b : Bool) → IfSome (if b then Some (Refused name (had_text (last_draws rounds))) else None) IsRefusal
  by true = tt
  by false = tt

fault-only : (session seen : List ℕ) (fault : Option AdvanceFault) → IfSome (refused_by session seen fault) IsRefusal
fault-only session seen None = tt
fault-only session seen (Some (Smaller had)) = tt
fault-only session seen (Some (NoRecord card k)) = tt
fault-only session seen (Some (Changed round claim expected found)) = tt
fault-only session seen (Some Memory) = tt

pub session-only : (name : List ℕ) (draws : ℕ) (bytes : List ℕ) → OnlyRefuses (session_to_go_on name draws bytes)
session-only name draws bytes = then-only (session_in name bytes) _ (session_in-only name bytes) (λ session.
    unless-only (had_as_many name draws session.session.rounds) _ (many-only name draws session.session.rounds) tt)

pub ballots-only : (name : List ℕ) (session : Content) (bytes : List ℕ) → OnlyRefuses (same_ballots name session bytes)
ballots-only name session bytes =
    unless-only (other_digest name session.digests.ballots bytes) _ (digest-only name session.digests.ballots bytes)
    (told-only (refused_ballots name) (ballots_of bytes (Some session.contest)) (λ why. tt))

pub manifest-only : (name manifest : List ℕ) (session : Content) (ballots : BallotFile) (bytes : List ℕ) →
    OnlyRefuses (same_manifest name manifest session ballots bytes)
manifest-only name manifest session ballots bytes =
    unless-only (other_digest manifest session.digests.manifest bytes) _ (digest-only manifest session.digests.manifest bytes)
    (cards-only name ballots manifest bytes)

module _ (name seen : List ℕ) (draws : ℕ) where
  pub next-only : (session : Content) (values : List (List ℕ → ℕ)) (compared : Compared) → OnlyRefuses (next_session name seen draws session values compared)
  next-only session values compared =
      unless-only (refused_by name seen (unseen session compared draws)) _ (fault-only name seen (unseen session compared draws))
      (unless-only (refused_by name seen (changed session values compared draws)) _
      (fault-only name seen (changed session values compared draws)) tt)

  -- ---- the end

  with_seen-agrees : (session : Content) (values : List (List ℕ → ℕ)) (batches : Batches) (recorded : List Recorded) (candidates : List Id) →
      Agree Same (with_seen name seen draws session values batches recorded candidates)
  with_seen-agrees session values batches recorded candidates =
      λ bytes. go_on-agrees (told (refused_seen seen) (seen_of batches candidates bytes)) _ (λ entries v w p q. ap outcome (p ∙ sym q))

  pub one_round-agrees : (agree : Bool) (session : Content) (values : List (List ℕ → ℕ)) (batches : Batches) (recorded : List Recorded) (candidates : List Id) →
      Agree Same (one_round name seen draws agree session values batches recorded candidates)
  one_round-agrees true session values batches recorded candidates = with_seen-agrees session values batches recorded candidates
  one_round-agrees false session values batches recorded candidates = λ v w p q. ap outcome (p ∙ sym q)

  module _ (kinds : List AnswerKind) (done : Contains kinds Done) (unconfirmed : Contains kinds Unconfirmed) where
    session_answer-kind : (session : Content) → IsOfKind kinds (session_answer session)
    session_answer-kind session = by (is_signed_off session.session) where
      by : (b : Bool) → IsOfKind kinds (Answered (confirmed_kind b) (session_text session))
      by true = done
      by false = unconfirmed

    verdict-kind : (judged : Result Content Verdict) → OnlyRefuses judged → IsOfKind kinds (verdict_of judged)
    verdict-kind (Ok next) only = session_answer-kind next
    verdict-kind (Err (Refused name text)) only = tt
    verdict-kind (Err (Answered kind text)) only = absurd only

    with_seen-kinds : (session : Content) (values : List (List ℕ → ℕ)) (batches : Batches) (recorded : List Recorded) (candidates : List Id) →
        AreOfKind kinds (with_seen name seen draws session values batches recorded candidates)
    with_seen-kinds session values batches recorded candidates =
        λ bytes. go_on-kinds kinds (told (refused_seen seen) (seen_of batches candidates bytes)) _
        (told-only (refused_seen seen) (seen_of batches candidates bytes) (λ why. tt))
        (λ entries v is. subst (IsOfKind kinds) (sym is) (verdict-kind _ (next-only session values _)))

    pub one_round-kinds : (agree : Bool) (session : Content) (values : List (List ℕ → ℕ)) (batches : Batches) (recorded : List Recorded) (candidates : List Id) →
        AreOfKind kinds (one_round name seen draws agree session values batches recorded candidates)
    one_round-kinds true session values batches recorded candidates = with_seen-kinds session values batches recorded candidates
    one_round-kinds false session values batches recorded candidates = λ v is. subst (IsOfKind kinds) (sym is) tt
