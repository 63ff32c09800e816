-- A round of a session, whatever its claims are. Each file is judged: first whether it is the session's, then what it says. Then the session
-- continues.
use Rattle.std.specs.Prelude.{◌≡◌, ◌<◌, ◌≤◌, ℕ, nat_le, Bool, true, false, if◌then◌else◌, List, length, map, Option, None, Some, ok_or, Result, Ok, Err}
use Rattle.irv_base.specs.Names.{Id}
use Rattle.irv_base.specs.declared.limits.TheConstants.{MOST_DRAWS}
use Rattle.ballots.specs.Ballots.{BallotFile}
use Rattle.ballots.specs.Grammar.{ballots_of}
use Rattle.manifest.specs.Cards.{Batches}
use Rattle.manifest.specs.declared.recorded.Recorded.{Recorded}
use Rattle.seen_file.specs.Reading.{seen_of}
use Rattle.seen_file.specs.Seen.{Entry}
use Rattle.session_state.specs.Content.{Content}
use Rattle.session_state.specs.Sessions.{Round, Session, is_signed_off}
use Rattle.audit_session.specs.declared.fault.AdvanceFault.{AdvanceFault}
use Rattle.audit_session.specs.Going.{all_seen, drawn_at, drawn_cards, next_session as with_next_round}
use Rattle.audit_session.specs.Refusals.{last_draws, without_record, changed_from}
use Rattle.session_file.specs.Reading.{session_of}
use Rattle.session_file.specs.Text.{session_text}
use Rattle.cli_base.specs.Confirmed.{confirmed_kind}
use Rattle.cli_base.specs.Outcome.{Verdict, Answered, Refused}
use Rattle.cli_base.specs.Script.{Script, Read, Ends, ends}
use Rattle.cli_base.specs.declared.outcome.AnswerKind.{AnswerKind}
use Rattle.input_files.specs.Cards.{cards_for}
use Rattle.input_files.specs.Judged.{told, then_judged, unless, go_on}
use Rattle.input_files.specs.Refusals.{refused_ballots, refused_seen}
use Rattle.session_rounds.specs.Refusals.{had_text, other_digest, other_facts, refused_by, refused_session}

-- ---- the session file

-- what its bytes say
abbrev pub session_in : List ℕ → List ℕ → Result Content Verdict
session_in name bytes = ok_or (session_of bytes) (refused_session name)

-- the session may continue to this many draws: its last round had fewer
pub record MayGoOn (draws : ℕ) (session : Content) : Type 0 where
  pub fewer : last_draws session.session.rounds < draws
  pub most : draws ≤ MOST_DRAWS

-- its last round had at least as many
abbrev pub had_as_many : List ℕ → ℕ → List Round → Option Verdict
had_as_many name draws rounds =
    if nat_le draws (last_draws rounds) then Some (Refused name (had_text (last_draws rounds)))
    else None

-- the session in the bytes of the file with this name, which continues to this many draws
abbrev pub session_to_go_on : List ℕ → ℕ → List ℕ → Result Content Verdict
session_to_go_on name draws bytes = then_judged (session_in name bytes) (λ session.
    unless (had_as_many name draws session.session.rounds) (Ok session))

-- ---- its ballots and its manifest

-- the ballots of its contest, in the file with this name
abbrev pub same_ballots : List ℕ → Content → List ℕ → Result BallotFile Verdict
same_ballots name session bytes =
    unless (other_digest name session.digests.ballots bytes)
    (told (refused_ballots name) (ballots_of bytes (Some session.contest)))

-- the manifest with this name, in which each ballot of the file with this name has a card
abbrev pub same_manifest :
    List ℕ → List ℕ → Content → BallotFile → List ℕ → Result Batches Verdict
same_manifest name manifest session ballots bytes =
    unless (other_digest manifest session.digests.manifest bytes)
    (cards_for name ballots manifest bytes)

-- both have been read, and the session continues by what they say
module _ (ballots manifest : List ℕ) (session : Content)
    (next : BallotFile → Batches → Script) where
  abbrev pub with_manifest : BallotFile → Script
  with_manifest cast = Read manifest (λ bytes.
      go_on (same_manifest ballots manifest session cast bytes) (next cast))

  abbrev pub with_ballots : Script
  with_ballots = Read ballots (λ bytes.
      go_on (same_ballots ballots session bytes) with_manifest)

-- ---- the round

-- what is recorded of the cards of the ballots, and what is seen of them
pub record Compared : Type 0 where
  pub recorded : List Recorded
  pub entries : List Entry

-- the first draw whose card has no entry
abbrev pub unseen : Content → Compared → ℕ → Option AdvanceFault
unseen session compared draws =
    without_record session.seed (length compared.recorded) compared.entries draws

-- the first earlier round whose counts come out differently, for claims with these values
abbrev pub changed :
    Content → List (List ℕ → ℕ) → Compared → ℕ → Option AdvanceFault
changed session values compared draws =
    let cards : ℕ = length compared.recorded in
    changed_from values (map (drawn_at compared.recorded (all_seen compared.entries cards))
    (drawn_cards session.seed cards draws)) 1
    session.session.rounds

-- ---- how a round ends

-- 0 if it is signed off
abbrev pub kind_of : Session → AnswerKind
kind_of session = confirmed_kind (is_signed_off session)

-- the new session, and whether it is signed off
abbrev pub session_answer : Content → Verdict
session_answer session = Answered (kind_of session.session) (session_text session)

abbrev pub verdict_of : Result Content Verdict → Verdict
verdict_of (Ok next) = session_answer next
verdict_of (Err verdict) = verdict

-- ---- the session that continues to this many draws; its file and the seen file have these names

module _ (name seen : List ℕ) (draws : ℕ) where
  -- each drawn card must have been seen, and then the counts of earlier rounds must come out the same
  abbrev pub next_session :
      Content → List (List ℕ → ℕ) → Compared → Result Content Verdict
  next_session session values compared =
      unless (refused_by name seen (unseen session compared draws))
      (unless (refused_by name seen (changed session values compared draws))
      (Ok (with_next_round session values compared.recorded compared.entries draws)))

  abbrev pub GoesOn : Content → List (List ℕ → ℕ) → Compared → Verdict → Type 0
  GoesOn session values compared verdict =
      verdict ≡ verdict_of (next_session session values compared)

  -- the command reads what is seen of the cards, by the ids of the candidates, and the session continues
  abbrev pub with_seen :
      Content → List (List ℕ → ℕ) → Batches → List Recorded → List Id → Script
  with_seen session values batches recorded candidates = Read seen (λ bytes.
      go_on (told (refused_seen seen) (seen_of batches candidates bytes)) (λ entries.
      Ends (GoesOn session values (record { recorded = recorded; entries = entries }))))

  -- a round, or S5 if the session isn't one of these inputs
  abbrev pub one_round :
      Bool → Content → List (List ℕ → ℕ) → Batches → List Recorded → List Id → Script
  one_round true session values batches recorded candidates =
      with_seen session values batches recorded candidates
  one_round false session values batches recorded candidates = ends (other_facts name)
