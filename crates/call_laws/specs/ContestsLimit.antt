-- A contest that an audit of all contests signs off is among those that its own risk limit counts.
use Rattle.std.specs.Prelude.{◌≡◌, ◌≤◌, ℕ, true, List, length, Some, Vec}
use Rattle.std.specs.List.{slice_get}
use Rattle.std.specs.declared.alloc.Global.{Global}
use Rattle.desk.specs.Desk.{File}
use Rattle.ballots.specs.Ballots.{BallotFile}
use Rattle.manifest.specs.Cards.{cards_of}
use Rattle.manifest.specs.Linked.{linked_of}
use Rattle.assertion_file.specs.Content.{Content}
use Rattle.km_risk.specs.declared.draws.Counts.{Counts}
use Rattle.seen_file.specs.Seen.{Entry}
use Rattle.session_state.specs.Claims.{audited}
use Rattle.session_state.specs.RiskOfValues.{MayBeSignedOff}
use Rattle.audit_session.specs.Going.{drawn_cards}
use Rattle.audit_session.specs.Laws.{AreTrueEntries}
use Rattle.contest_set.specs.declared.end.ContestEnd.TheVariants.{Audited}
use Rattle.raire_cli.specs.Contests.{AuditsContests}

module _ {words : List (List ℕ)} {files : List File} (audit : AuditsContests words files) where
  abbrev pub cards : ℕ
  cards = length (cards_of audit.inputs.batches)

  -- the first cards that are drawn for all contests
  abbrev pub drawn : ℕ → List ℕ
  drawn = drawn_cards audit.asks.task.seed cards

-- This holds for each contest by itself, at any number of draws up to the maximum, if the drawn cards were read as they are for this
-- contest.
abbrev pub ContestIsCounted : Type 0
ContestIsCounted =
    (words : List (List ℕ)) (files : List File) (audit : AuditsContests words files) (place : ℕ)
    (ballots : BallotFile) (entries : List Entry) (file : Content) (counts : Vec Counts Global)
    (risks : Vec ℕ Global) (actual : List (List ℕ)) (most : ℕ) →
    audit.asks.task.draws ≤ most → slice_get audit.inputs.list place ≡ Some ballots →
    slice_get audit.inputs.seen place ≡ Some entries →
    slice_get audit.ends place ≡ Some (Audited file counts risks true) →
    length actual ≡ cards audit →
    AreTrueEntries actual entries (drawn audit audit.asks.task.draws) →
    MayBeSignedOff audit.asks.task.limit audit.asks.task.gamma (audited file)
    (linked_of audit.inputs.batches ballots) actual (drawn audit most)
