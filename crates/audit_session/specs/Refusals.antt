-- Why a session doesn't continue, in the order in which the reasons are judged.
use Rattle.std.specs.Prelude.{◌≡◌, ℕ, ◌+◌, ◌==◌, ◌&&◌, Bool, nat_le, not, if◌then◌else◌, List, [], ◌∷◌, find, fold, map, take, length, Option, Some, None, is_some, option_map}
use Rattle.std.specs.List.{range_with_len}
use Rattle.km_risk.specs.declared.draws.Counts.{Counts}
use Rattle.sampler.specs.Draws.{drawn_card}
use Rattle.manifest.specs.declared.recorded.Recorded.{Recorded}
use Rattle.assorters.specs.declared.seen.Seen.{Seen}
use Rattle.session_state.specs.Content.{Content}
use Rattle.session_state.specs.Sessions.{Round}
use Rattle.audit_session.specs.declared.compared.Drawn.{Drawn}
use Rattle.audit_session.specs.declared.fault.AdvanceFault.{AdvanceFault}
use Rattle.audit_session.specs.declared.fault.AdvanceFault.TheVariants.{Smaller, NoRecord, Changed, Memory}
use Rattle.audit_session.specs.declared.seen.Unseen.{Unseen}
use Rattle.audit_session.specs.declared.seen.Unseen.TheVariants.{NoRecord as NoRecordOf, Memory as WantOfMemory}
use Rattle.audit_session.specs.Going.{all_counts, all_seen, drawn_at, drawn_cards}
use Rattle.seen_file.specs.Seen.{Entry, seen_in}

-- the number of draws at the last round
abbrev pub last_draws : List Round → ℕ
last_draws rounds = fold (λ earlier round. round.draws) 0 rounds

abbrev pub smaller : List Round → ℕ → Option AdvanceFault
smaller rounds draws =
    if nat_le draws (last_draws rounds) then Some (Smaller (last_draws rounds)) else None

module _ (seed : List ℕ) (cards : ℕ) (entries : List Entry) (draws : ℕ) where
  -- the first draw whose card has no record
  abbrev pub unseen_draw : Option ℕ
  unseen_draw =
      find (λ k. not (is_some (seen_in entries (drawn_card seed k cards))))
      (range_with_len 1 draws)

  abbrev pub without_record : Option AdvanceFault
  without_record = option_map (λ k. NoRecord (drawn_card seed k cards) k) unseen_draw

  -- the fault names that draw; memory may always run out
  abbrev pub IsUnseen : Unseen → Type 0
  IsUnseen (NoRecordOf card k) = (unseen_draw ≡ Some k) × (card ≡ drawn_card seed k cards)
  IsUnseen WantOfMemory = Unit {0}

-- the fault of a round for a draw without a record
abbrev pub as_advance_fault : Unseen → AdvanceFault
as_advance_fault (NoRecordOf card k) = NoRecord card k
as_advance_fault WantOfMemory = Memory

-- ---- the first earlier round, and its first claim, whose counts are different

abbrev pub same_counts : Counts → Counts → Bool
same_counts a b =
    (a.n0 == b.n0) && (a.n1 == b.n1) && (a.n2 == b.n2) && (a.n3 == b.n3) && (a.n4 == b.n4)

abbrev pub changed_in : ℕ → ℕ → List Counts → List Counts → Option AdvanceFault
changed_in round claim [] found = None
changed_in round claim (e ∷ expected) [] = None
changed_in round claim (e ∷ expected) (f ∷ found) =
    if same_counts e f then changed_in round (claim + 1) expected found
    else Some (Changed round claim e f)

abbrev pub first_of : {A : Type 0} → Option A → Option A → Option A
first_of None other = other
first_of (Some x) other = Some x

abbrev pub changed_from :
    List (List ℕ → ℕ) → List Drawn → ℕ → List Round → Option AdvanceFault
changed_from values drawn number [] = None
changed_from values drawn number (round ∷ rounds) =
    first_of (changed_in number 1 round.counts (all_counts values (take round.draws drawn)))
    (changed_from values drawn (number + 1) rounds)

-- a round is refused first for the draws so far, then for cards without a record, then for the counts of earlier rounds
abbrev pub refusal :
    Content → List (List ℕ → ℕ) → List Recorded → List Entry → ℕ → Option AdvanceFault
refusal content values recorded entries draws =
    let cards : ℕ = length recorded in
    let seen : List Seen = all_seen entries cards in
    let drawn : List Drawn = map (drawn_at recorded seen) (drawn_cards content.seed cards draws) in
    first_of (smaller content.session.rounds draws)
    (first_of (without_record content.seed cards entries draws)
    (changed_from values drawn 1 content.session.rounds))

-- a round is refused for this first reason; memory may always run out
abbrev pub Refuses : Option AdvanceFault → AdvanceFault → Type 0
Refuses first Memory = Unit {0}
Refuses first fault = first ≡ Some fault
