-- A ballot file comes in pieces, and is read as far as possible.
use Rattle.std.proofs.Common.{◌≡◌, ◌∙◌, ◌++◌, [], ℕ, List, Option, refl, sym, subst, append_assoc, length, false}
use Rattle.std.proofs.lemmas.Bool.{false≢true}
use Rattle.std.proofs.lemmas.List.{append-nil}
use Rattle.csv_rows.specs.Fields.{numbered_records}
use Rattle.csv_rows.specs.Pieces.{AtHand, IsBehind, can_be_read, text_of}
use Rattle.csv_rows.specs.Rows.{Fields}
use Rattle.file_fault.specs.Refusals.{Refuses}
use Rattle.file_fault.specs.declared.fault.Fault.{Fault}
use Rattle.irv_base.specs.Names.{Id}
use Rattle.ballots.specs.Grammar.{ballots_from, ballots_of}
use Rattle.ballot_reader.specs.Stages.{HasPassed, HasReached, HasRead, HasTaken, HoldsLittle, VotesSoFar}
use Rattle.ballots.specs.declared.fault.BRule.{BRule}
use Rattle.ballot_reader.specs.declared.stage.Stage.{Stage}
use Rattle.ballot_reader.specs.declared.stage.Stage.TheVariants.{Contests, Ballots, Refused}

-- once refused, a file stays refused
pub refused-on : (asked : Option Id) (rows more : List Fields) (fault : Fault BRule) → HasReached asked rows (Refused fault) →
    HasReached asked (rows ++ more) (Refused fault)
refused-on asked rows more fault refused =
    λ rest. subst (λ (l : List Fields). Refuses (ballots_from asked l) fault) (sym (append_assoc rows more rest)) (refused (more ++ rest))

still-refused : (asked : Option Id) (bytes piece : List ℕ) (fault : Fault BRule) → ((more : List ℕ) → Refuses (ballots_of (bytes ++ more) asked) fault) →
    (more : List ℕ) → Refuses (ballots_of ((bytes ++ piece) ++ more) asked) fault
still-refused asked bytes piece fault refused more =
    subst (λ (l : List ℕ). Refuses (ballots_of l asked) fault) (sym (append_assoc bytes piece more)) (refused (piece ++ more))

-- a piece is available, and nothing of it is read
pub at_hand-more : (asked : Option Id) (holds : ℕ) (old new : AtHand) (bytes piece : List ℕ) (stage : Stage) →
    ((text : List ℕ) (given : List Fields) → IsBehind text given old → IsBehind (text ++ piece) given new) →
    HasTaken (record { asked = asked; holds = holds; at_hand = old; stage = stage }) bytes → HasTaken (record { asked = asked; holds = holds; at_hand = new; stage = stage }) (bytes ++ piece)
at_hand-more asked holds old new bytes piece Contests more (rows, behind, reached) = (rows, more bytes rows behind, reached)
at_hand-more asked holds old new bytes piece (Ballots begun) more (rows, behind, reached) = (rows, more bytes rows behind, reached)
at_hand-more asked holds old new bytes piece (Refused fault) more refused = still-refused asked bytes piece fault refused

-- the number of bytes that may wait for more says nothing about what was taken
pub whatever-waits : (asked : Option Id) (holds others : ℕ) (at_hand : AtHand) (bytes : List ℕ) (stage : Stage) →
    HasTaken (record { asked = asked; holds = holds; at_hand = at_hand; stage = stage }) bytes → HasTaken (record { asked = asked; holds = others; at_hand = at_hand; stage = stage }) bytes
whatever-waits asked holds others at_hand bytes Contests taken = taken
whatever-waits asked holds others at_hand bytes (Ballots begun) taken = taken
whatever-waits asked holds others at_hand bytes (Refused fault) taken = taken

-- records are read, and the available part comes after them
pub reached-here : (asked : Option Id) (holds : ℕ) (at_hand : AtHand) (bytes : List ℕ) (rows : List Fields) (stage : Stage) → IsBehind bytes rows at_hand →
    HasReached asked rows stage → HasTaken (record { asked = asked; holds = holds; at_hand = at_hand; stage = stage }) bytes
reached-here asked holds at_hand bytes rows Contests behind reached = (rows, behind, reached)
reached-here asked holds at_hand bytes rows (Ballots begun) behind reached = (rows, behind, reached)
reached-here asked holds at_hand bytes rows (Refused fault) behind refused =
    λ more. subst (λ (l : List Fields). Refuses (ballots_from asked l) fault) (sym (behind.says more)) (refused (numbered_records (text_of at_hand ++ more)))

-- what isn't refused has been read so far
pub has-read : (reader : VotesSoFar) (bytes : List ℕ) (stage : Stage) → reader.stage ≡ stage → ((fault : Fault BRule) → stage ≡ Refused fault → ⊥) →
    HasTaken reader bytes → HasRead reader bytes
has-read reader bytes stage is going taken = by reader.stage (λ fault e. going fault (sym is ∙ e)) taken where
  by : (s : Stage) → ((fault : Fault BRule) → s ≡ Refused fault → ⊥) → HasTaken (record { asked = reader.asked; holds = reader.holds; at_hand = reader.at_hand; stage = s }) bytes →
      HasRead (record { asked = reader.asked; holds = reader.holds; at_hand = reader.at_hand; stage = s }) bytes
  by Contests going taken = taken
  by (Ballots begun) going taken = taken
  by (Refused fault) going taken = absurd (going fault refl)

pub refused-more : (reader : VotesSoFar) (bytes piece : List ℕ) (fault : Fault BRule) → reader.stage ≡ Refused fault → HasTaken reader bytes →
    HasTaken reader (bytes ++ piece)
refused-more reader bytes piece fault is taken = by reader.stage is taken where
  by : (s : Stage) → s ≡ Refused fault → HasTaken (record { asked = reader.asked; holds = reader.holds; at_hand = reader.at_hand; stage = s }) bytes →
      HasTaken (record { asked = reader.asked; holds = reader.holds; at_hand = reader.at_hand; stage = s }) (bytes ++ piece)
  by Contests e taken = absurd cc
  by (Ballots begun) e taken = absurd cc
  by (Refused other) e taken = still-refused reader.asked bytes piece other taken

-- a file that is refused, when nothing more of it comes
pub refused-whole : (reader : VotesSoFar) (bytes : List ℕ) (fault : Fault BRule) → reader.stage ≡ Refused fault → HasTaken reader bytes →
    Refuses (ballots_of bytes reader.asked) fault
refused-whole reader bytes fault is taken = by reader.stage is taken where
  by : (s : Stage) → s ≡ Refused fault → HasTaken (record { asked = reader.asked; holds = reader.holds; at_hand = reader.at_hand; stage = s }) bytes →
      Refuses (ballots_of bytes reader.asked) fault
  by Contests e taken = absurd cc
  by (Ballots begun) e taken = absurd cc
  by (Refused other) e taken =
      let same : other ≡ fault = cc in
      subst (Refuses (ballots_of bytes reader.asked)) same
      (subst (λ (l : List ℕ). Refuses (ballots_of l reader.asked) other) (append-nil bytes) (taken []))

-- ---- what is held

short : (lines : List ℕ) → length lines ≡ 1 → can_be_read lines ≡ false
short lines h = rw h refl

-- lines that can't be read
pub held-none : (asked : Option Id) (holds : ℕ) (lines : List ℕ) → can_be_read lines ≡ false → (stage : Stage) → HoldsLittle asked holds lines stage
held-none asked holds lines none Contests = λ readable. absurd (false≢true (sym none ∙ readable))
held-none asked holds lines none (Ballots begun) = λ readable. absurd (false≢true (sym none ∙ readable))
held-none asked holds lines none (Refused fault) = tt

-- the lines were passed
pub passed-all : (reader : VotesSoFar) → length reader.at_hand.lines ≡ 1 → HasPassed reader
passed-all reader h = held-none reader.asked reader.holds reader.at_hand.lines (short reader.at_hand.lines h) reader.stage
