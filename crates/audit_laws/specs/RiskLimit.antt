-- The risk limit of an audit. `RiskLimit`, the last record, is the promise; the records before it are the premises. The terms
-- (`AreTerms`) and what is counted (`AreSignedOff`) are defined in `session_state/specs/RiskOfValues.antt`, for claims of any kind.
--
-- Ballots, a manifest of the cards and an assertion file are published. Cards are drawn by their numbers, each time from all of them. A
-- drawn card is looked for, its ranking is read by hand, and it is compared with its record. At the end of a round the audit may be
-- signed off. Suppose that the cards don't elect the winner of the file, or that a tie among them could be broken so that they don't.
-- Then the audit can be signed off, at any draw, on few of all sequences of n cards.
--
-- The files, the limit and gamma are given first, and the sequences are counted afterwards. So in an audit they are fixed and published
-- before the seed is known. Two choices of gamma together sign off more sequences than either alone. Take two cards that are recorded for
-- one candidate and are in truth a tie, a limit of 250,600 millionths, and seven draws. One gamma signs off 32 of 128 sequences, another
-- signs off 12, and at least one of the two signs off 34, but the limit allows 32. There is only one seed: an audit that begins again with
-- another seed is the same audit's second try. The ends of the rounds may be left open.
--
-- The promise is a count, and says nothing about chance. It is up to the seed to make every sequence as easy to draw as every other.
use Rattle.std.specs.Prelude.{◌≢◌, ◌≡◌, ℕ, ◌*◌, ◌^◌, ◌≤◌, List, length, None, Ok, IsTrue}
use Rattle.budget.specs.declared.budget.Budget.{Budget}
use Rattle.irv_base.specs.Orders.{is_order, Elects}
use Rattle.irv_base.specs.Tabulation.{is_possible}
use Rattle.ballots.specs.Ballots.{BallotFile, IsSound as AreSound}
use Rattle.assertion_file.specs.Content.{Content, IsSound, candidate_count}
use Rattle.cover_checker.specs.Checks.{IsAnswer}
use Rattle.cover_checker.specs.declared.checked.Checked.TheVariants.{Accepted}
use Rattle.manifest.specs.Cards.{Batches, AreBatches, cards_of}
use Rattle.manifest.specs.Linked.{linked_of, first_without_card}
use Rattle.km_risk.specs.Exact.{millionths_in_one}
use Rattle.session_state.specs.Claims.{audited}
use Rattle.session_state.specs.RiskOfValues.{AreTerms, AreSignedOff}

-- ---- what is given

-- three files that the calls of the suite found to be fit
pub record ArePublished (budget : Budget) (batches : Batches) (ballots : BallotFile)
    (file : Content) : Type 0 where
  -- what the readers guarantee about a manifest, about ballots and about an assertion file
  pub manifest_sound : AreBatches batches.ids batches.counts
  pub ballots_sound : AreSound ballots
  pub file_sound : IsSound file
  -- each ballot has a card
  pub linked : first_without_card batches ballots ≡ None
  -- the check of the assertion file says yes
  pub accepted : IsAnswer budget ballots file (Ok Accepted)

-- the actual rankings of the cards, whatever they are: some way of breaking their ties elects another candidate
pub record MayElectAnother (n winner cards : ℕ) (actual : List (List ℕ)) : Type 0 where
  pub one_each : length actual ≡ cards
  pub order : List ℕ
  pub permutation : IsTrue (is_order n order)
  pub possible : IsTrue (is_possible actual order)
  pub other : ℕ
  pub differs : other ≢ winner
  pub elects : Elects order other

-- ---- what is promised

-- on at most limit millionths of all cards ^ n sequences, a session of the file's claims may be signed off
abbrev pub RiskLimit : Type 0
RiskLimit =
    (budget : Budget) (limit gamma n : ℕ) (batches : Batches) (ballots : BallotFile) (file : Content)
    (actual sequences : List (List ℕ)) →
    ArePublished budget batches ballots file →
    AreTerms limit gamma →
    MayElectAnother (candidate_count file) file.winner (length (cards_of batches)) actual →
    AreSignedOff limit gamma (audited file) (linked_of batches ballots) actual n sequences →
    length sequences * millionths_in_one ≤ limit * length (cards_of batches) ^ n
