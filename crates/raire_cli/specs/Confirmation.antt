-- What it means for assertions to confirm the winner of some records.
use Rattle.std.specs.Prelude.{◌≡◌, ◌≤◌, ◌<◌, ℕ, List, All, Contains, Option, Some, IfSome, IsSomeAnd, Ok, IsTrue, length, option_map}
use Rattle.desk.specs.Desk.{File, held_bytes}
use Rattle.assertions.specs.declared.assertion.Assertion.{Assertion}
use Rattle.assertions.specs.declared.assertion.Claim.{Claim}
use Rattle.assertions.specs.Assertions.{is_proper, is_true, true_margin}
use Rattle.assertions.specs.Refutation.{refutes}
use Rattle.assertions.specs.Suffixes.{IsAlternative}
use Rattle.ballots.specs.Ballots.{BallotFile}
use Rattle.ballots.specs.Grammar.{ballots_of}
use Rattle.assertion_file.specs.Content.{Content}
use Rattle.assertion_file.specs.Text.{assertion_file_text}
use Rattle.report.specs.Texts.{order_text}
use Rattle.cli_base.specs.Ends.{Writing, Took}
use Rattle.command_line.specs.declared.commands.Command.TheVariants.{Search}
use Rattle.contest_search.specs.Contest.{candidate_count, IsElected, IsWon}
use Rattle.search_commands.specs.Search.{full_count_lines, has_cards, plan_by}
use Rattle.raire_cli.specs.Asks.{Asks}

-- the claim is an assertion among n candidates that is true of the records by the claimed margin
pub record ClaimHolds (n : ℕ) (records : List (List ℕ)) (claim : Claim) : Type 0 where
  pub proper : IsTrue (is_proper n claim.assertion)
  pub holds : IsTrue (is_true records claim.assertion)
  pub margin : claim.margin ≡ true_margin records claim.assertion

-- the order elects another candidate, and no true assertion with a larger margin refutes it
pub record IsHardest (n : ℕ) (records : List (List ℕ)) (winner : ℕ) (order : List ℕ)
    (margin : ℕ) : Type 0 where
  pub alternative : IsAlternative n winner order
  pub hardest : (a : Assertion) → IsTrue (is_proper n a) → IsTrue (is_true records a) →
      IsTrue (refutes a order) → true_margin records a ≤ margin

-- every order that elects another candidate is refuted by a true assertion with at least this margin
abbrev pub IsLeast : ℕ → List (List ℕ) → ℕ → ℕ → Type 0
IsLeast n records winner margin =
    (order : List ℕ) → IsAlternative n winner order →
    (a : Assertion) × IsTrue (is_proper n a) × IsTrue (is_true records a) × IsTrue (refutes a order)
    × (margin ≤ true_margin records a)

pub record Confirms (n : ℕ) (records : List (List ℕ)) (winner : ℕ) (file : Content) : Type 0 where
  -- all assertions are true of the records
  pub hold : All (ClaimHolds n records) file.claims
  -- together they refute every elimination order that elects another candidate
  pub cover : (order : List ℕ) → IsAlternative n winner order →
      (claim : Claim) × Contains file.claims claim × IsTrue (refutes claim.assertion order)
  -- the margin is the smallest of their margins
  pub reached : (claim : Claim) × Contains file.claims claim × (claim.margin ≡ file.margin)
  pub smallest : All (λ claim. file.margin ≤ claim.margin) file.claims
  -- the order that the file gives shows that no choice of assertions has a larger margin
  pub order : IsSomeAnd file.order (λ order. IsHardest n records winner order file.margin)

-- ---- a search

-- its file is held and accepted; if the words give a number of cards, there are at least as many cards as ballots of the contest; the
-- tabulated order elects this candidate
pub record AsksFor (words : List (List ℕ)) (files : List File) (ballots : BallotFile)
    (winner : ℕ) : Type 0 where
  pub search : Asks Search words
  pub bytes : List ℕ
  pub held : held_bytes search.task.ballots files ≡ Some bytes
  pub accepted : ballots_of bytes search.task.contest ≡ Ok ballots
  pub cards : IsTrue (has_cards search.task.plan ballots)
  pub won : IsWon ballots winner

-- this file confirms the winner of the contest that the words ask about by a margin that reaches the floor; every way of breaking the
-- contest's ties elects this winner
pub record ConfirmsAsked (words : List (List ℕ)) (files : List File) (file : Content) : Type 0 where
  pub ballots : BallotFile
  pub winner : ℕ
  pub asks : AsksFor words files ballots winner
  pub elected : IsElected ballots winner
  pub contest : file.contest ≡ ballots.contest
  pub candidates : file.candidates ≡ ballots.candidates
  pub records : file.records ≡ length ballots.rankings
  pub named : file.winner ≡ winner
  pub floor : asks.search.task.floor ≤ file.margin
  pub confirms : Confirms (candidate_count ballots) ballots.rankings winner file
  -- if the words give a number of cards, it has the clean draws of its assertions
  pub plan : file.plan ≡ option_map (plan_by file) asks.search.task.plan

-- this text gives an order as the reason for a full count: the order elects a candidate other than the winner of the contest that the words
-- ask about, and no true assertion whose margin reaches the floor refutes it; every way of breaking the contest's ties elects this winner
pub record GivesReason (words : List (List ℕ)) (files : List File) (text : List ℕ) : Type 0 where
  pub ballots : BallotFile
  pub winner : ℕ
  pub asks : AsksFor words files ballots winner
  pub elected : IsElected ballots winner
  pub order : List ℕ
  pub margin : ℕ
  pub below : margin < asks.search.task.floor
  pub reason : IsHardest (candidate_count ballots) ballots.rankings winner order margin
  -- every order that elects another candidate is refuted by a true assertion with at least that margin
  pub least : IsLeast (candidate_count ballots) ballots.rankings winner margin
  pub shown : text ≡ full_count_lines (order_text ballots.candidates order) margin asks.search.task.floor

-- ---- what `run` promises

-- Status 0 of a search: every way of breaking ties elects the winner. The printed assertions are all true of the records, and refute every
-- elimination order that elects another candidate. The printed margin is the smallest of their margins, and no true assertion with a larger
-- margin refutes the printed order. If the words give a number of cards, the printed draws are those of a clean audit. Otherwise no draws
-- are printed.
abbrev pub IsConfirmed : Option (List File) → List (List ℕ) → ℕ → Writing → Type 0
IsConfirmed held words status out = IfSome held (λ files. Asks Search words → status ≡ 0 →
    (file : Content) × ConfirmsAsked words files file × Took out (assertion_file_text file))
