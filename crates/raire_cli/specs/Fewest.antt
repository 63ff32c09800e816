-- What it means for assertions with the fewest NENs to confirm the winner of some records.
use Rattle.std.specs.Prelude.{◌≡◌, ◌⊎◌, ◌-◌, ◌^◌, ◌≤◌, ◌<◌, ℕ, List, All, Contains, Option, None, Some, IfSome, IsSomeAnd, Ok, IsTrue, length, map, option_map}
use Rattle.desk.specs.Desk.{File, held_bytes}
use Rattle.assertions.specs.declared.assertion.Assertion.{Assertion}
use Rattle.assertions.specs.declared.assertion.Claim.{Claim}
use Rattle.assertions.specs.Assertions.{is_proper, is_true, true_margin}
use Rattle.assertions.specs.Refutation.{refutes}
use Rattle.assertions.specs.Suffixes.{IsAlternative}
use Rattle.fewest.specs.Nens.{nen_count}
use Rattle.ballots.specs.Ballots.{BallotFile}
use Rattle.ballots.specs.Grammar.{ballots_of}
use Rattle.assertion_file.specs.Content.{Content}
use Rattle.assertion_file.specs.Text.{assertion_file_text}
use Rattle.report.specs.Texts.{order_text}
use Rattle.trimmer.specs.Laws.{IsIrredundant}
use Rattle.cli_base.specs.Ends.{Writing, Took}
use Rattle.cli_base.specs.Script.{limit}
use Rattle.cli_base.specs.Statuses.{IsQuiet}
use Rattle.command_line.specs.declared.commands.Command.TheVariants.{SearchFewest}
use Rattle.fewest_search.specs.Gap.{least_margin}
use Rattle.contest_search.specs.Contest.{candidate_count, IsElected, IsWon}
use Rattle.contest_search.specs.Fewest.{fewest_sets_of}
use Rattle.search_commands.specs.Search.{full_count_lines, has_cards, plan_by}
use Rattle.raire_cli.specs.Asks.{Asks}
use Rattle.raire_cli.specs.Confirmation.{ClaimHolds, GivesReason, IsHardest, IsLeast}

-- ---- as few NENs as possible

-- the list has assertions among n candidates, each true of the records by at least this margin
abbrev pub AreTrueBy : ℕ → List (List ℕ) → ℕ → List Assertion → Type 0
AreTrueBy n records least list =
    All (λ a. IsTrue (is_proper n a) × IsTrue (is_true records a) × (least ≤ true_margin records a)) list

-- together they refute every elimination order that elects another candidate
abbrev pub RuleOut : ℕ → ℕ → List Assertion → Type 0
RuleOut n winner list =
    (order : List ℕ) → IsAlternative n winner order →
    (a : Assertion) × Contains list a × IsTrue (refutes a order)

-- no other assertions that rule out these orders have fewer NENs, if each of them is true by at least this margin
abbrev pub HasFewestNens : ℕ → List (List ℕ) → ℕ → ℕ → Content → Type 0
HasFewestNens n records winner least file =
    (others : List Assertion) → AreTrueBy n records least others → RuleOut n winner others →
    nen_count (map (λ claim. claim.assertion) file.claims) ≤ nen_count others

-- this is the best margin: every order that elects another candidate is refuted by a true assertion with at least this margin, and one of
-- these orders isn't refuted by any true assertion with a larger margin
pub record IsBestMargin (n : ℕ) (records : List (List ℕ)) (winner margin : ℕ) : Type 0 where
  pub least : IsLeast n records winner margin
  pub order : List ℕ
  pub hardest : IsHardest n records winner order margin

-- the assertions are all true of the records, and refute every elimination order that elects another candidate; the margin is the smallest
-- of their margins, and there is an order only if this margin is the best one
pub record ConfirmsBelow (n : ℕ) (records : List (List ℕ)) (winner best : ℕ) (file : Content)
    : Type 0 where
  pub hold : All (ClaimHolds n records) file.claims
  pub cover : (order : List ℕ) → IsAlternative n winner order →
      (claim : Claim) × Contains file.claims claim × IsTrue (refutes claim.assertion order)
  pub reached : (claim : Claim) × Contains file.claims claim × (claim.margin ≡ file.margin)
  pub smallest : All (λ claim. file.margin ≤ claim.margin) file.claims
  pub not_above : file.margin ≤ best
  pub at_best : file.margin ≡ best →
      IsSomeAnd file.order (λ order. IsHardest n records winner order file.margin)
  pub below_best : file.margin < best → file.order ≡ None

-- ---- a search for the fewest NENs

-- its file is held and accepted; if the words give a number of cards, there are at least as many cards as ballots of the contest; the
-- tabulated order elects this candidate
pub record AsksForFewest (words : List (List ℕ)) (files : List File) (ballots : BallotFile)
    (winner : ℕ) : Type 0 where
  pub search : Asks SearchFewest words
  pub bytes : List ℕ
  pub held : held_bytes search.task.ballots files ≡ Some bytes
  pub accepted : ballots_of bytes search.task.contest ≡ Ok ballots
  pub cards : IsTrue (has_cards search.task.plan ballots)
  pub won : IsWon ballots winner

-- this file confirms the winner of the contest that the words ask about with the fewest NENs; every way of breaking the contest's ties
-- elects this winner; the best margin reaches the floor, and the file's margin isn't below the best one by more than the gap
pub record ConfirmsFewest (words : List (List ℕ)) (files : List File) (file : Content) : Type 0 where
  pub ballots : BallotFile
  pub winner : ℕ
  pub asks : AsksForFewest words files ballots winner
  pub elected : IsElected ballots winner
  pub contest : file.contest ≡ ballots.contest
  pub candidates : file.candidates ≡ ballots.candidates
  pub records : file.records ≡ length ballots.rankings
  pub named : file.winner ≡ winner
  pub best : ℕ
  pub is_best : IsBestMargin (candidate_count ballots) ballots.rankings winner best
  pub floor : asks.search.task.floor ≤ best
  pub confirms : ConfirmsBelow (candidate_count ballots) ballots.rankings winner best file
  pub least : least_margin asks.search.task.gap best ≤ file.margin
  pub fewest : HasFewestNens (candidate_count ballots) ballots.rankings winner
      (least_margin asks.search.task.gap best) file
  -- if there are as many sets as are ever needed, each of its assertions is needed
  pub needed : 2 ^ candidate_count ballots - 3 ≤ asks.search.task.sets → IsIrredundant file
  -- if the words give a number of cards, it has the clean draws of its assertions
  pub plan : file.plan ≡ option_map (plan_by file) asks.search.task.plan

-- this text gives an order as the reason for a full count of that contest, the way a search gives it
pub record GivesFewestReason (words : List (List ℕ)) (files : List File) (text : List ℕ) : Type 0 where
  pub ballots : BallotFile
  pub winner : ℕ
  pub asks : AsksForFewest words files ballots winner
  pub elected : IsElected ballots winner
  pub order : List ℕ
  pub margin : ℕ
  pub below : margin < asks.search.task.floor
  pub reason : IsHardest (candidate_count ballots) ballots.rankings winner order margin
  pub least : IsLeast (candidate_count ballots) ballots.rankings winner margin
  pub shown : text ≡ full_count_lines (order_text ballots.candidates order) margin asks.search.task.floor

-- ---- what `run` promises

-- Status 0 of a search for the fewest NENs: every way of breaking ties elects the winner. The printed assertions are all true of the
-- records, and refute every elimination order that elects another candidate. The printed margin is the smallest of their margins. It isn't
-- below the best margin by more than the gap. If it is the best margin, an order is printed that no true assertion with a larger margin
-- refutes. No true assertions that refute all these orders, with margins that aren't below the best one by more than the gap, have fewer
-- NENs. If there are as many sets as are ever needed, each printed assertion is needed. If the words give a number of cards, the printed
-- draws are those of a clean audit. Otherwise no draws are printed.
abbrev pub IsFewest : Option (List File) → List (List ℕ) → ℕ → Writing → Type 0
IsFewest held words status out =
    IfSome held (λ files. Asks SearchFewest words → status ≡ 0 →
    (file : Content) × ConfirmsFewest words files file × Took out (assertion_file_text file))

-- Status 5: every way of breaking ties elects the winner. An order that elects another candidate is printed, and no true assertion whose
-- margin reaches the floor refutes it.
abbrev pub IsReasoned : Option (List File) → List (List ℕ) → ℕ → Writing → Type 0
IsReasoned held words status out =
    IfSome held (λ files. status ≡ 5 →
    (text : List ℕ) × (GivesReason words files text ⊎ GivesFewestReason words files text) × Took out text)

-- The words ask for a search for the fewest NENs over a file that is held, not too long and accepted. If they give a number of cards,
-- there are at least as many cards as ballots. The contest is decided, and there are as many sets as are needed.
pub record IsFewestSearchable (words : List (List ℕ)) (files : List File) : Type 0 where
  pub ballots : BallotFile
  pub winner : ℕ
  pub asks : AsksForFewest words files ballots winner
  pub decided : IsElected ballots winner
  pub is_short : length asks.bytes ≤ limit
  pub budget : fewest_sets_of ballots winner ≤ asks.search.task.sets

-- If memory was found and no count of faults rose, a search like this ends with its assertions or with a reason for a full count.
abbrev pub IsFewestComplete : Option (List File) → List (List ℕ) → Type 0 → ℕ → Writing → Writing →
    Type 0
IsFewestComplete held words failed status out err =
    IfSome held (λ files. IsFewestSearchable words files → IsQuiet failed out err →
    (status ≡ 0) ⊎ (status ≡ 5) ⊎ (status ≡ 9))
