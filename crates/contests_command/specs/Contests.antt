-- `contests BALLOTS MANIFEST SEEN`: all contests of a ballot file, audited on one sample of cards.
use Rattle.std.specs.Prelude.{◌≡◌, ◌⊎◌, ◌≤◌, ℕ, List, [], ◌∷◌, length, None, Some, IsTrue, ⊤}
use Rattle.irv_base.specs.Names.{all_differ}
use Rattle.ballots.specs.Ballots.{BallotFile}
use Rattle.ballots.specs.Grammar.{contests_of}
use Rattle.ballots.specs.declared.limits.TheConstants.{MOST_CONTESTS}
use Rattle.manifest.specs.Cards.{Batches}
use Rattle.manifest.specs.Manifest.{manifest_of}
use Rattle.seen_file.specs.Seen.{Entry}
use Rattle.contest_search.specs.Budget.{nodes_for}
use Rattle.contest_search.specs.Contest.{IsOther, IsWon}
use Rattle.contest_set.specs.Ends.{AreEnds}
use Rattle.contest_set.specs.Refusals.{FirstLacksRecord, first_without_card_of_all}
use Rattle.contest_set.specs.SeenBy.{contest_ids, seen_by}
use Rattle.contest_set.specs.declared.end.ContestEnd.{ContestEnd}
use Rattle.contest_set.specs.declared.end.ContestEnd.TheVariants.{Tied, Spent, Audited}
use Rattle.contest_set.specs.declared.terms.SharedTerms.{SharedTerms}
use Rattle.cli_base.specs.Confirmed.{confirmed_kind}
use Rattle.cli_base.specs.Outcome.{Verdict, Answered, Refused}
use Rattle.cli_base.specs.Script.{Script, Read, Ends}
use Rattle.cli_base.specs.declared.outcome.AnswerKind.{AnswerKind}
use Rattle.cli_base.specs.declared.outcome.AnswerKind.TheVariants.{Done, Unconfirmed}
use Rattle.command.specs.declared.contests.ContestsTask.{ContestsTask}
use Rattle.input_files.specs.Judged.{told, go_on}
use Rattle.input_files.specs.Refusals.{no_card, no_record_text, refused_ballots, refused_manifest, refused_seen}
use Rattle.contests_command.specs.Table.{all_signed, contests_table}

-- ---- how it ends

-- the terms that all contests share
abbrev pub terms_of : ContestsTask → SharedTerms
terms_of task = record {
  seed = task.seed;
  draws = task.draws;
  limit = task.limit;
  gamma = task.gamma;
  workers = task.workers;
  nodes = task.nodes;
}

-- with what is seen for each contest
module _ (task : ContestsTask) (list : List BallotFile) (batches : Batches)
    (seen : List (List Entry)) where
  -- a ballot has no card
  pub record IsUnplaced (verdict : Verdict) : Type 0 where
    pub at : ℕ
    pub first : first_without_card_of_all batches list ≡ Some at
    pub refused : verdict ≡ no_card task.ballots at

  -- a drawn card has no record for a contest that has a winner
  pub record IsUnseen (verdict : Verdict) : Type 0 where
    pub placed : first_without_card_of_all batches list ≡ None
    pub contest : ℕ
    pub card : ℕ
    pub k : ℕ
    pub lacks : FirstLacksRecord batches (terms_of task) list seen contest card k
    pub refused : verdict ≡ Refused task.seen (no_record_text card k)

  -- each contest ends by itself, and the ends are printed
  pub record IsTold (verdict : Verdict) : Type 0 where
    pub placed : first_without_card_of_all batches list ≡ None
    pub ends : List ContestEnd
    pub are : AreEnds batches (terms_of task) list seen ends
    pub told : verdict
        ≡ Answered (confirmed_kind (all_signed ends)) (contests_table task.limit list ends)

  abbrev pub Audits : Verdict → Type 0
  Audits verdict = IsUnplaced verdict ⊎ IsUnseen verdict ⊎ IsTold verdict

-- ---- the files, the last one first

module _ (task : ContestsTask) where
  -- the command reads what is seen of the cards
  abbrev pub after_manifest : List BallotFile → Batches → Script
  after_manifest list batches = Read task.seen (λ bytes.
      go_on (told (refused_seen task.seen) (seen_by batches list bytes)) (λ seen.
      Ends (Audits task list batches seen)))

  -- the command reads the manifest
  abbrev pub after_ballots : List BallotFile → Script
  after_ballots list = Read task.manifest (λ bytes.
      go_on (told (refused_manifest task.manifest) (manifest_of bytes)) (after_manifest list))

  abbrev pub script : Script
  script = Read task.ballots (λ bytes.
      go_on (told (refused_ballots task.ballots) (contests_of bytes)) after_ballots)

-- the kinds of its answers
abbrev pub kinds : List AnswerKind
kinds = Done ∷ Unconfirmed ∷ []

-- ---- nodes that suffice

-- there are as many nodes as may be needed for each candidate whom the tabulated order doesn't elect
abbrev pub SufficeFor : ℕ → BallotFile → Type 0
SufficeFor nodes ballots =
    (winner c : ℕ) (won : IsWon ballots winner) → IsOther ballots winner c →
    nodes_for ballots won.order winner c ≤ nodes

-- the contest isn't out of budget
abbrev pub IsUnspent : ContestEnd → Type 0
IsUnspent (Tied round tied tally) = ⊤
IsUnspent (Spent last order margin) = ⊥
IsUnspent (Audited file counts risks signed) = ⊤

-- ---- facts about contests that have been read

pub record AreContests (list : List BallotFile) : Type 0 where
  pub few : length list ≤ MOST_CONTESTS
  pub differ : IsTrue (all_differ (contest_ids list))
