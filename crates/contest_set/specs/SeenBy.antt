-- What a seen file of several contests says, or which rule it breaks first, and in which record. A record has the id of a card, the id of a
-- contest, and then what a record of a seen file of one contest has after its card.
use Rattle.std.specs.Prelude.{ℕ, List, [], ◌∷◌, find, filter, map, Option, Some, None, Result, Ok, Err}
use Rattle.csv_rows.specs.Fields.{numbered_records}
use Rattle.csv_rows.specs.Rows.{Fields}
use Rattle.irv_base.specs.Names.{Id, is_same}
use Rattle.ballots.specs.Ballots.{BallotFile}
use Rattle.manifest.specs.Cards.{Batches}
use Rattle.seen_file.specs.Reading.{card_of, entry_of_card, read_after, with_card}
use Rattle.file_fault.specs.Refusals.{Refusal}
use Rattle.seen_file.specs.Seen.{Entry}
use Rattle.seen_file.specs.declared.fault.VRule.{VRule}
use Rattle.seen_file.specs.declared.fault.VRule.TheVariants.{V1, V6}

abbrev pub contest_ids : List BallotFile → List Id
contest_ids list = map (λ ballots. ballots.contest) list

-- the ballots of the contest with this id
abbrev pub ballots_for : List BallotFile → Id → Option BallotFile
ballots_for list id = find (λ ballots. is_same ballots.contest id) list

-- ---- what is seen of a card for a contest

pub record ContestEntry : Type 0 where
  pub contest : Id
  pub entry : Entry

-- for one contest
abbrev pub entries_for : Id → List ContestEntry → List Entry
entries_for contest entries =
    map (λ seen. seen.entry) (filter (λ seen. is_same seen.contest contest) entries)

-- for each contest
abbrev pub seen_for_each : List BallotFile → List ContestEntry → List (List Entry)
seen_for_each list entries = map (λ ballots. entries_for ballots.contest entries) list

-- ---- a record

abbrev pub for_contest : Id → Result Entry VRule → Result ContestEntry VRule
for_contest contest (Ok entry) = Ok (record { contest = contest; entry = entry })
for_contest contest (Err rule) = Err rule

-- the entry of a record after these entries; those of other contests don't matter
abbrev pub entry_for : List ContestEntry → Id → Fields → ℕ → Option BallotFile →
    Result ContestEntry VRule
entry_for earlier word rest card None = Err V6
entry_for earlier word rest card (Some ballots) =
    for_contest ballots.contest
    (entry_of_card ballots.candidates (entries_for ballots.contest earlier) word rest card)

-- the entry of a record, or the first rule that the record breaks
abbrev pub contest_entry_of : Batches → List BallotFile → List ContestEntry → Fields →
    Result ContestEntry VRule
contest_entry_of batches list earlier [] = Err V1
contest_entry_of batches list earlier (id ∷ []) = Err V1
contest_entry_of batches list earlier (id ∷ contest ∷ []) = Err V1
contest_entry_of batches list earlier (id ∷ contest ∷ word ∷ rest) =
    with_card (card_of batches id word rest)
    (λ card. entry_for earlier word rest card (ballots_for list contest))

-- ---- the file

abbrev pub for_each_contest : List BallotFile → Result (List ContestEntry) (Refusal VRule) →
    Result (List (List Entry)) (Refusal VRule)
for_each_contest list (Ok entries) = Ok (seen_for_each list entries)
for_each_contest list (Err refusal) = Err refusal

-- what is seen for each contest, by these records
abbrev pub seen_by_rows : Batches → List BallotFile → List Fields →
    Result (List (List Entry)) (Refusal VRule)
seen_by_rows batches list rows =
    for_each_contest list (read_after (contest_entry_of batches list) [] 1 rows)

abbrev pub seen_by : Batches → List BallotFile → List ℕ → Result (List (List Entry)) (Refusal VRule)
seen_by batches list bytes = seen_by_rows batches list (numbered_records bytes)
