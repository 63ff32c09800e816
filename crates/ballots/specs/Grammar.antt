-- What a ballot file says, or why it is refused and at which place.
use Rattle.std.specs.Prelude.{ℕ, zero, suc, ◌+◌, Bool, true, false, not, ◌&&◌, ◌||◌, nat_le, nat_lt, if◌then◌else◌, List, [], ◌∷◌, ◌++◌, map, filter, find, take, drop, length, Option, Some, None, option_map, option_and_then, Result, Ok, Err, codes}
use Rattle.std.specs.List.{list_all, list_any}
use Rattle.csv_rows.specs.Fields.{numbered_records}
use Rattle.csv_rows.specs.Numbers.{number_of}
use Rattle.csv_rows.specs.Rows.{Fields}
use Rattle.file_fault.specs.Refusals.{Refusal, and_then, refused}
use Rattle.irv_base.specs.Names.{Id, is_name, is_same, is_among, all_differ, candidate_named}
use Rattle.irv_base.specs.Records.{firsts}
use Rattle.irv_base.specs.declared.limits.TheConstants.{FEWEST_CANDIDATES, MOST_CANDIDATES, MOST_RECORDS}
use Rattle.ballots.specs.Ballots.{BallotFile}
use Rattle.ballots.specs.declared.fault.BRule.{BRule}
use Rattle.ballots.specs.declared.fault.BRule.TheVariants.{B1, B2, B3, B4, B5, B6, B7, B8, B9, B10}
use Rattle.ballots.specs.declared.limits.TheConstants.{MOST_CONTESTS, MOST_LISTED}

-- the values that f gives for the elements, if it gives one for each of them
abbrev pub all_of : {A B : Type 0} → (A → Option B) → List A → Option (List B)
all_of f [] = Some []
all_of f (x ∷ xs) = option_and_then (λ y. option_map (λ ys. y ∷ ys) (all_of f xs)) (f x)

-- ---- the first record: the number of contests

abbrev pub number_up_to : ℕ → List ℕ → Option ℕ
number_up_to most text =
    option_and_then (λ n. if nat_le 1 n && nat_le n most then Some n else None) (number_of text)

abbrev pub contest_count : Fields → Option ℕ
contest_count [] = None
contest_count (number ∷ rest) = number_up_to MOST_CONTESTS number

-- ---- a contest's record: `Contest`, its id, the number of its candidates, and at least as many ids

-- at is the number of its record
pub record Contest : Type 0 where
  pub at : ℕ
  pub id : Id
  pub candidates : List Id

abbrev pub has_id : Id → Contest → Bool
has_id id contest = is_same contest.id id

-- this many ids from the front of the list, if there are that many
abbrev pub listed : Option ℕ → List Id → Option (List Id)
listed None ids = None
listed (Some n) ids = if nat_le n (length ids) then Some (take n ids) else None

abbrev pub are_names : List Id → Bool
are_names ids = list_all is_name ids && all_differ ids

abbrev pub names_of : List Id → Option (List Id)
names_of ids = if are_names ids then Some ids else None

abbrev pub contest_named : ℕ → Id → Option (List Id) → Result Contest BRule
contest_named at id None = Err B4
contest_named at id (Some candidates) = Ok (record { at = at; id = id; candidates = candidates })

abbrev pub contest_with : ℕ → Id → Option (List Id) → Result Contest BRule
contest_with at id None = Err B3
contest_with at id (Some ids) = if is_name id then contest_named at id (names_of ids) else Err B4

-- the contest, or the first rule that its record breaks, given the contests before it
abbrev pub contest_of : List Contest → ℕ → Fields → Result Contest BRule
contest_of earlier at [] = Err B2
contest_of earlier at (word ∷ []) = Err B2
contest_of earlier at (word ∷ id ∷ []) = Err B2
contest_of earlier at (word ∷ id ∷ number ∷ ids) =
    if not (is_same word (codes "Contest")) || list_any (has_id id) earlier then Err B2
    else contest_with at id (listed (number_up_to MOST_LISTED number) ids)

-- n more contests come after these, the first in record number at; a missing one is refused at the number after the last record
abbrev pub contests_in : ℕ → List Contest → ℕ → List Fields → Result (List Contest) (Refusal BRule)
contests_in zero earlier at rows = Ok earlier
contests_in (suc n) earlier at [] = refused B2 at
contests_in (suc n) earlier at (row ∷ rows) =
    and_then at (contest_of earlier at row) (λ contest.
    contests_in n (earlier ++ contest ∷ []) (at + 1) rows)

-- ---- the contest that is audited: the one asked for, or the only one

abbrev pub contest_with_id : List Contest → Id → Option Contest
contest_with_id contests id = find (has_id id) contests

abbrev pub only_contest : List Contest → Option Contest
only_contest [] = None
only_contest (contest ∷ []) = Some contest
only_contest (contest ∷ next ∷ rest) = None

abbrev pub asked_for : List Contest → Option Id → Option Contest
asked_for contests None = only_contest contests
asked_for contests (Some id) = contest_with_id contests id

abbrev pub has_audited_size : List Id → Bool
has_audited_size candidates =
    nat_le FEWEST_CANDIDATES (length candidates) && nat_le (length candidates) MOST_CANDIDATES

-- the contest that was asked for, or its refusal: it isn't there, or it has too few or too many candidates to be audited
abbrev pub audited_contest : Option Contest → Result Contest (Refusal BRule)
audited_contest None = refused B5 1
audited_contest (Some contest) =
    if has_audited_size contest.candidates then Ok contest else refused B3 contest.at

-- ---- a ballot's record: the id of its contest, its own id, and preferences, the most preferred first

-- at is the number of its record
pub record Ballot : Type 0 where
  pub at : ℕ
  pub contest : Id
  pub id : Id
  pub ranking : List ℕ

abbrev pub ballots_in : Id → List Ballot → List Ballot
ballots_in contest ballots = filter (λ ballot. is_same ballot.contest contest) ballots

abbrev pub ballot_ids : Id → List Ballot → List Id
ballot_ids contest ballots = map (λ ballot. ballot.id) (ballots_in contest ballots)

abbrev pub is_marked : Id → Bool
is_marked [] = false
is_marked (b ∷ rest) = true

-- blank preferences are skipped, and each candidate counts at its first place
abbrev pub ranking_of : List Id → Fields → Option (List ℕ)
ranking_of candidates preferences =
    option_map firsts (all_of (candidate_named candidates) (filter is_marked preferences))

abbrev pub ballot_with : ℕ → Id → Id → Option (List ℕ) → Result Ballot BRule
ballot_with at contest id None = Err B8
ballot_with at contest id (Some ranking) =
    Ok (record { at = at; contest = contest; id = id; ranking = ranking })

abbrev pub ballot_for : List Ballot → ℕ → Id → Fields → Option Contest → Result Ballot BRule
ballot_for earlier at id preferences None = Err B7
ballot_for earlier at id preferences (Some contest) =
    if is_among (ballot_ids contest.id earlier) id then Err B9
    else ballot_with at contest.id id (ranking_of contest.candidates preferences)

abbrev pub ballot_in : List Contest → List Ballot → ℕ → Fields → Result Ballot BRule
ballot_in contests earlier at [] = Err B6
ballot_in contests earlier at (of ∷ []) = Err B6
ballot_in contests earlier at (of ∷ id ∷ preferences) =
    if is_name id then ballot_for earlier at id preferences (contest_with_id contests of)
    else Err B4

-- the ballot, or the first rule that its record breaks, given the ballots before it
abbrev pub ballot_of : List Contest → List Ballot → ℕ → Fields → Result Ballot BRule
ballot_of contests earlier at row =
    if nat_lt (length earlier) MOST_RECORDS then ballot_in contests earlier at row else Err B10

-- these ballots, followed by those in the records from number at on
abbrev pub ballots_after :
    List Contest → List Ballot → ℕ → List Fields → Result (List Ballot) (Refusal BRule)
ballots_after contests earlier at [] = Ok earlier
ballots_after contests earlier at (row ∷ rows) =
    and_then at (ballot_of contests earlier at row) (λ ballot.
    ballots_after contests (earlier ++ ballot ∷ []) (at + 1) rows)

-- ---- the file

-- only the ballots of one contest
abbrev pub file_of : Contest → List Ballot → BallotFile
file_of contest ballots = record {
  contest = contest.id;
  candidates = contest.candidates;
  ids = map (λ ballot. ballot.id) (ballots_in contest.id ballots);
  places = map (λ ballot. ballot.at) (ballots_in contest.id ballots);
  rankings = map (λ ballot. ballot.ranking) (ballots_in contest.id ballots);
}

abbrev pub then_on :
    {A B : Type 0} → Result A (Refusal BRule) → (A → Result B (Refusal BRule)) →
    Result B (Refusal BRule)
then_on (Ok value) more = more value
then_on (Err refusal) more = Err refusal

-- the records after n contests are ballots
abbrev pub ballots_behind : Option ℕ → Option Id → List Fields → Result BallotFile (Refusal BRule)
ballots_behind None asked rows = refused B1 1
ballots_behind (Some n) asked rows =
    then_on (contests_in n [] 2 rows) (λ contests.
    then_on (audited_contest (asked_for contests asked)) (λ audited.
    then_on (ballots_after contests [] (2 + n) (drop n rows)) (λ ballots.
    Ok (file_of audited ballots))))

abbrev pub ballots_from : Option Id → List Fields → Result BallotFile (Refusal BRule)
ballots_from asked [] = refused B1 1
ballots_from asked (first ∷ rows) = ballots_behind (contest_count first) asked rows

-- what a file says of the contest that is asked for, or of its only contest if none is asked for
abbrev pub ballots_of : List ℕ → Option Id → Result BallotFile (Refusal BRule)
ballots_of bytes asked = ballots_from asked (numbered_records bytes)

-- ---- all contests of the file

abbrev pub unless_unsized : List Contest → Option Contest → Result (List Contest) (Refusal BRule)
unless_unsized contests None = Ok contests
unless_unsized contests (Some contest) = refused B3 contest.at

-- all contests, or the refusal of the first that has too few or too many candidates to be audited
abbrev pub all_audited : List Contest → Result (List Contest) (Refusal BRule)
all_audited contests =
    unless_unsized contests (find (λ contest. not (has_audited_size contest.candidates)) contests)

-- the records after n contests are ballots
abbrev pub contests_behind : Option ℕ → List Fields → Result (List BallotFile) (Refusal BRule)
contests_behind None rows = refused B1 1
contests_behind (Some n) rows =
    then_on (contests_in n [] 2 rows) (λ contests.
    then_on (all_audited contests) (λ audited.
    then_on (ballots_after contests [] (2 + n) (drop n rows)) (λ ballots.
    Ok (map (λ contest. file_of contest ballots) audited))))

abbrev pub contests_from : List Fields → Result (List BallotFile) (Refusal BRule)
contests_from [] = refused B1 1
contests_from (first ∷ rows) = contests_behind (contest_count first) rows

-- what a file says of each of its contests, in order
abbrev pub contests_of : List ℕ → Result (List BallotFile) (Refusal BRule)
contests_of bytes = contests_from (numbered_records bytes)
