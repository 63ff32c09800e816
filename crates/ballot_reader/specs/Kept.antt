-- The data kept for ballots that are read record by record.
use Rattle.std.specs.Prelude.{◌≡◌, ◌<◌, ◌≤◌, ◌+◌, ◌++◌, ◌∷◌, [], ◌==◌, ℕ, Bool, true, false, List, map, length, nat_lt, All, IsTrue, IfSome, Option, Some, None, option_map, Result, Err, if◌then◌else◌}
use Rattle.std.specs.List.{slice_get}
use Rattle.irv_base.specs.Candidates.{is_distinct}
use Rattle.irv_base.specs.Names.{Id, all_differ}
use Rattle.irv_base.specs.declared.limits.TheConstants.{MOST_RECORDS}
use Rattle.set_tallies.specs.declared.bag.TheConstants.{ALWAYS_SUMMED}
use Rattle.ballots.specs.Ballots.{BallotFile}
use Rattle.ballots.specs.Grammar.{Ballot, Contest, ballot_ids, ballots_in, has_audited_size}
use Rattle.ballot_ids.specs.Noted.{AreNoted}
use Rattle.ballots.specs.declared.fault.BRule.{BRule}
use Rattle.file_fault.specs.declared.fault.Fault.{Fault}
use Rattle.file_fault.specs.declared.fault.Fault.TheVariants.{Refused, Memory}
use Rattle.ballot_ids.specs.declared.noted.Noted.{Noted}
use Rattle.ballot_reader.specs.declared.wanted.Wanted.{Wanted}
use Rattle.ballot_reader.specs.declared.wanted.Wanted.TheVariants.{One, VotesOf, All as EachContest}

abbrev pub contest_ids : List Contest → List Id
contest_ids contests = map (λ contest. contest.id) contests

-- ---- the data kept for one contest

-- where its ballots come from: the id of each, and the number of its record
pub record KeptOrigins : Type 0 where
  pub ids : List Id
  pub places : List ℕ

-- where its ballots come from, if that is kept; the number of candidates for which they are counted as they come, if they are; and their
-- rankings
pub record KeptPart : Type 0 where
  pub origins : Option KeptOrigins
  pub counted : Option ℕ
  pub rankings : List (List ℕ)

-- the ballots are counted if their origin isn't kept and there are few candidates
abbrev pub counted_for : Bool → Contest → Option ℕ
counted_for true contest = None
counted_for false contest =
    if nat_lt ALWAYS_SUMMED (length contest.candidates) then None
    else Some (length contest.candidates)

-- if they are counted, it is for the number of candidates that the contest has
abbrev pub CountsOwn : Contest → KeptPart → Type 0
CountsOwn contest part = IfSome part.counted (λ n. n ≡ length contest.candidates)

abbrev pub origins_in : Id → List Ballot → KeptOrigins
origins_in contest ballots = record {
  ids = ballot_ids contest ballots;
  places = map (λ ballot. ballot.at) (ballots_in contest ballots);
}

abbrev pub rankings_in : Id → List Ballot → List (List ℕ)
rankings_in contest ballots = map (λ ballot. ballot.ranking) (ballots_in contest ballots)

abbrev pub part_of : Bool → List Ballot → Contest → KeptPart
part_of keeps ballots contest = record {
  origins = if keeps then Some (origins_in contest.id ballots) else None;
  counted = counted_for keeps contest;
  rankings = rankings_in contest.id ballots;
}

abbrev pub no_origins : KeptOrigins
no_origins = record { ids = []; places = [] }

abbrev pub empty_part : Bool → Contest → KeptPart
empty_part keeps contest = record {
  origins = if keeps then Some no_origins else None;
  counted = counted_for keeps contest;
  rankings = [];
}

-- with one more ballot, which has this id and is in the record number at
abbrev pub with_origin : KeptOrigins → Id → ℕ → KeptOrigins
with_origin origins id at =
    record { ids = origins.ids ++ id ∷ []; places = origins.places ++ at ∷ [] }

abbrev pub with_ballot : KeptPart → Id → ℕ → List ℕ → KeptPart
with_ballot part id at ranking = record {
  origins = option_map (λ origins. with_origin origins id at) part.origins;
  counted = part.counted;
  rankings = part.rankings ++ ranking ∷ [];
}

-- the contest with its ballots, if their origin is kept
abbrev pub file_with : Contest → KeptPart → Option BallotFile
file_with contest part =
    option_map (λ origins. record {
      contest = contest.id;
      candidates = contest.candidates;
      ids = origins.ids;
      places = origins.places;
      rankings = part.rankings;
    }) part.origins

-- no id is in the contest twice, and its rankings have only its candidates, each once
pub record AreApart (ballots : List Ballot) (contest : Contest) : Type 0 where
  pub differ : IsTrue (all_differ (ballot_ids contest.id ballots))
  pub below : All (λ ranking. All (λ c. c < length contest.candidates) ranking)
      (rankings_in contest.id ballots)
  pub distinct : All (λ ranking. IsTrue (is_distinct ranking)) (rankings_in contest.id ballots)

-- ---- the data kept for all

-- the contest at a place is one of those that are asked for
abbrev pub is_wanted : Wanted → ℕ → Bool
is_wanted (One only) place = place == only
is_wanted (VotesOf only) place = place == only
is_wanted EachContest place = true

-- the origins of the ballots are kept
abbrev pub keeps_origins : Wanted → Bool
keeps_origins (One only) = true
keeps_origins (VotesOf only) = false
keeps_origins EachContest = true

-- for each contest, the ids of its ballots were met
abbrev pub AllNoted : List Ballot → List Contest → List Noted → Type 0
AllNoted ballots [] [] = Unit {0}
AllNoted ballots [] (noted ∷ rest) = ⊥
AllNoted ballots (contest ∷ contests) [] = ⊥
AllNoted ballots (contest ∷ contests) (noted ∷ rest) =
    AreNoted (ballot_ids contest.id ballots) noted × AllNoted ballots contests rest

-- a part for each contest that is asked for, where the first contest is at this place
abbrev pub parts_from : ℕ → Wanted → List Ballot → List Contest → List (Option KeptPart)
parts_from place wanted ballots [] = []
parts_from place wanted ballots (contest ∷ contests) =
    (if is_wanted wanted place then Some (part_of (keeps_origins wanted) ballots contest) else None)
    ∷ parts_from (place + 1) wanted ballots contests

-- what is kept: which ids of each contest's ballots were met, a part for each contest that is asked for, and the number of ballots
pub record KeptBallots : Type 0 where
  pub met : List Noted
  pub parts : List (Option KeptPart)
  pub count : ℕ

-- this is the data kept for these ballots
pub record IsKept
    (contests : List Contest) (wanted : Wanted) (ballots : List Ballot)
    (kept : KeptBallots) : Type 0 where
  pub noted : AllNoted ballots contests kept.met
  pub parted : kept.parts ≡ parts_from 0 wanted ballots contests
  pub counted : kept.count ≡ length ballots
  pub most : length ballots ≤ MOST_RECORDS
  pub apart : (place : ℕ) (contest : Contest) → slice_get contests place ≡ Some contest →
      AreApart ballots contest

-- ---- the size of contests

-- each contest that is asked for has neither too many nor too few candidates to be audited
abbrev pub WantsAudited : List Contest → Wanted → Type 0
WantsAudited contests wanted =
    (place : ℕ) (contest : Contest) → slice_get contests place ≡ Some contest →
    IsTrue (is_wanted wanted place) → IsTrue (has_audited_size contest.candidates)

-- so does each contest that has a part
abbrev pub KeepsAudited : List Contest → List (Option KeptPart) → Type 0
KeepsAudited contests parts =
    (place : ℕ) (contest : Contest) (part : KeptPart) → slice_get contests place ≡ Some contest →
    slice_get parts place ≡ Some (Some part) → IsTrue (has_audited_size contest.candidates)

-- and each part counts ballots of its own contest
abbrev pub EachCountsOwn : List Contest → List (Option KeptPart) → Type 0
EachCountsOwn contests parts =
    (place : ℕ) (contest : Contest) (part : KeptPart) → slice_get contests place ≡ Some contest →
    slice_get parts place ≡ Some (Some part) → CountsOwn contest part

-- this is the data kept for these ballots, and the record number at comes next; the contests that are asked for can be audited
pub record IsKeptUpTo
    (contests : List Contest) (wanted : Wanted) (ballots : List Ballot) (at : ℕ)
    (kept : KeptBallots) : Type 0 where
  pub is_kept : IsKept contests wanted ballots kept
  pub sized : WantsAudited contests wanted
  pub numbered : at ≡ 2 + length contests + length ballots

-- the record number at is refused in this way; memory may always run out
abbrev pub RefusesRecord : {A : Type 0} → Result A BRule → ℕ → Fault BRule → Type 0
RefusesRecord judged at (Refused rule place) = (judged ≡ Err rule) × (place ≡ at)
RefusesRecord judged at Memory = Unit {0}
