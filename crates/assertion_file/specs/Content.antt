-- What an assertion file says of a contest.
use Rattle.std.specs.Prelude.{◌≡◌, ◌<◌, ◌≤◌, ℕ, List, length, map, Option, All, IfSome, IsTrue}
use Rattle.std.specs.List.{list_all}
use Rattle.irv_base.specs.Names.{Id, all_differ, is_name}
use Rattle.irv_base.specs.Orders.{is_order}
use Rattle.irv_base.specs.declared.limits.TheConstants.{FEWEST_CANDIDATES, MOST_CANDIDATES, MOST_RECORDS, MOST_CARDS, MOST_DRAWS, GREATEST_GAMMA, GREATEST_LIMIT}
use Rattle.assertions.specs.Assertions.{is_proper}
use Rattle.assertions.specs.declared.assertion.Claim.{Claim}

-- what an audit takes: the cards of the manifest, gamma in thousandths, the risk limit in millionths, and for each claim the draws, or None
-- if it takes a full count
pub record Plan : Type 0 where
  pub cards : ℕ
  pub gamma : ℕ
  pub limit : ℕ
  pub draws : List (Option ℕ)

-- a candidate is its place in the list of candidates, from 0; a file of version 1 has no plan, and one of version 3 has no order
pub record Content : Type 0 where
  pub contest : Id
  pub candidates : List Id
  pub records : ℕ
  pub winner : ℕ
  pub margin : ℕ
  pub order : Option (List ℕ)
  pub claims : List Claim
  pub plan : Option Plan

abbrev pub candidate_count : Content → ℕ
candidate_count file = length file.candidates

-- in votes, one margin for each claim
abbrev pub margins_of : Content → List ℕ
margins_of file = map (λ claim. claim.margin) file.claims

-- a margin in votes, with this many records
pub record IsMargin (records margin : ℕ) : Type 0 where
  pub some : 1 ≤ margin
  pub most : margin ≤ records

-- for n candidates and this many records
pub record IsSoundClaim (n records : ℕ) (claim : Claim) : Type 0 where
  pub proper : IsTrue (is_proper n claim.assertion)
  pub margin : IsMargin records claim.margin

pub record IsDrawCount (draws : ℕ) : Type 0 where
  pub some : 1 ≤ draws
  pub most : draws ≤ MOST_DRAWS

-- for this many records and claims
pub record IsSoundPlan (records claims : ℕ) (plan : Plan) : Type 0 where
  pub some_cards : records ≤ plan.cards
  pub most_cards : plan.cards ≤ MOST_CARDS
  pub some_gamma : 1 ≤ plan.gamma
  pub most_gamma : plan.gamma ≤ GREATEST_GAMMA
  pub some_limit : 1 ≤ plan.limit
  pub most_limit : plan.limit ≤ GREATEST_LIMIT
  pub each : length plan.draws ≡ claims
  pub draws : All (λ draws. IfSome draws IsDrawCount) plan.draws

pub record IsSound (file : Content) : Type 0 where
  pub fewest : FEWEST_CANDIDATES ≤ candidate_count file
  pub most : candidate_count file ≤ MOST_CANDIDATES
  pub differ : IsTrue (all_differ file.candidates)
  pub some_records : 1 ≤ file.records
  pub most_records : file.records ≤ MOST_RECORDS
  pub winner : file.winner < candidate_count file
  pub order : IfSome file.order (λ order. IsTrue (is_order (candidate_count file) order))
  pub margin : IsMargin file.records file.margin
  pub claims : All (IsSoundClaim (candidate_count file) file.records) file.claims
  pub plan : IfSome file.plan (IsSoundPlan file.records (length file.claims))

-- the ids obey the rule of ids, as the type of a name ensures
pub record HasNames (file : Content) : Type 0 where
  pub contest : IsTrue (is_name file.contest)
  pub candidates : IsTrue (list_all is_name file.candidates)
