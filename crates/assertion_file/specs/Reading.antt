-- What an assertion file says, or which rule it breaks first and at which place.
use Rattle.std.specs.Prelude.{ℕ, ◌+◌, Bool, true, not, ◌&&◌, ◌||◌, ◌==◌, nat_le, if◌then◌else◌, List, [], ◌∷◌, ◌++◌, length, map, Option, Some, None, ok_or, option_map, unwrap_or, Result, Ok, Err}
use Rattle.std.specs.List.{list_all}
use Rattle.serde_json.specs.Data.{Data}
use Rattle.file_fault.specs.Refusals.{Refusal, refused}
use Rattle.irv_base.specs.Candidates.{is_distinct, is_in, set_of}
use Rattle.irv_base.specs.Names.{Id, all_differ, is_among, is_name, is_same}
use Rattle.irv_base.specs.Orders.{is_order}
use Rattle.irv_base.specs.declared.limits.TheConstants.{FEWEST_CANDIDATES, MOST_CANDIDATES, MOST_RECORDS, MOST_CARDS, MOST_DRAWS, GREATEST_GAMMA, GREATEST_LIMIT}
use Rattle.assertions.specs.declared.assertion.Assertion.{Assertion}
use Rattle.assertions.specs.declared.assertion.Assertion.TheVariants.{Neb, Nen}
use Rattle.assertions.specs.declared.assertion.Claim.{Claim}
use Rattle.assertion_file.specs.Content.{Content, Plan}
use Rattle.assertion_file.specs.Ids.{number_of, numbers_of}
use Rattle.assertion_file.specs.Stated.{Heading, heading_in, Entry, draws_asked, entry_in}
use Rattle.assertion_file.specs.Text.{json_of}
use Rattle.assertion_file.specs.declared.claims.Planned.{Planned}
use Rattle.assertion_file.specs.declared.members.DrawsMember.{DrawsMember}
use Rattle.assertion_file.specs.declared.members.Terms.{Terms}
use Rattle.assertion_file.specs.declared.fault.FRule.{FRule}
use Rattle.assertion_file.specs.declared.fault.FRule.TheVariants.{F1, F2, F3, F4, F5, F6}
use Rattle.assertion_file.specs.declared.print.TheConstants.{VERSION, PLAN_VERSION, COVER_VERSION}

infixl 10 ◌>>=◌
abbrev pub ◌>>=◌ : {A B E : Type 0} → Result A E → (A → Result B E) → Result B E
(Ok x) >>= more = more x
(Err e) >>= more = Err e

-- the value, or the first rule that doesn't hold
abbrev pub judged : {A R : Type 0} → List (Bool × R) → A → Result A R
judged [] value = Ok value
judged (held ∷ more) value = if held.0 then judged more value else Err held.1

-- ---- the members of the file's object, except for the elements of its assertions

abbrev pub are_candidates : List Id → Bool
are_candidates ids =
    list_all is_name ids &&
    nat_le FEWEST_CANDIDATES (length ids) && nat_le (length ids) MOST_CANDIDATES &&
    all_differ ids

abbrev pub is_record_count : ℕ → Bool
is_record_count n = nat_le 1 n && nat_le n MOST_RECORDS

abbrev pub is_margin : ℕ → ℕ → Bool
is_margin records margin = nat_le 1 margin && nat_le margin records

-- the terms of a plan for this many records, if there are any
abbrev pub are_terms : ℕ → Option Terms → Bool
are_terms records None = true
are_terms records (Some terms) =
    nat_le records terms.cards && nat_le terms.cards MOST_CARDS &&
    nat_le 1 terms.gamma && nat_le terms.gamma GREATEST_GAMMA &&
    nat_le 1 terms.limit && nat_le terms.limit GREATEST_LIMIT

abbrev pub is_version : ℕ → Bool
is_version version = (version == VERSION) || (version == PLAN_VERSION) || (version == COVER_VERSION)

-- the version, the contest and its candidates
abbrev pub id_rules : Heading → List (Bool × FRule)
id_rules heading =
    (is_version heading.version, F3) ∷
    (is_name heading.contest, F4) ∷
    (are_candidates heading.candidates, F4) ∷
    []

-- the rules of the candidates whom the heading names
abbrev pub named_rules : Heading → List (Bool × FRule)
named_rules heading =
    (is_among heading.candidates heading.winner, F4) ∷
    (list_all (is_among heading.candidates) (unwrap_or heading.order []), F4) ∷
    []

-- an order of n candidates, if there is one
abbrev pub is_order_if : ℕ → Option (List ℕ) → Bool
is_order_if n None = true
is_order_if n (Some order) = is_order n order

-- the order as numbers of these candidates
abbrev pub order_numbers : List Id → Option (List Id) → Option (List ℕ)
order_numbers ids order = option_map (numbers_of ids) order

abbrev pub order_rules : Heading → List (Bool × FRule)
order_rules heading =
    (is_order_if (length heading.candidates) (order_numbers heading.candidates heading.order), F5) ∷
    []

abbrev pub count_rules : Heading → List (Bool × FRule)
count_rules heading =
    (is_record_count heading.records, F6) ∷
    (is_margin heading.records heading.margin, F6) ∷
    (are_terms heading.records heading.terms, F6) ∷
    []

-- all rules of a heading, in order
abbrev pub heading_rules : Heading → List (Bool × FRule)
heading_rules heading =
    id_rules heading ++ named_rules heading ++ order_rules heading ++ count_rules heading

unfoldable pub judged_heading : Heading → Result Heading FRule
judged_heading heading = judged (heading_rules heading) heading

abbrev pub heading_of : Data → Result Heading FRule
heading_of value = do
  heading ← ok_or (heading_in value) F2
  judged_heading heading

-- ---- an assertion, given candidates with these ids and this many records

-- a NEN's rest has each of its candidates once, and both the winner and the loser
abbrev pub is_rest : ℕ → ℕ → Option (List ℕ) → Bool
is_rest w l None = true
is_rest w l (Some rest) = is_distinct rest && is_in rest w && is_in rest l

-- a full count has no draws
abbrev pub are_draws : Option ℕ → Bool
are_draws None = true
are_draws (Some draws) = nat_le 1 draws && nat_le draws MOST_DRAWS

abbrev pub entry_rules : List Id → ℕ → Entry → List (Bool × FRule)
entry_rules ids records entry =
    (is_among ids entry.winner, F4) ∷
    (is_among ids entry.loser, F4) ∷
    (not (is_same entry.winner entry.loser), F4) ∷
    (list_all (is_among ids) (unwrap_or entry.rest []), F4) ∷ (
      is_rest (number_of ids entry.winner) (number_of ids entry.loser)
          (option_map (numbers_of ids) entry.rest),
      F5,
    ) ∷
    (is_margin records entry.margin, F6) ∷
    (are_draws entry.draws, F6) ∷
    []

abbrev pub assertion_with : ℕ → ℕ → Option (List ℕ) → Assertion
assertion_with w l None = Neb w l
assertion_with w l (Some rest) = Nen w l (set_of rest)

-- the assertion between these two candidates with this rest, or the first rule that the rest breaks
abbrev pub judged_assertion : List Id → ℕ → ℕ → Option (List Id) → Result Assertion FRule
judged_assertion ids w l rest =
    let numbers = option_map (numbers_of ids) rest in
    judged ((list_all (is_among ids) (unwrap_or rest []), F4) ∷ (is_rest w l numbers, F5) ∷ [])
    (assertion_with w l numbers)

abbrev pub claim_with : List Id → Entry → Planned
claim_with ids entry = record {
  assertion = assertion_with (number_of ids entry.winner) (number_of ids entry.loser)
      (option_map (numbers_of ids) entry.rest);
  margin = entry.margin;
  draws = entry.draws;
}

unfoldable pub claim_of : List Id → ℕ → DrawsMember → Data → Result Planned FRule
claim_of ids records asked value = do
  entry ← ok_or (entry_in asked value) F2
  judged (entry_rules ids records entry) (claim_with ids entry)

-- ---- the file

-- a rule is broken at an assertion, counted from 1, or at 0 by the file's own members
abbrev pub located : {A R : Type 0} → ℕ → Result A R → Result A (Refusal R)
located at (Ok value) = Ok value
located at (Err rule) = refused rule at

-- the claims in a list of values, where the first value has the number at
abbrev pub claims_from : List Id → ℕ → DrawsMember → ℕ → List Data → Result (List Planned) (Refusal FRule)
claims_from ids records asked at [] = Ok []
claims_from ids records asked at (value ∷ values) = do
  claim ← located at (claim_of ids records asked value)
  claims ← claims_from ids records asked (at + 1) values
  Ok (claim ∷ claims)

-- the claims in the file's object
abbrev pub claims_in : Heading → Result (List Planned) (Refusal FRule)
claims_in heading =
    claims_from heading.candidates heading.records (draws_asked heading.version heading.terms) 1
    heading.assertions

abbrev pub claim_in : Planned → Claim
claim_in planned = record { assertion = planned.assertion; margin = planned.margin }

abbrev pub plan_with : Option Terms → List Planned → Option Plan
plan_with None claims = None
plan_with (Some terms) claims = Some (record {
  cards = terms.cards;
  gamma = terms.gamma;
  limit = terms.limit;
  draws = map (λ planned. planned.draws) claims;
})

abbrev pub content_with : Heading → List Planned → Content
content_with heading claims = record {
  contest = heading.contest;
  candidates = heading.candidates;
  records = heading.records;
  winner = number_of heading.candidates heading.winner;
  margin = heading.margin;
  order = order_numbers heading.candidates heading.order;
  claims = map claim_in claims;
  plan = plan_with heading.terms claims;
}

unfoldable pub content_of : Data → Result Content (Refusal FRule)
content_of value = do
  heading ← located 0 (heading_of value)
  claims ← claims_in heading
  Ok (content_with heading claims)

unfoldable pub assertion_file_of : List ℕ → Result Content (Refusal FRule)
assertion_file_of bytes = do
  value ← located 0 (ok_or (json_of bytes) F1)
  content_of value
