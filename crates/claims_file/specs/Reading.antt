-- What a claims file says of the contest with this id and these candidates, or which rule it breaks first and at which place.
use Rattle.std.specs.Prelude.{ℕ, ◌+◌, Bool, not, List, [], ◌∷◌, length, ok_or, Result, Ok}
use Rattle.std.specs.List.{list_all}
use Rattle.serde_json.specs.Data.{Data}
use Rattle.file_fault.specs.Refusals.{Refusal}
use Rattle.irv_base.specs.Names.{Id, is_among, is_same}
use Rattle.irv_base.specs.Orders.{is_order}
use Rattle.assertions.specs.declared.assertion.Assertion.{Assertion}
use Rattle.assertion_file.specs.Ids.{number_of, numbers_of}
use Rattle.assertion_file.specs.Reading.{judged, judged_assertion, located, ◌>>=◌}
use Rattle.assertion_file.specs.Text.{json_of}
use Rattle.claims_file.specs.Claimed.{Claimed}
use Rattle.claims_file.specs.Faults.{as_claims}
use Rattle.claims_file.specs.Stated.{Heading, heading_in, Entry, entry_in}
use Rattle.claims_file.specs.declared.fault.CRule.{CRule}
use Rattle.claims_file.specs.declared.fault.CRule.TheVariants.{C1, C2, C3, C4}

-- ---- the members of the file's object, except for the elements of its assertions

-- the candidates are those of the contest, each once, in any order
abbrev pub heading_rules : Id → List Id → Heading → List (Bool × CRule)
heading_rules contest ids heading =
    (is_same heading.contest contest, C3) ∷
    (list_all (is_among ids) heading.candidates, C4) ∷
    (is_order (length ids) (numbers_of ids heading.candidates), C4) ∷
    (is_among ids heading.winner, C4) ∷
    []

abbrev pub heading_of : Id → List Id → Data → Result Heading CRule
heading_of contest ids value = do
  heading ← ok_or (heading_in value) C2
  judged (heading_rules contest ids heading) heading

-- ---- an assertion

abbrev pub pair_rules : List Id → Entry → List (Bool × CRule)
pair_rules ids entry =
    (is_among ids entry.winner, C4) ∷
    (is_among ids entry.loser, C4) ∷
    (not (is_same entry.winner entry.loser), C4) ∷
    []

-- the rest of a NEN is judged as in an assertion file
unfoldable pub assertion_of : List Id → Data → Result Assertion CRule
assertion_of ids value = do
  stated ← ok_or (entry_in value) C2
  entry ← judged (pair_rules ids stated) stated
  as_claims (judged_assertion ids (number_of ids entry.winner) (number_of ids entry.loser) entry.rest)

-- ---- the file

-- the assertions in a list of values, where the first value has the number at
abbrev pub assertions_from : List Id → ℕ → List Data → Result (List Assertion) (Refusal CRule)
assertions_from ids at [] = Ok []
assertions_from ids at (value ∷ values) = do
  assertion ← located at (assertion_of ids value)
  assertions ← assertions_from ids (at + 1) values
  Ok (assertion ∷ assertions)

unfoldable pub claims_in : Id → List Id → Data → Result Claimed (Refusal CRule)
claims_in contest ids value = do
  heading ← located 0 (heading_of contest ids value)
  assertions ← assertions_from ids 1 heading.assertions
  Ok (record { winner = number_of ids heading.winner; assertions = assertions })

unfoldable pub claims_of : Id → List Id → List ℕ → Result Claimed (Refusal CRule)
claims_of contest ids bytes = do
  value ← located 0 (ok_or (json_of bytes) C1)
  claims_in contest ids value
