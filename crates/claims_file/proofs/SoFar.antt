-- The assertions of the values so far, and the assertions of those that are left.
use Rattle.std.proofs.Common.{◌≡◌, ℕ, ◌+◌, ◌<◌, List, [], ◌∷◌, ◌++◌, length, get_or, drop, map, Ok, Err, refl, ap, ◌∙◌, arith, append-nil, Result}
use Rattle.std.proofs.lemmas.List.{drop_all, length-map, length-append}
use Rattle.serde_json.specs.Data.{Data}
use Rattle.serde_json.specs.View.{view}
use Rattle.serde_json.specs.declared.value.Value.{Value}
use Rattle.irv_base.specs.Names.{Id}
use Rattle.file_fault.specs.Refusals.{Refusal, Refuses}
use Rattle.file_fault.specs.declared.fault.Fault.{Fault}
use Rattle.file_fault.specs.declared.fault.Fault.TheVariants.{Refused, Memory}
use Rattle.assertions.specs.declared.assertion.Assertion.{Assertion}
use Rattle.assertion_file.specs.Reading.{located, ◌>>=◌}
use Rattle.assertion_file.proofs.ClaimsSoFar.{after, more-first, head-of}
use Rattle.claims_file.specs.Reading.{assertion_of, assertions_from}
use Rattle.claims_file.specs.declared.fault.CRule.{CRule}

pub record SoFar (ids : List Id) (i : ℕ) (assertions : List Assertion) (values : List Data) : Type 0 where
  pub left : assertions_from ids 1 values ≡ after assertions (assertions_from ids (i + 1) (drop i values))
  pub count : length assertions ≡ i

pub at-first : (ids : List Id) (values : List Data) → SoFar ids 0 [] values
at-first ids values = record { left = by (assertions_from ids 1 values); count = refl } where
  by : (r : Result (List Assertion) (Refusal CRule)) → r ≡ after [] r
  by (Ok assertions) = refl
  by (Err refusal) = refl

module _ (ids : List Id) (i : ℕ) (assertions : List Assertion) (values : List Value) where
  abbrev rest : Result (List Assertion) (Refusal CRule)
  rest = assertions_from ids (i + 1 + 1) (drop (i + 1) (map view values))

  pub goes_on : (value : Value) (a : Assertion) → SoFar ids i assertions (map view values) →
      i < length values → value ≡ get_or values i value → assertion_of ids (view value) ≡ Ok a →
      SoFar ids (i + 1) (assertions ++ a ∷ []) (map view values)
  goes_on value a h within is said = record {
    left =
        h.left ∙ ap (λ ds. after assertions (assertions_from ids (i + 1) ds)) (head-of values i value within is)
        ∙ ap (λ r. after assertions (located (i + 1) r >>= λ c. rest >>= λ cs. Ok (c ∷ cs))) said
        ∙ more-first assertions a rest;
    count = omega (arith, length-append assertions (a ∷ []), h.count);
  }

  pub breaks : (value : Value) (fault : Fault CRule) → SoFar ids i assertions (map view values) →
      i < length values → value ≡ get_or values i value → Refuses (located (i + 1) (assertion_of ids (view value))) fault →
      Refuses (assertions_from ids 1 (map view values)) fault
  breaks value (Refused rule at) h within is said =
      h.left ∙ ap (λ ds. after assertions (assertions_from ids (i + 1) ds)) (head-of values i value within is)
      ∙ ap (λ r. after assertions (r >>= λ c. rest >>= λ cs. Ok (c ∷ cs))) said
  breaks value Memory h within is said = tt

  pub at_end : SoFar ids i assertions (map view values) → i ≡ length values → assertions_from ids 1 (map view values) ≡ Ok assertions
  at_end h end =
      h.left ∙ ap (λ ds. after assertions (assertions_from ids (i + 1) ds)) (drop_all i (map view values) (omega (arith, length-map values view)))
      ∙ ap Ok (append-nil assertions)
