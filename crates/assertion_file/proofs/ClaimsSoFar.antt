-- The claims of the values so far, and the claims of those that are left.
use Rattle.std.proofs.Common.{◌≡◌, ℕ, ◌+◌, ◌<◌, List, [], ◌∷◌, ◌++◌, length, get_or, drop, map, Ok, Err, refl, sym, ap, ◌∙◌, arith, append_assoc, append-nil, Result}
use Rattle.std.proofs.lemmas.List.{drop_more, drop_all, get_or-map, length-map, length-append}
use Rattle.serde_json.specs.Data.{Data}
use Rattle.serde_json.specs.View.{view}
use Rattle.serde_json.specs.declared.value.Value.{Value}
use Rattle.assertion_file.specs.declared.claims.Planned.{Planned}
use Rattle.irv_base.specs.Names.{Id}
use Rattle.assertion_file.specs.Reading.{claim_of, claims_from, located, ◌>>=◌}
use Rattle.file_fault.specs.Refusals.{Refusal, Refuses}
use Rattle.file_fault.specs.declared.fault.Fault.{Fault}
use Rattle.assertion_file.specs.declared.members.DrawsMember.{DrawsMember}
use Rattle.assertion_file.specs.declared.fault.FRule.{FRule}
use Rattle.file_fault.specs.declared.fault.Fault.TheVariants.{Refused, Memory}

abbrev pub after : {A R : Type 0} → List A → Result (List A) (Refusal R) → Result (List A) (Refusal R)
after before (Ok claims) = Ok (before ++ claims)
after before (Err refusal) = Err refusal

pub record SoFar (ids : List Id) (records : ℕ) (asked : DrawsMember) (i : ℕ) (claims : List Planned) (values : List Data) : Type 0 where
  pub left : claims_from ids records asked 1 values ≡ after claims (claims_from ids records asked (i + 1) (drop i values))
  pub count : length claims ≡ i

pub at-first : (ids : List Id) (records : ℕ) (asked : DrawsMember) (values : List Data) → SoFar ids records asked 0 [] values
at-first ids records asked values = record { left = by (claims_from ids records asked 1 values); count = refl } where
  by : (r : Result (List Planned) (Refusal FRule)) → r ≡ after [] r
  by (Ok claims) = refl
  by (Err refusal) = refl

pub more-first : {A R : Type 0} (before : List A) (claim : A) (r : Result (List A) (Refusal R)) →
    after before (r >>= λ claims. Ok (claim ∷ claims)) ≡ after (before ++ claim ∷ []) r
more-first before claim (Ok claims) = ap Ok (sym (append_assoc before (claim ∷ []) claims))
more-first before claim (Err refusal) = refl

pub head-of : (values : List Value) (i : ℕ) (value : Value) → i < length values → value ≡ get_or values i value →
    drop i (map view values) ≡ view value ∷ drop (i + 1) (map view values)
head-of values i value within is =
    let seen : i < length (map view values) = omega (arith, length-map values view) in
    drop_more (map view values) i (view value) seen
    ∙ ap (λ d. d ∷ drop (i + 1) (map view values)) (get_or-map view values i value (view value) within ∙ ap view (sym is))

pub goes_on : (ids : List Id) (records : ℕ) (asked : DrawsMember) (i : ℕ) (claims : List Planned) (values : List Value) (value : Value) (claim : Planned) →
    SoFar ids records asked i claims (map view values) →
    i < length values → value ≡ get_or values i value → claim_of ids records asked (view value) ≡ Ok claim →
    SoFar ids records asked (i + 1) (claims ++ claim ∷ []) (map view values)
goes_on ids records asked i claims values value claim h within is said = record {
  left =
      h.left ∙ ap (λ ds. after claims (claims_from ids records asked (i + 1) ds)) (head-of values i value within is)
      ∙ ap (λ r. after claims (located (i + 1) r >>= λ c. claims_from ids records asked (i + 1 + 1) (drop (i + 1) (map view values)) >>= λ cs. Ok (c ∷ cs))) said
      ∙ more-first claims claim (claims_from ids records asked (i + 1 + 1) (drop (i + 1) (map view values)));
  count = omega (arith, length-append claims (claim ∷ []), h.count);
}

pub breaks : (ids : List Id) (records : ℕ) (asked : DrawsMember) (i : ℕ) (claims : List Planned) (values : List Value) (value : Value) (fault : Fault FRule) →
    SoFar ids records asked i claims (map view values) →
    i < length values → value ≡ get_or values i value → Refuses (located (i + 1) (claim_of ids records asked (view value))) fault →
    Refuses (claims_from ids records asked 1 (map view values)) fault
breaks ids records asked i claims values value (Refused rule at) h within is said =
    h.left ∙ ap (λ ds. after claims (claims_from ids records asked (i + 1) ds)) (head-of values i value within is)
    ∙ ap (λ r. after claims (r >>= λ c. claims_from ids records asked (i + 1 + 1) (drop (i + 1) (map view values)) >>= λ cs. Ok (c ∷ cs))) said
breaks ids records asked i claims values value Memory h within is said = tt

pub at_end : (ids : List Id) (records : ℕ) (asked : DrawsMember) (i : ℕ) (claims : List Planned) (values : List Value) → SoFar ids records asked i claims (map view values) →
    i ≡ length values → claims_from ids records asked 1 (map view values) ≡ Ok claims
at_end ids records asked i claims values h end =
    h.left ∙ ap (λ ds. after claims (claims_from ids records asked (i + 1) ds)) (drop_all i (map view values) (omega (arith, length-map values view)))
    ∙ ap Ok (append-nil claims)
