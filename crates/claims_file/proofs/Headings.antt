-- What is said about a file whose own members are there.
use Rattle.std.proofs.Common.{◌≡◌, ◌∙◌, ℕ, Bool, true, false, List, length, Some, None, Ok, Err, refl, sym, ap, ap₂}
use Rattle.std.specs.Prelude.{if◌then◌else◌, ok_or, Result}
use Rattle.std.specs.List.{list_all}
use Rattle.std.specs.Str.{IsUtf8, is_utf8}
use Rattle.std.proofs.lemmas.Str.{IsUtf8-from_is_utf8, is_utf8-from_IsUtf8}
use Rattle.serde_json.specs.Data.{Data}
use Rattle.serde_json.specs.Read.{read}
use Rattle.irv_base.specs.Names.{Id, is_among, is_same}
use Rattle.irv_base.specs.Orders.{is_order}
use Rattle.file_fault.specs.Refusals.{Refusal, Refuses}
use Rattle.file_fault.specs.declared.fault.Fault.{Fault}
use Rattle.file_fault.specs.declared.fault.Fault.TheVariants.{Refused, Memory}
use Rattle.assertions.specs.declared.assertion.Assertion.{Assertion}
use Rattle.assertion_file.specs.Ids.{number_of, numbers_of}
use Rattle.assertion_file.specs.Reading.{judged, located, ◌>>=◌}
use Rattle.claims_file.specs.Claimed.{Claimed}
use Rattle.claims_file.specs.Reading.{assertions_from, claims_in, claims_of, heading_rules}
use Rattle.claims_file.specs.Stated.{Heading, heading_in}
use Rattle.claims_file.specs.declared.fault.CRule.{CRule}
use Rattle.claims_file.specs.declared.fault.CRule.TheVariants.{C1, C2, C3, C4}

-- ---- rule by rule

module _ (contest : Id) (ids : List Id) (heading : Heading) where
  abbrev pub judged_heading : Result Heading CRule
  judged_heading = judged (heading_rules contest ids heading) heading

  pub other_contest : is_same heading.contest contest ≡ false → judged_heading ≡ Err C3
  other_contest c = rw c refl

  pub not_among : is_same heading.contest contest ≡ true → list_all (is_among ids) heading.candidates ≡ false → judged_heading ≡ Err C4
  not_among c a = rw (c, a) refl

  -- the candidates are named
  pub record AreNamed : Type 0 where
    pub same : is_same heading.contest contest ≡ true
    pub listed : list_all (is_among ids) heading.candidates ≡ true

  pub not_each : AreNamed → is_order (length ids) (numbers_of ids heading.candidates) ≡ false → judged_heading ≡ Err C4
  not_each h o = rw (h.same, h.listed, o) refl

  pub no_winner : AreNamed → is_order (length ids) (numbers_of ids heading.candidates) ≡ true → is_among ids heading.winner ≡ false → judged_heading ≡ Err C4
  no_winner h o w = rw (h.same, h.listed, o, w) refl

  pub kept : AreNamed → is_order (length ids) (numbers_of ids heading.candidates) ≡ true → is_among ids heading.winner ≡ true → judged_heading ≡ Ok heading
  kept h o w = rw (h.same, h.listed, o, w) refl

  -- ---- the file

  abbrev pub said_of : Result Heading CRule → Result Claimed (Refusal CRule)
  said_of judged =
      located 0 judged >>= λ heading. assertions_from ids 1 heading.assertions >>= λ assertions.
      Ok (record { winner = number_of ids heading.winner; assertions = assertions })

  abbrev with_assertions : Result (List Assertion) (Refusal CRule) → Result Claimed (Refusal CRule)
  with_assertions said = said >>= λ assertions. Ok (record { winner = number_of ids heading.winner; assertions = assertions })

  pub claims-some : (value : Data) → heading_in value ≡ Some heading → claims_in contest ids value ≡ said_of judged_heading
  unfolding claims_in
  claims-some value h = ap (λ o. said_of (ok_or o C2 >>= λ heading. judged (heading_rules contest ids heading) heading)) h

  pub refused_heading : (value : Data) (fault : Fault CRule) → heading_in value ≡ Some heading →
      Refuses (located 0 judged_heading) fault → Refuses (claims_in contest ids value) fault
  refused_heading value (Refused rule at) h r =
      claims-some value h ∙ ap (λ said. said >>= λ heading. assertions_from ids 1 heading.assertions >>= λ assertions.
      Ok (record { winner = number_of ids heading.winner; assertions = assertions })) r
  refused_heading value Memory h r = tt

  pub claims-kept : (value : Data) → heading_in value ≡ Some heading → judged_heading ≡ Ok heading →
      claims_in contest ids value ≡ with_assertions (assertions_from ids 1 heading.assertions)
  claims-kept value h k = claims-some value h ∙ ap said_of k

  pub refused_assertions : (value : Data) (fault : Fault CRule) → heading_in value ≡ Some heading → judged_heading ≡ Ok heading →
      Refuses (assertions_from ids 1 heading.assertions) fault → Refuses (claims_in contest ids value) fault
  refused_assertions value (Refused rule at) h k r = claims-kept value h k ∙ ap with_assertions r
  refused_assertions value Memory h k r = tt

  pub read_claims : (value : Data) (winner : ℕ) (assertions : List Assertion) → heading_in value ≡ Some heading → judged_heading ≡ Ok heading →
      winner ≡ number_of ids heading.winner → assertions_from ids 1 heading.assertions ≡ Ok assertions →
      claims_in contest ids value ≡ Ok (record { winner = winner; assertions = assertions })
  read_claims value winner assertions h k w a =
      claims-kept value h k ∙ ap with_assertions a ∙ ap (λ winner. Ok (record { winner = winner; assertions = assertions })) (sym w)

pub claims-none : (contest : Id) (ids : List Id) (value : Data) → heading_in value ≡ None → claims_in contest ids value ≡ Err (record { rule = C2; at = 0 })
unfolding claims_in
claims-none contest ids value h =
    ap (λ o. located 0 (ok_or o C2 >>= λ heading. judged (heading_rules contest ids heading) heading) >>= λ heading.
    assertions_from ids 1 heading.assertions >>= λ assertions. Ok (record { winner = number_of ids heading.winner; assertions = assertions })) h

-- ---- its bytes

pub file-some : (contest : Id) (ids : List Id) (bytes : List ℕ) (value : Data) → IsUtf8 bytes → read bytes ≡ Some value →
    claims_of contest ids bytes ≡ claims_in contest ids value
unfolding claims_of
file-some contest ids bytes value text h =
    ap₂ (λ b o. located 0 (ok_or (if b then o else None) C1) >>= claims_in contest ids) (is_utf8-from_IsUtf8 bytes text) h

pub file-none : (contest : Id) (ids : List Id) (bytes : List ℕ) → (IsUtf8 bytes → read bytes ≡ None) →
    claims_of contest ids bytes ≡ Err (record { rule = C1; at = 0 })
unfolding claims_of
file-none contest ids bytes h = ap (λ o. located 0 (ok_or o C1) >>= claims_in contest ids) (by (is_utf8 bytes) refl) where
  by : (b : Bool) → is_utf8 bytes ≡ b → (if b then read bytes else None) ≡ None
  by true e = h (IsUtf8-from_is_utf8 bytes e)
  by false e = refl
