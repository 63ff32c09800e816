-- What is read as claims names only candidates.
use Rattle.std.proofs.Common.{◌≡◌, ◌∙◌, ℕ, ◌+◌, ◌<◌, true, List, [], ◌∷◌, length, All, Option, Some, None, Ok, Err, refl, sym, ap, subst, arith}
use Rattle.std.specs.Prelude.{ok_or, IfOk, IsTrue, Result}
use Rattle.std.proofs.lemmas.Bool.{not-true}
use Rattle.std.proofs.lemmas.List.Elements.{All-cons}
use Rattle.serde_json.specs.Data.{Data}
use Rattle.irv_base.specs.Names.{Id, is_same}
use Rattle.irv_base.proofs.Positions.{any-within}
use Rattle.file_fault.specs.Refusals.{Refusal}
use Rattle.file_fault.specs.declared.fault.Fault.{Fault}
use Rattle.assertions.specs.Assertions.{is_proper}
use Rattle.assertions.specs.declared.assertion.Assertion.{Assertion}
use Rattle.assertion_file.specs.Ids.{number_of}
use Rattle.assertion_file.specs.Reading.{judged, judged_assertion, located, ◌>>=◌}
use Rattle.assertion_file.specs.Text.{json_of}
use Rattle.assertion_file.specs.declared.fault.FRule.{FRule}
use Rattle.assertion_file.specs.declared.fault.FRule.TheVariants.{F4, F5}
use Rattle.assertion_file.proofs.Judged.{AllHold, all-hold, both-hold}
use Rattle.assertion_file.proofs.SoundClaims.{assertion-proper}
use Rattle.claims_file.specs.Claimed.{Claimed, AreSound}
use Rattle.claims_file.specs.Faults.{as_claims}
use Rattle.claims_file.specs.Reading.{assertion_of, assertions_from, claims_in, claims_of, heading_rules, pair_rules}
use Rattle.claims_file.specs.Stated.{Entry, entry_in, Heading, heading_in}
use Rattle.claims_file.specs.declared.fault.CRule.{CRule}
use Rattle.claims_file.specs.declared.fault.CRule.TheVariants.{C1}
use Rattle.claims_file.proofs.Entries.{said_of, without, with}
use Rattle.claims_file.proofs.Headings.{claims-none, claims-some}

ok-claims : {A : Type 0} (said : Result A FRule) (a : A) → as_claims said ≡ Ok a → said ≡ Ok a
ok-claims (Ok b) a h = let e : b ≡ a = cc in ap Ok e
ok-claims (Err rule) a h = absurd cc

module _ (ids : List Id) where
  entry-sound : (entry : Entry) (a : Assertion) → said_of ids entry ≡ Ok a → is_proper (length ids) a ≡ true
  entry-sound entry a h = by (judged (pair_rules ids entry) entry) refl h where
    by : (r : Result Entry CRule) → judged (pair_rules ids entry) entry ≡ r →
        (r >>= λ e. as_claims (judged_assertion ids (number_of ids e.winner) (number_of ids e.loser) e.rest)) ≡ Ok a → is_proper (length ids) a ≡ true
    by (Err rule) j g = absurd cc
    by (Ok e) j g =
        let held = all-hold (pair_rules ids entry) entry e j in
        let all : AllHold (pair_rules ids entry) = held.0 in
        let said = ok-claims (judged_assertion ids (number_of ids entry.winner) (number_of ids entry.loser) entry.rest) a
        (ap (λ e. as_claims (judged_assertion ids (number_of ids e.winner) (number_of ids e.loser) e.rest)) held.1 ∙ g) in
        let both = both-hold _ _ F4 F5 _ a said in
        ap (is_proper (length ids)) (sym both.same)
        ∙ assertion-proper ids entry.winner entry.loser entry.rest all.0 all.1.0 (not-true (is_same entry.winner entry.loser) all.1.1.0) both.first both.second

  assertion-sound : (value : Data) (a : Assertion) → assertion_of ids value ≡ Ok a → is_proper (length ids) a ≡ true
  assertion-sound value a h = by (entry_in value) refl where
    by : (o : Option Entry) → entry_in value ≡ o → is_proper (length ids) a ≡ true
    by None e = let bad = sym (without ids value e) ∙ h in absurd cc
    by (Some entry) e = entry-sound entry a (sym (with ids value entry e) ∙ h)

  assertions-sound : (at : ℕ) (values : List Data) (assertions : List Assertion) → assertions_from ids at values ≡ Ok assertions →
      All (λ a. IsTrue (is_proper (length ids) a)) assertions
  assertions-sound at [] assertions h = let none : [] ≡ assertions = cc in
      subst (All (λ a. IsTrue (is_proper (length ids) a))) none (λ i d within. absurd (omega arith))
  assertions-sound at (value ∷ values) assertions h =
      by (assertion_of ids value) (assertions_from ids (at + 1) values) refl h (λ more e. assertions-sound (at + 1) values more e)
    where
      by : (r : Result Assertion CRule) (o : Result (List Assertion) (Refusal CRule)) → assertion_of ids value ≡ r →
          (located at r >>= λ a. o >>= λ more. Ok (a ∷ more)) ≡ Ok assertions →
          ((more : List Assertion) → o ≡ Ok more → All (λ a. IsTrue (is_proper (length ids) a)) more) →
          All (λ a. IsTrue (is_proper (length ids) a)) assertions
      by (Err rule) o e g ih = absurd cc
      by (Ok a) (Err refusal) e g ih = absurd cc
      by (Ok a) (Ok more) e g ih =
          let same : a ∷ more ≡ assertions = cc in
          subst (All (λ a. IsTrue (is_proper (length ids) a))) same
          (All-cons (λ a. IsTrue (is_proper (length ids) a)) a more (assertion-sound value a e) (ih more refl))

  kept-sound : (contest : Id) (heading kept : Heading) (claims : Claimed) → judged (heading_rules contest ids heading) heading ≡ Ok kept →
      (assertions_from ids 1 kept.assertions >>= λ assertions. Ok (record { winner = number_of ids kept.winner; assertions = assertions })) ≡ Ok claims →
      AreSound (length ids) claims
  kept-sound contest heading kept claims j h = by (assertions_from ids 1 kept.assertions) refl h where
    by : (r : Result (List Assertion) (Refusal CRule)) → assertions_from ids 1 kept.assertions ≡ r →
        (r >>= λ assertions. Ok (record { winner = number_of ids kept.winner; assertions = assertions })) ≡ Ok claims → AreSound (length ids) claims
    by (Err refusal) e g = absurd cc
    by (Ok assertions) e g =
        let held = all-hold (heading_rules contest ids heading) heading kept j in
        let all : AllHold (heading_rules contest ids heading) = held.0 in
        let same : record { winner = number_of ids kept.winner; assertions = assertions } ≡ claims = cc in
        subst (AreSound (length ids)) same (record {
          winner = subst (λ (heading : Heading). number_of ids heading.winner < length ids) held.1
              (any-within (λ other. is_same other heading.winner) ids all.1.1.1.0);
          proper = assertions-sound 1 kept.assertions assertions e;
        })

  in-sound : (contest : Id) (value : Data) (claims : Claimed) → claims_in contest ids value ≡ Ok claims → AreSound (length ids) claims
  in-sound contest value claims h = by (heading_in value) refl where
    on : (heading : Heading) (r : Result Heading CRule) → judged (heading_rules contest ids heading) heading ≡ r →
        (located 0 r >>= λ heading. assertions_from ids 1 heading.assertions >>= λ assertions.
        Ok (record { winner = number_of ids heading.winner; assertions = assertions })) ≡ Ok claims → AreSound (length ids) claims
    on heading (Err rule) e g = absurd cc
    on heading (Ok kept) e g = kept-sound contest heading kept claims e g

    by : (o : Option Heading) → heading_in value ≡ o → AreSound (length ids) claims
    by None e = let bad = sym (claims-none contest ids value e) ∙ h in absurd cc
    by (Some heading) e = on heading (judged (heading_rules contest ids heading) heading) refl (sym (claims-some contest ids heading value e) ∙ h)

  pub claims-sound : (contest : Id) (bytes : List ℕ) (claims : Claimed) → claims_of contest ids bytes ≡ Ok claims → AreSound (length ids) claims
  unfolding claims_of
  claims-sound contest bytes claims h = by (json_of bytes) refl h where
    by : (o : Option Data) → json_of bytes ≡ o → (located 0 (ok_or o C1) >>= claims_in contest ids) ≡ Ok claims → AreSound (length ids) claims
    by None e g = absurd cc
    by (Some value) e g = in-sound contest value claims g

  pub each-sound : (contest : Id) (bytes : List ℕ) (r : Result Claimed (Fault CRule)) → IfOk r (λ claims. claims_of contest ids bytes ≡ Ok claims) →
      IfOk r (AreSound (length ids))
  each-sound contest bytes (Ok claims) h = claims-sound contest bytes claims h
  each-sound contest bytes (Err fault) h = h
