-- What is read as a claim is sound.
use Rattle.std.proofs.Common.{◌≡◌, ◌==◌, ℕ, ◌+◌, ◌<◌, ◌^◌, Bool, true, false, not, ◌&&◌, cond, inl, inr, List, [], ◌∷◌, length, get_or, All, Option, Some, None, Ok, Err, refl, sym, ap, subst, ◌∙◌, eqb-true, arith}
use Rattle.std.specs.Prelude.{option_map, unwrap_or, nat_le, nat_lt, position, Result, IfSome}
use Rattle.std.specs.List.{list_all, list_any, position_or_len}
use Rattle.std.proofs.lemmas.Bool.{and_parts, and_from, both_ways, cases_Bool, leb-true, lt-ltb, not_from_false, not-true}
use Rattle.std.proofs.lemmas.Cmp.{nat_list_eq_equiv}
use Rattle.std.proofs.lemmas.List.Elements.{All-cons}
use Rattle.std.proofs.lemmas.List.Quantifiers.{position-Some}
use Rattle.serde_json.specs.Data.{Data}
use Rattle.assertions.specs.Assertions.{is_pair, is_proper}
use Rattle.assertion_file.specs.declared.claims.Planned.{Planned}
use Rattle.irv_base.specs.Candidates.{has, is_distinct, is_in, set_of}
use Rattle.irv_base.specs.Names.{Id, is_among, is_same}
use Rattle.irv_base.proofs.Distinct.{distinct-from_test}
use Rattle.irv_base.proofs.Members.{Member, from_map, from_list_all}
use Rattle.irv_base.proofs.Sets.{has-set_of, set_of-lt}
use Rattle.assertion_file.specs.Content.{IsSoundClaim, IsDrawCount}
use Rattle.assertion_file.specs.Ids.{number_of, numbers_of}
use Rattle.assertion_file.specs.Stated.{Entry, entry_in}
use Rattle.assertion_file.specs.Reading.{are_draws, assertion_with, claim_in, claim_of, claim_with, claims_from, entry_rules, is_rest, judged, located, ◌>>=◌}
use Rattle.file_fault.specs.Refusals.{Refusal}
use Rattle.assertion_file.specs.declared.members.DrawsMember.{DrawsMember}
use Rattle.assertion_file.specs.declared.fault.FRule.{FRule}
use Rattle.irv_base.specs.declared.limits.TheConstants.{MOST_DRAWS}
use Rattle.assertion_file.proofs.Entries.{claim-none, claim-some}
use Rattle.irv_base.proofs.Positions.{any-place, any-within}
use Rattle.assertion_file.proofs.Headings.{margin-is}
use Rattle.assertion_file.proofs.Judged.{AllHold, all-hold}

-- ---- numbers of different ids differ

place-passes : {X : Type 0} (p : X → Bool) (xs : List X) (d : X) → list_any p xs ≡ true → p (get_or xs (position_or_len p xs) d) ≡ true
place-passes p xs d h =
    let at : position p xs ≡ Some (position_or_len p xs) = ap (λ b. cond b (Some (position_or_len p xs)) None) (sym (any-place p xs) ∙ h) in
    (position-Some p xs (position_or_len p xs) d at).1

same-number : (ids : List Id) (a b : Id) → is_among ids a ≡ true → is_among ids b ≡ true → number_of ids a ≡ number_of ids b → is_same a b ≡ true
same-number ids a b at bt e =
    let id = get_or ids (number_of ids a) [] in
    let one : is_same id a ≡ true = place-passes (λ other. is_same other a) ids [] at in
    let two : is_same id b ≡ true = ap (λ n. is_same (get_or ids n []) b) e ∙ place-passes (λ other. is_same other b) ids [] bt in
    sym (nat_list_eq_equiv.congr id a b one) ∙ two

pair-proper : (ids : List Id) (winner loser : Id) → is_among ids winner ≡ true → is_among ids loser ≡ true → is_same winner loser ≡ false →
    is_pair (length ids) (number_of ids winner) (number_of ids loser) ≡ true
pair-proper ids winner loser w l apart =
    let n = length ids in
    let differ : not (number_of ids winner == number_of ids loser) ≡ true = elim (cases_Bool (number_of ids winner == number_of ids loser)) [
      | inl t ↦ absurd (both_ways (is_same winner loser) apart (same-number ids winner loser w l (eqb-true (number_of ids winner) (number_of ids loser) t)))
      | inr f ↦ not_from_false (number_of ids winner == number_of ids loser) f
    ] in
    and_from (nat_lt (number_of ids winner) n && nat_lt (number_of ids loser) n) (not (number_of ids winner == number_of ids loser))
    (and_from (nat_lt (number_of ids winner) n) (nat_lt (number_of ids loser) n)
    (lt-ltb (number_of ids winner) n (any-within (λ other. is_same other winner) ids w))
    (lt-ltb (number_of ids loser) n (any-within (λ other. is_same other loser) ids l)))
    differ

-- ---- an assertion that obeys the rules is proper

numbers-below : (ids names : List Id) (c : ℕ) → list_all (is_among ids) names ≡ true → Member c (numbers_of ids names) → c < length ids
numbers-below ids names c h m =
    let (id, listed, e) = from_map (number_of ids) c names m in
    subst (λ d. d < length ids) e (any-within (λ other. is_same other id) ids (from_list_all (is_among ids) listed h))

pub assertion-proper : (ids : List Id) (winner loser : Id) (rest : Option (List Id)) → is_among ids winner ≡ true → is_among ids loser ≡ true →
    is_same winner loser ≡ false →
    list_all (is_among ids) (unwrap_or rest []) ≡ true → is_rest (number_of ids winner) (number_of ids loser) (option_map (numbers_of ids) rest) ≡ true →
    is_proper (length ids) (assertion_with (number_of ids winner) (number_of ids loser) (option_map (numbers_of ids) rest)) ≡ true
assertion-proper ids winner loser None w l apart known kept = pair-proper ids winner loser w l apart
assertion-proper ids winner loser (Some rest) w l apart known kept =
    let n = length ids in
    let cs = numbers_of ids rest in
    let (both, in_l) = and_parts (is_distinct cs && is_in cs (number_of ids winner)) (is_in cs (number_of ids loser)) kept in
    let (distinct, in_w) = and_parts (is_distinct cs) (is_in cs (number_of ids winner)) both in
    let d = distinct-from_test cs distinct in
    let pair = pair-proper ids winner loser w l apart in
    let below = lt-ltb (set_of cs) (2 ^ n) (set_of-lt n cs d (λ c m. numbers-below ids rest c known m)) in
    let has_w = has-set_of cs (number_of ids winner) d ∙ in_w in
    let has_l = has-set_of cs (number_of ids loser) d ∙ in_l in
    let p = is_pair n (number_of ids winner) (number_of ids loser) in
    and_from (p && nat_lt (set_of cs) (2 ^ n) && has (set_of cs) (number_of ids winner)) (has (set_of cs) (number_of ids loser))
    (and_from (p && nat_lt (set_of cs) (2 ^ n)) (has (set_of cs) (number_of ids winner)) (and_from p (nat_lt (set_of cs) (2 ^ n)) pair below) has_w) has_l

-- ---- claims

-- a sound claim, and draws within the limit
pub record IsSoundPlanned (n records : ℕ) (planned : Planned) : Type 0 where
  pub claim : IsSoundClaim n records (claim_in planned)
  pub draws : IfSome planned.draws IsDrawCount

pub draws-are : (draws : Option ℕ) → are_draws draws ≡ true → IfSome draws IsDrawCount
draws-are None h = tt
draws-are (Some draws) h =
    let (some, most) = and_parts (nat_le 1 draws) (nat_le draws MOST_DRAWS) h in
    record { some = leb-true 1 draws some; most = leb-true draws MOST_DRAWS most }

entry-sound : (ids : List Id) (records : ℕ) (entry : Entry) (claim : Planned) →
    judged (entry_rules ids records entry) (claim_with ids entry) ≡ Ok claim → IsSoundPlanned (length ids) records claim
entry-sound ids records entry claim h =
    let held = all-hold (entry_rules ids records entry) (claim_with ids entry) claim h in
    let all : AllHold (entry_rules ids records entry) = held.0 in
    let differ = all.1.1.0 in
    let known = all.1.1.1.0 in
    let rest = all.1.1.1.1.0 in
    let margin = all.1.1.1.1.1.0 in
    let draws = all.1.1.1.1.1.1.0 in
    subst (IsSoundPlanned (length ids) records) held.1 (record {
      claim = record {
        proper = assertion-proper ids entry.winner entry.loser entry.rest all.0 all.1.0 (not-true (is_same entry.winner entry.loser) differ) known rest;
        margin = margin-is records entry.margin margin;
      };
      draws = draws-are entry.draws draws;
    })

module _ (ids : List Id) (records : ℕ) (asked : DrawsMember) where
  claim-sound : (value : Data) (claim : Planned) → claim_of ids records asked value ≡ Ok claim → IsSoundPlanned (length ids) records claim
  claim-sound value claim h = by (entry_in asked value) refl where
    by : (o : Option Entry) → entry_in asked value ≡ o → IsSoundPlanned (length ids) records claim
    by None e = let bad = sym (claim-none ids records asked value e) ∙ h in absurd cc
    by (Some entry) e = entry-sound ids records entry claim (sym (claim-some ids records asked value entry e) ∙ h)

  pub claims-sound : (at : ℕ) (values : List Data) (claims : List Planned) → claims_from ids records asked at values ≡ Ok claims →
      All (IsSoundPlanned (length ids) records) claims
  claims-sound at [] claims h = let none : [] ≡ claims = cc in
      subst (All (IsSoundPlanned (length ids) records)) none (λ i d within. absurd (omega arith))
  claims-sound at (value ∷ values) claims h =
      by (claim_of ids records asked value) (claims_from ids records asked (at + 1) values) refl h (λ more e. claims-sound (at + 1) values more e)
    where
      by : (r : Result Planned FRule) (o : Result (List Planned) (Refusal FRule)) → claim_of ids records asked value ≡ r →
          (located at r >>= λ claim. o >>= λ more. Ok (claim ∷ more)) ≡ Ok claims →
          ((more : List Planned) → o ≡ Ok more → All (IsSoundPlanned (length ids) records) more) → All (IsSoundPlanned (length ids) records) claims
      by (Err rule) o e g ih = absurd cc
      by (Ok claim) (Err refusal) e g ih = absurd cc
      by (Ok claim) (Ok more) e g ih =
          let same : claim ∷ more ≡ claims = cc in
          subst (All (IsSoundPlanned (length ids) records)) same
          (All-cons (IsSoundPlanned (length ids) records) claim more (claim-sound value claim e) (ih more refl))
