-- How a walk goes through what opens.
use Rattle.std.proofs.Common.{◌≡◌, MatchOption, ℕ, ◌+◌, ◌<◌, ◌≤◌, Bool, true, false, nat_lt, inl, inr, List, length, flat_map, Option, Some, None, Result, Ok, Err, refl, sym, ap, arith, ltb-true, ltb-false, ◌∙◌}
use Rattle.std.proofs.lemmas.Bool.{cases_Bool}
use Rattle.irv_base.specs.Candidates.{candidates, set_of}
use Rattle.irv_base.specs.Suffixes.{is_suffix}
use Rattle.assertions.specs.declared.assertion.Assertion.{Assertion}
use Rattle.suffix_walk.specs.Kept.{all_ending}
use Rattle.suffix_walk.specs.Walks.{walked}
use Rattle.suffix_walk.specs.declared.walk.Stop.{Stop as WalkStop}
use Rattle.suffix_walk.specs.declared.walk.Stop.TheVariants.{Found as WalkFound, Spent as WalkSpent}
use Rattle.suffix_walk.proofs.Runs.{child, all_ending-step, walked_none, walked-spent, walked-enters, rest, rest-start}
use Rattle.cover_checker.specs.Covers.{stands}
use Rattle.trimmer.specs.Opened.{counted, is_open, is_past, opens, told}
use Rattle.trimmer.specs.declared.opened.Stop.{Stop}
use Rattle.trimmer.specs.declared.opened.Stop.TheVariants.{Found, Spent}
use Rattle.trimmer.proofs.Below.{others-none, past-none}

-- ---- the ends of a walk
pub from_told-ok : (r : Result ℕ WalkStop) (count : ℕ) → Ok count ≡ told r → r ≡ Ok count
from_told-ok (Ok other) count e = let same : count ≡ other = cc in ap Ok (sym same)
from_told-ok (Err (WalkFound order)) count e = cc
from_told-ok (Err WalkSpent) count e = cc

pub from_told-err : (r : Result ℕ WalkStop) (stop : Stop) → Err stop ≡ told r → (cause : WalkStop) × (r ≡ Err cause) × (told (Err cause) ≡ Err stop)
from_told-err (Ok other) stop e = cc
from_told-err (Err cause) stop e = (cause, refl, sym e)

pub from_told-found : (r : Result ℕ WalkStop) → Err Found ≡ told r → (order : List ℕ) × (r ≡ Err (WalkFound order))
from_told-found (Ok other) e = cc
from_told-found (Err (WalkFound order)) e = (order, refl)
from_told-found (Err WalkSpent) e = cc

pub from_told-spent : (r : Result ℕ WalkStop) → Err Spent ≡ told r → r ≡ Err WalkSpent
from_told-spent (Ok other) e = cc
from_told-spent (Err (WalkFound order)) e = cc
from_told-spent (Err WalkSpent) e = refl

module _ (n nodes : ℕ) (others : List Assertion) (claim : Option Assertion) (count : ℕ) (t : List ℕ) where
  abbrev test : List ℕ → Bool
  test = opens others claim

  -- the others refute everything that ends in the suffix
  pub walked-refuted : is_suffix n t ≡ true → stands others t ≡ false → Ok count ≡ told (walked n nodes test count (all_ending n t))
  walked-refuted h f = sym (ap told (walked_none n nodes test count (all_ending n t) (others-none n others claim t h f)))

  -- the whole suffix
  pub walked-closed : is_open claim t ≡ false → length t < n → walked n nodes test count (all_ending n t)
      ≡ walked n nodes test count (flat_map (child n t) (candidates n))
  walked-closed f short =
      let out : test t ≡ false = Rattle.std.proofs.lemmas.Bool.and_right (stands others t) (is_open claim t) f in
      ap (walked n nodes test count) (all_ending-step n t short) ∙ (rw out refl)

  pub enters : (seen : ℕ) → stands others t ≡ true → length t < n → count ≤ nodes → counted (is_open claim t) count nodes ≡ Ok seen →
      (seen ≤ nodes) × (rest n nodes test seen t 0 ≡ walked n nodes test count (all_ending n t))
  enters seen kept short within e = go (is_open claim t) refl e where
    go : (b : Bool) → is_open claim t ≡ b → counted b count nodes ≡ Ok seen →
        (seen ≤ nodes) × (rest n nodes test seen t 0 ≡ walked n nodes test count (all_ending n t))
    go false o e =
        let same : count ≡ seen = cc in (
          omega arith,
          rest-start n nodes test seen t ∙ ap (λ k. walked n nodes test k (flat_map (child n t) (candidates n))) (sym same)
              ∙ sym (walked-closed o short),
        )
    go true o e = elim (cases_Bool (nat_lt count nodes)) [
      | inl room ↦
          let f : Ok (count + 1) ≡ Ok seen = rw room at e in
          let same : count + 1 ≡ seen = cc in
          let lt : count < nodes = ltb-true count nodes room in
          let open' : test t ≡ true = Rattle.std.proofs.lemmas.Bool.and_from (stands others t) (is_open claim t) kept o in (
            omega arith,
            rest-start n nodes test seen t ∙ ap (λ k. walked n nodes test k (flat_map (child n t) (candidates n))) (sym same)
                ∙ sym (walked-enters n nodes test count t open' short lt),
          )
      | inr full ↦ let f : Err Spent ≡ Ok seen = rw full at e in cc
    ]

  pub spends : (stop : Stop) → stands others t ≡ true → length t < n → counted (is_open claim t) count nodes ≡ Err stop →
      Err stop ≡ told (walked n nodes test count (all_ending n t))
  spends stop kept short e = go (is_open claim t) refl e where
    go : (b : Bool) → is_open claim t ≡ b → counted b count nodes ≡ Err stop → Err stop ≡ told (walked n nodes test count (all_ending n t))
    go false o e = cc
    go true o e = elim (cases_Bool (nat_lt count nodes)) [
      | inl room ↦ let f : Ok (count + 1) ≡ Err stop = rw room at e in cc
      | inr full ↦
          let f : Err Spent ≡ Err stop = rw full at e in
          let open' : test t ≡ true = Rattle.std.proofs.lemmas.Bool.and_from (stands others t) (is_open claim t) kept o in
          sym f ∙ sym (ap told (walked-spent n nodes test count t open' short (ltb-false count nodes full)))
    ]

-- the claim refutes nothing that ends in the suffix
pub walked-past : (n nodes : ℕ) (others : List Assertion) (claim : Option Assertion) (count : ℕ) (t : List ℕ) → is_suffix n t ≡ true →
    false ≡ is_open claim t → MatchOption claim (true ≡ false) (λ claim. true ≡ is_past claim (set_of t)) →
    Ok count ≡ told (walked n nodes (opens others claim) count (all_ending n t))
walked-past n nodes others None count t h f past = cc
walked-past n nodes others (Some claim) count t h f past =
    sym (ap told (walked_none n nodes (opens others (Some claim)) count (all_ending n t) (past-none n others claim t h (sym f) (sym past))))
