-- One more choice, one more ballot, and whom a ballot ranks.
use Rattle.std.proofs.Common.{◌≡◌, ℕ, zero, suc, ◌+◌, ◌-◌, ◌*◌, ◌%◌, ◌<◌, min, Bool, true, false, cond, List, [], ◌∷◌, ◌++◌, All, length, fold, refl, ap, arith, mod-lt}
use Rattle.std.proofs.lemmas.List.Elements.{All-push, All-cons}
use Rattle.irv_base.specs.Candidates.{is_in}
use Rattle.trial.specs.Records.{drawn, next, after, places_of, chosen, with_choice, ballot, ballots_from}

-- ---- one more choice
pub chosen-step : (n places i state : ℕ) → i < places → chosen n (places - i) state ≡ min (drawn state % n) (drawn (next state) % n) ∷
    chosen n (places - (i + 1)) (after 2 state)
chosen-step n places i state l =
    let e : places - i ≡ suc (places - (i + 1)) = omega arith in
    ap (λ k. chosen n k state) e

pub after-step : (places i state : ℕ) → i < places → after (2 * (places - i)) state ≡ after (2 * (places - (i + 1))) (after 2 state)
after-step places i state l =
    let e : 2 * (places - i) ≡ suc (suc (2 * (places - (i + 1)))) = omega arith in
    ap (λ k. after k state) e

pub pushed : (old new : List ℕ) (c : ℕ) → (is_in old c ≡ false → new ≡ old ++ c ∷ []) → (is_in old c ≡ true → new ≡ old) → new ≡ with_choice old c
pushed old new c added kept = go (is_in old c) refl where
  go : (b : Bool) → is_in old c ≡ b → new ≡ cond b old (old ++ c ∷ [])
  go true e = kept e
  go false e = added e

-- ---- one more ballot
pub ballots-step : (n ballots i state : ℕ) → i < ballots → ballots_from n (ballots - i) state ≡ ballot n state ∷
    ballots_from n (ballots - (i + 1)) (after (1 + 2 * places_of n state) state)
ballots-step n ballots i state l =
    let e : ballots - i ≡ suc (ballots - (i + 1)) = omega arith in
    ap (λ k. ballots_from n k state) e

pub length-ballots : (n ballots state : ℕ) → length (ballots_from n ballots state) ≡ ballots
length-ballots n zero state = refl
length-ballots n (suc ballots) state = ap suc (length-ballots n ballots (after (1 + 2 * places_of n state) state))

-- ---- whom a ballot ranks
module _ (n : ℕ) (some : 0 < n) where
  abbrev Below : List ℕ → Type 0
  Below cs = All (λ c. c < n) cs

  chosen-below : (places state : ℕ) → Below (chosen n places state)
  chosen-below zero state = λ k d l. absurd (omega (arith, l))
  chosen-below (suc places) state =
      let first : drawn state % n < n = mod-lt (drawn state) some in
      let least : min (drawn state % n) (drawn (next state) % n) < n = omega (arith, first) in
      All-cons (λ c. c < n) (min (drawn state % n) (drawn (next state) % n)) (chosen n places (after 2 state)) least (chosen-below places (after 2 state))

  with-below : (ranking : List ℕ) (c : ℕ) → Below ranking → c < n → Below (with_choice ranking c)
  with-below ranking c h l = go (is_in ranking c) where
    go : (b : Bool) → Below (cond b ranking (ranking ++ c ∷ []))
    go true = h
    go false = All-push (λ d. d < n) ranking c h l

  fold-below : (choices ranking : List ℕ) → Below choices → Below ranking → Below (fold with_choice ranking choices)
  fold-below [] ranking h r = r
  fold-below (c ∷ rest) ranking h r =
      fold-below rest (with_choice ranking c) (λ k d l. h (suc k) d (omega (arith, l))) (with-below ranking c r (h 0 c (omega arith)))

  pub ballot-below : (state : ℕ) → Below (ballot n state)
  ballot-below state = fold-below (chosen n (places_of n state) (next state)) [] (chosen-below (places_of n state) (next state))
      (λ k d l. absurd (omega (arith, l)))

  pub ballots-below : (ballots state : ℕ) → All (λ ranking. All (λ c. c < n) ranking) (ballots_from n ballots state)
  ballots-below zero state = λ k d l. absurd (omega (arith, l))
  ballots-below (suc ballots) state =
      let later : ℕ = after (1 + 2 * places_of n state) state in
      All-cons Below (ballot n state) (ballots_from n ballots later) (ballot-below state) (ballots-below ballots later)
