-- Rules that hold, and the first that doesn't.
use Rattle.std.proofs.Common.{◌≡◌, Bool, true, false, List, [], ◌∷◌, Ok, Err, refl, ap}
use Rattle.std.specs.Prelude.{if◌then◌else◌}
use Rattle.assertion_file.specs.Reading.{judged}

-- what two rules refuse is also refused if others follow them
pub err-more : {A B R : Type 0} (a b : Bool) (r s : R) (more : List (Bool × R)) (x : A) (y : B) (rule : R) →
    judged ((a, r) ∷ (b, s) ∷ []) x ≡ Err rule →
    judged ((a, r) ∷ (b, s) ∷ more) y ≡ Err rule
err-more true true r s more x y rule h = absurd cc
err-more true false r s more x y rule h = let e : s ≡ rule = cc in ap Err e
err-more false b r s more x y rule h = let e : r ≡ rule = cc in ap Err e

pub record BothHold {A : Type 0} (a b : Bool) (x y : A) : Type 0 where
  pub first : a ≡ true
  pub second : b ≡ true
  pub same : x ≡ y

pub both-hold : {A R : Type 0} (a b : Bool) (r s : R) (x y : A) → judged ((a, r) ∷ (b, s) ∷ []) x ≡ Ok y → BothHold a b x y
both-hold true true r s x y h = record { first = refl; second = refl; same = cc }
both-hold true false r s x y h = absurd cc
both-hold false b r s x y h = absurd cc

abbrev pub AllHold : {R : Type 0} → List (Bool × R) → Type 0
AllHold [] = Unit {0}
AllHold (rule ∷ more) = (rule.0 ≡ true) × AllHold more

pub all-hold : {A R : Type 0} (rules : List (Bool × R)) (x y : A) → judged rules x ≡ Ok y → AllHold rules × (x ≡ y)
all-hold [] x y h = (tt, cc)
all-hold (rule ∷ more) x y h = by rule.0 refl h (all-hold more x y) where
  by : (b : Bool) → rule.0 ≡ b → (if b then judged more x else Err rule.1) ≡ Ok y → (judged more x ≡ Ok y → AllHold more × (x ≡ y)) →
      AllHold (rule ∷ more) × (x ≡ y)
  by true e g ih = let r = ih g in ((e, r.0), r.1)
  by false e g ih = absurd cc
