-- What an index of assertions answers.
use Rattle.std.specs.Prelude.{◌≡◌, ℕ, Bool, false, not, ◌&&◌, ◌==◌, List, get_or}
use Rattle.std.specs.List.{list_any}
use Rattle.irv_base.specs.Candidates.{has, members}
use Rattle.assertions.specs.declared.assertion.Assertion.{Assertion}
use Rattle.assertions.specs.declared.assertion.Assertion.TheVariants.{Neb, Nen}
use Rattle.cover_checker.specs.Numbered.{under}
use Rattle.cover_checker.specs.declared.refuting.Refuting.{Refuting}

-- the assertion refutes a suffix with this first candidate and this set, if it doesn't refute its parent
abbrev pub is_new : Assertion → ℕ → ℕ → Bool
is_new (Neb w l) first set = (l == first) && not (has set w)
is_new (Nen w l rest) first set = (w == first) && (set == rest)

-- a candidate outside the set has a NEB over this one
abbrev pub is_beaten : List ℕ → ℕ → ℕ → Bool
is_beaten winners first set = list_any (λ w. not (has set w)) (members (get_or winners first 0))

-- the assertion is the NEB of this winner over this loser
abbrev pub is_neb : ℕ → ℕ → Assertion → Bool
is_neb w l (Neb v k) = (k == l) && (v == w)
is_neb w l (Nen v k rest) = false

-- the assertion is a NEN of this winner in this set; its loser doesn't matter to what it refutes
abbrev pub is_nen : ℕ → ℕ → Assertion → Bool
is_nen w set (Neb v k) = false
is_nen w set (Nen v k rest) = (rest == set) && (v == w)

-- the winners are those of the list
pub record IsIndexOf (list : List Assertion) (refuting : Refuting) : Type 0 where
  pub nebs : (w l : ℕ) → has (get_or refuting.winners l 0) w ≡ list_any (is_neb w l) list
  pub nens : (w set : ℕ) → has (under refuting.nens set) w ≡ list_any (is_nen w set) list
