-- The number of times that a list of assertions says each thing.
use Rattle.std.specs.Prelude.{◌≡◌, ℕ, ◌+◌, Bool, if◌then◌else◌, List, [], ◌∷◌, unwrap_or}
use Rattle.std.specs.BTreeMap.{get}
use Rattle.assertions.specs.declared.assertion.Assertion.{Assertion}
use Rattle.assertions.specs.declared.assertion.Assertion.TheVariants.{Neb, Nen}
use Rattle.assertions.specs.FixedOrder.{fixed_order}
use Rattle.cover_checker.specs.Indexed.{IsIndexOf, is_neb, is_nen}
use Rattle.trimmer.specs.declared.counted.Counted.{Counted}

-- the assertion that represents all that refute the same; a NEN's loser doesn't matter for that, so its place is taken by the winner
abbrev pub alike : Assertion → Assertion
alike (Neb w l) = Neb w l
alike (Nen w l rest) = Nen w w rest

-- the second refutes the same as the first
abbrev pub is_alike : Assertion → Assertion → Bool
is_alike (Neb w l) b = is_neb w l b
is_alike (Nen w l rest) b = is_nen w rest b

-- the number of assertions in the list that refute the same
abbrev pub times : Assertion → List Assertion → ℕ
times a [] = 0
times a (b ∷ list) = (if is_alike a b then 1 else 0) + times a list

-- the number that the counts give
abbrev pub count_in : Counted → Assertion → ℕ
count_in counted a = unwrap_or (get fixed_order counted.times (alike a)) 0

-- the counts give the actual numbers, and the index is the list's
pub record IsCountOf (list : List Assertion) (counted : Counted) : Type 0 where
  pub times_are : (a : Assertion) → count_in counted a ≡ times a list
  pub index : IsIndexOf list counted.refuting
