-- The fixed order of assertions.
use Rattle.std.specs.Prelude.{ℕ, ◌<◌, ◌+◌, ◌*◌, ◌^◌, Bool, List, [], ◌∷◌}
use Rattle.std.specs.Cmp.Lexicographic.{slice_cmp}
use Rattle.std.specs.Ordering.{nat_cmp}
use Rattle.std.specs.declared.cmp.Ordering.{Ordering}
use Rattle.assertions.specs.Lists.{stands_before}
use Rattle.assertions.specs.declared.assertion.Assertion.{Assertion}
use Rattle.assertions.specs.declared.assertion.Assertion.TheVariants.{Neb, Nen}

-- NEB before NEN, then the smaller winner, then the smaller loser, then the smaller number of the set
abbrev pub key : Assertion → List ℕ
key (Neb w l) = 0 ∷ w ∷ l ∷ []
key (Nen w l rest) = 1 ∷ w ∷ l ∷ rest ∷ []

abbrev pub is_before : Assertion → Assertion → Bool
is_before a b = stands_before (key a) (key b)

-- which of two assertions comes first
abbrev pub fixed_order : Assertion → Assertion → Ordering
fixed_order a b = slice_cmp nat_cmp (key a) (key b)

-- the key as one number, smaller for an assertion that comes earlier
abbrev pub number_of : Assertion → ℕ
number_of (Neb w l) = (w * 2 ^ 8 + l) * 2 ^ 32
number_of (Nen w l rest) = ((2 ^ 8 + w) * 2 ^ 8 + l) * 2 ^ 32 + rest

-- the parts of the assertion are digits of the number
abbrev pub HasDigits : Assertion → Type 0
HasDigits (Neb w l) = (w < 2 ^ 8) × (l < 2 ^ 8)
HasDigits (Nen w l rest) = (w < 2 ^ 8) × (l < 2 ^ 8) × (rest < 2 ^ 32)
