-- Which elimination orders an assertion refutes.
use Rattle.std.specs.Prelude.{ℕ, Bool, not, ◌&&◌, ◌==◌, if◌then◌else◌, List, [], ◌∷◌}
use Rattle.std.specs.List.{list_any, list_all}
use Rattle.irv_base.specs.Candidates.{is_in, set_of}
use Rattle.assertions.specs.declared.assertion.Assertion.{Assertion}
use Rattle.assertions.specs.declared.assertion.Assertion.TheVariants.{Neb, Nen}
use Rattle.assertions.specs.Suffixes.{alternative_orders}

-- the part of a suffix from c to the end
abbrev pub part_from : List ℕ → ℕ → List ℕ
part_from [] c = []
part_from (d ∷ rest) c = if d == c then d ∷ rest else part_from rest c

-- NEB(w,l): l is in the suffix, and w doesn't come after it: w comes before it or isn't in the suffix. NEN(w,l,rest): w is in the
-- suffix, and the candidates from w to the end are exactly the rest.
abbrev pub refutes : Assertion → List ℕ → Bool
refutes (Neb w l) suffix = is_in suffix l && not (is_in (part_from suffix l) w)
refutes (Nen w l rest) suffix = is_in suffix w && (set_of (part_from suffix w) == rest)

-- each order that elects another candidate is refuted by one of the assertions
abbrev pub covers : ℕ → ℕ → List Assertion → Bool
covers n winner claims =
    list_all (λ order. list_any (λ a. refutes a order) claims) (alternative_orders n winner)
