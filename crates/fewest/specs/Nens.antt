-- The NENs of a list, and which assertions are true with at least a margin, the floor.
use Rattle.std.specs.Prelude.{ℕ, suc, Bool, true, false, not, ◌&&◌, nat_le, if◌then◌else◌, List, [], ◌∷◌}
use Rattle.std.specs.List.{list_any}
use Rattle.assertions.specs.declared.assertion.Assertion.{Assertion}
use Rattle.assertions.specs.declared.assertion.Assertion.TheVariants.{Neb, Nen}
use Rattle.assertions.specs.Assertions.{is_proper, is_true, true_margin}
use Rattle.assertions.specs.Certificate.{is_same}

abbrev pub is_nen : Assertion → Bool
is_nen (Neb w l) = false
is_nen (Nen w l rest) = true

-- a NEN that isn't in the list
abbrev pub is_new_nen : List Assertion → Assertion → Bool
is_new_nen list a = is_nen a && not (list_any (λ b. is_same b a) list)

-- the number of different NENs in the list
abbrev pub nen_count : List Assertion → ℕ
nen_count [] = 0
nen_count (a ∷ list) = if is_new_nen list a then suc (nen_count list) else nen_count list

-- proper, true of the records, and its margin isn't below the floor
abbrev pub is_enough : ℕ → List (List ℕ) → ℕ → Assertion → Bool
is_enough n records floor a =
    is_proper n a && (is_true records a && nat_le floor (true_margin records a))
