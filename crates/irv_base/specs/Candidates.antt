-- Candidates are the numbers below n. A set of candidates is the sum of 2 ^ c over its members.
use Rattle.std.specs.Prelude.{ℕ, ◌/◌, ◌%◌, ◌^◌, Bool, true, not, ◌&&◌, ◌==◌, List, [], ◌∷◌, sum_by, filter}
use Rattle.std.specs.List.{list_any, range_with_len}
use Rattle.irv_base.specs.declared.limits.TheConstants.{ROOM}

abbrev pub candidates : ℕ → List ℕ
candidates n = range_with_len 0 n

abbrev pub all_but : ℕ → ℕ → List ℕ
all_but n winner = filter (λ c. not (c == winner)) (candidates n)

abbrev pub is_in : List ℕ → ℕ → Bool
is_in cs c = list_any (λ d. d == c) cs

-- no candidate appears twice
abbrev pub is_distinct : List ℕ → Bool
is_distinct [] = true
is_distinct (c ∷ rest) = not (is_in rest c) && is_distinct rest

abbrev pub set_of : List ℕ → ℕ
set_of cs = sum_by (λ c. 2 ^ c) cs

abbrev pub has : ℕ → ℕ → Bool
has set c = (set / 2 ^ c) % 2 == 1

-- the members of a set, in increasing order
abbrev pub members : ℕ → List ℕ
members set = filter (has set) (candidates ROOM)
