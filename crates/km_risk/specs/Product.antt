-- Draws that each have a value, where each value has a factor over / under value: the product of the factors, as a fraction, and the number
-- of sequences of draws that reach a product within a limit.
use Rattle.std.specs.Prelude.{ℕ, zero, suc, ◌*◌, ◌^◌, Bool, nat_le, if◌then◌else◌, List, [], ◌∷◌, ◌++◌, map, length, fold, sum_by}

-- a risk limit is a number of these, and a risk of one is this many
abbrev pub millionths_in_one : ℕ
millionths_in_one = 1000000

-- the product of the numbers, which is 1 if there are none
abbrev pub product : List ℕ → ℕ
product xs = fold (λ all x. all * x) 1 xs

module _ (over : ℕ) (under : ℕ → ℕ) where
  -- the product of the factors of these values is at most limit millionths
  abbrev pub is_within : ℕ → List ℕ → Bool
  is_within limit values =
      nat_le (over ^ length values * millionths_in_one) (limit * product (map under values))

  -- Of the sequences that begin with what was drawn and continue with n more draws, the number that have a product of at most limit
  -- millionths, now or after some of these draws. The list `values` has the value of each card.
  abbrev pub reach : ℕ → List ℕ → List ℕ → ℕ → ℕ
  reach limit values drawn zero = if is_within limit drawn then 1 else 0
  reach limit values drawn (suc n) =
      if is_within limit drawn then length values ^ suc n
      else sum_by (λ value. reach limit values (drawn ++ value ∷ []) n) values
