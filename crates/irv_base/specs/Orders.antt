-- Elimination orders: all candidates, first eliminated first, so the winner is last.
use Rattle.std.specs.Prelude.{◌≡◌, ◌≢◌, ◌<◌, ℕ, Bool, true, false, ◌&&◌, ◌==◌, nat_lt, List, [], ◌∷◌, ◌++◌, length, take, slice_index}
use Rattle.std.specs.List.{list_all}
use Rattle.irv_base.specs.Candidates.{candidates, is_in}
use Rattle.irv_base.specs.declared.order.BadOrder.{BadOrder}
use Rattle.irv_base.specs.declared.order.BadOrder.TheVariants.{Length, Range, Repeated}

-- each of n candidates appears once
abbrev pub is_order : ℕ → List ℕ → Bool
is_order n order = (length order == n) && list_all (λ c. is_in order c) (candidates n)

abbrev pub EndsIn : List ℕ → List ℕ → Type 0
EndsIn order suffix = (before : List ℕ) × (order ≡ before ++ suffix)

abbrev pub Elects : List ℕ → ℕ → Type 0
Elects order c = EndsIn order (c ∷ [])

-- ---- why a list is not an order of n candidates

-- the number at a place is a candidate that didn't come before
abbrev pub is_in_range : ℕ → List ℕ → ℕ → Bool
is_in_range n list i = nat_lt (slice_index list i) n

abbrev pub is_repeated : List ℕ → ℕ → Bool
is_repeated list i = is_in (take i list) (slice_index list i)

-- i is a place, and the places before it hold candidates, none of them twice
pub record IsFirstFault (n : ℕ) (list : List ℕ) (i : ℕ) : Type 0 where
  pub long : length list ≡ n
  pub within : i < n
  pub before : (k : ℕ) → k < i → (is_in_range n list k ≡ true) × (is_repeated list k ≡ false)

abbrev pub Refuses : ℕ → List ℕ → BadOrder → Type 0
Refuses n list (Length found) = (found ≡ length list) × (length list ≢ n)
Refuses n list (Range i) = IsFirstFault n list i × (is_in_range n list i ≡ false)
Refuses n list (Repeated i) =
    IsFirstFault n list i × (is_in_range n list i ≡ true) × (is_repeated list i ≡ true)
