-- Suffixes of elimination orders: the last candidates, so the winner is last.
use Rattle.std.specs.Prelude.{◌≢◌, ℕ, zero, suc, ◌-◌, ◌*◌, Bool, nat_lt, if◌then◌else◌, List, [], ◌∷◌, length, filter, flat_map, reverse, IsTrue}
use Rattle.irv_base.specs.Candidates.{candidates, all_but, is_in}
use Rattle.irv_base.specs.Orders.{is_order, Elects}
pub use Rattle.irv_base.specs.Suffixes.{is_suffix}
use Rattle.assertions.specs.Lists.{stands_before}

-- the orders that put k more candidates before the suffix, in increasing order when read backwards
abbrev pub orders_ending : ℕ → ℕ → List ℕ → List (List ℕ)
orders_ending n zero suffix = suffix ∷ []
orders_ending n (suc k) suffix =
    flat_map (λ c. if is_in suffix c then [] else orders_ending n k (c ∷ suffix)) (candidates n)

-- the suffixes that put at most k more candidates before the suffix, in increasing order when read backwards
abbrev pub suffixes_ending : ℕ → ℕ → List ℕ → List (List ℕ)
suffixes_ending n zero suffix = suffix ∷ []
suffixes_ending n (suc k) suffix =
    suffix
    ∷ flat_map (λ c. if is_in suffix c then [] else suffixes_ending n k (c ∷ suffix)) (candidates n)

-- an order that elects a candidate other than the winner
abbrev pub IsAlternative : ℕ → ℕ → List ℕ → Type 0
IsAlternative n winner order = IsTrue (is_order n order) × ((c : ℕ) × (c ≢ winner) × Elects order c)

-- all orders that elect a candidate other than the winner, in increasing order when read backwards
abbrev pub alternative_orders : ℕ → ℕ → List (List ℕ)
alternative_orders n winner = flat_map (λ c. orders_ending n (n - 1) (c ∷ [])) (all_but n winner)

-- all suffixes that elect a candidate other than the winner
abbrev pub alternative_suffixes : ℕ → ℕ → List (List ℕ)
alternative_suffixes n winner =
    flat_map (λ c. suffixes_ending n (n - 1) (c ∷ [])) (all_but n winner)

-- the suffixes that end in c and aren't whole orders
abbrev pub parts_ending : ℕ → ℕ → List (List ℕ)
parts_ending n c = filter (λ suffix. nat_lt (length suffix) n) (suffixes_ending n (n - 1) (c ∷ []))

-- the first suffix comes before the second when both are read backwards
abbrev pub comes_before : List ℕ → List ℕ → Bool
comes_before suffix other = stands_before (reverse suffix) (reverse other)

abbrev pub factorial : ℕ → ℕ
factorial zero = 1
factorial (suc n) = suc n * factorial n
