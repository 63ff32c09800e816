-- Instant-runoff tabulation. An order lists all candidates, first eliminated first, so the rest of the list holds the candidates
-- who remain in a round. If several candidates share the smallest tally, the one with the smallest number is eliminated. A contest
-- is decided if no way of breaking its ties changes the winner.
use Rattle.std.specs.Prelude.{◌≡◌, ℕ, ◌-◌, ◌<◌, Bool, true, false, ◌&&◌, ◌||◌, ◌==◌, nat_le, nat_lt, min, List, [], ◌∷◌, map, length, drop, filter, fold, IsTrue}
use Rattle.std.specs.List.{list_all}
use Rattle.irv_base.specs.Candidates.{set_of}
use Rattle.irv_base.specs.Orders.{is_order, Elects}
use Rattle.irv_base.specs.Records.{tally}

-- c is eliminated before d: it has fewer votes, or the same number of votes and the smaller candidate number
abbrev pub goes_before : (ℕ → ℕ) → ℕ → ℕ → Bool
goes_before votes c d = nat_lt (votes c) (votes d) || ((votes c == votes d) && nat_lt c d)

-- c has the smallest tally among itself and the others, and the smallest number of those with that tally
abbrev pub loses : List (List ℕ) → ℕ → List ℕ → Bool
loses records c others =
    list_all (λ d. goes_before (tally records (set_of (c ∷ others))) c d) others

-- none of the others has a smaller tally than c
abbrev pub may_lose : List (List ℕ) → ℕ → List ℕ → Bool
may_lose records c others =
    list_all
    (λ d. nat_le (tally records (set_of (c ∷ others)) c) (tally records (set_of (c ∷ others)) d))
    others

-- the order that the rule of instant runoff gives
abbrev pub is_tabulated : List (List ℕ) → List ℕ → Bool
is_tabulated records [] = true
is_tabulated records (c ∷ rest) = loses records c rest && is_tabulated records rest

-- an order that some way of breaking ties gives
abbrev pub is_possible : List (List ℕ) → List ℕ → Bool
is_possible records [] = true
is_possible records (c ∷ rest) = may_lose records c rest && is_possible records rest

abbrev pub least : List ℕ → ℕ
least [] = 0
least (x ∷ xs) = fold min x xs

abbrev pub least_tally : List (List ℕ) → List ℕ → ℕ
least_tally records cs = least (map (tally records (set_of cs)) cs)

abbrev pub sharing_least : List (List ℕ) → List ℕ → List ℕ
sharing_least records cs = filter (λ c. tally records (set_of cs) c == least_tally records cs) cs

-- two or more of these candidates share the smallest tally
abbrev pub is_tied : List (List ℕ) → List ℕ → Bool
is_tied records cs = nat_le 2 (length (sharing_least records cs))

-- in no round of the order do two or more of those who remain share the smallest tally
abbrev pub HasNoTie : List (List ℕ) → List ℕ → Type 0
HasNoTie records order = (k : ℕ) → is_tied records (drop k order) ≡ false

-- the first tie of the tabulated order: its round (from 1), the set of the tied candidates, and their tally
pub record IsFirstTie (n : ℕ) (records : List (List ℕ)) (round tied votes : ℕ) : Type 0 where
  pub order : List ℕ
  pub permutation : is_order n order ≡ true
  pub tabulated : is_tabulated records order ≡ true
  pub shared : is_tied records (drop (round - 1) order) ≡ true
  pub first : (k : ℕ) → k < round - 1 → is_tied records (drop k order) ≡ false
  pub who : tied ≡ set_of (sharing_least records (drop (round - 1) order))
  pub with : votes ≡ least_tally records (drop (round - 1) order)

-- each order that some way of breaking ties gives elects this candidate
abbrev pub AllElect : ℕ → List (List ℕ) → ℕ → Type 0
AllElect n records winner =
    (order : List ℕ) → IsTrue (is_order n order) → IsTrue (is_possible records order) →
    Elects order winner

-- all of these orders elect the same candidate
abbrev pub IsDecided : ℕ → List (List ℕ) → Type 0
IsDecided n records = (winner : ℕ) × AllElect n records winner
