-- The alternative orders and the suffixes that a test keeps, and the number of these suffixes that come before the least such order.
use Rattle.std.specs.Prelude.{ℕ, Bool, true, ◌&&◌, nat_lt, List, find, count_by, Option, Some, None, Result, Ok, Err}
use Rattle.irv_base.specs.Candidates.{all_but}
use Rattle.suffix_walk.specs.declared.walk.Stop.{Stop}
use Rattle.suffix_walk.specs.declared.walk.Stop.TheVariants.{Found, Spent}
use Rattle.assertions.specs.Suffixes.{alternative_orders, parts_ending, comes_before}

-- the least alternative order, read backwards, that is kept
abbrev pub first_kept : ℕ → ℕ → (List ℕ → Bool) → Option (List ℕ)
first_kept n winner kept = find kept (alternative_orders n winner)

-- if there is an order, the suffix comes before it, both read backwards
abbrev pub is_passed : Option (List ℕ) → List ℕ → Bool
is_passed None suffix = true
is_passed (Some order) suffix = comes_before suffix order

-- the number of suffixes that count for c: they end in it, aren't whole orders, are kept, and come before that order
abbrev pub kept_count : ℕ → (List ℕ → Bool) → Option (List ℕ) → ℕ → ℕ
kept_count n kept order c =
    count_by (λ suffix. kept suffix && is_passed order suffix) (parts_ending n c)

-- the least candidate, other than the winner, for whom more than nodes count
abbrev pub first_over : ℕ → ℕ → ℕ → (ℕ → ℕ) → Option ℕ
first_over n winner nodes count = find (λ c. nat_lt nodes (count c)) (all_but n winner)

-- the candidate over the budget, if there is one; otherwise the order
abbrev pub or_spent : Option ℕ → Option (List ℕ) → Result (Option (List ℕ)) ℕ
or_spent (Some last) order = Err last
or_spent None order = Ok order

-- the answer when a walk through the suffixes that end in this candidate has stopped
abbrev pub stopped_at : ℕ → Stop → Result (Option (List ℕ)) ℕ
stopped_at last (Found order) = Ok (Some order)
stopped_at last Spent = Err last

abbrev pub first_within : ℕ → ℕ → ℕ → (List ℕ → Bool) → Result (Option (List ℕ)) ℕ
first_within n winner nodes kept =
    let order = first_kept n winner kept in
    or_spent (first_over n winner nodes (kept_count n kept order)) order
