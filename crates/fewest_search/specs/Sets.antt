-- The number of sets of candidates that a search for the fewest NENs needs.
use Rattle.std.specs.Prelude.{ℕ, max, ◌==◌, List, if◌then◌else◌}
use Rattle.nen_cut.specs.Floors.{sets_beside}
use Rattle.set_search.specs.Sets.{best_of, order_sets}

-- the number of sets that all true NEBs of at least the best margin let stand; it is 0 if that margin is 0, since then no NENs are sought
abbrev pub beside_best : ℕ → List (List ℕ) → ℕ → ℕ
beside_best n records winner =
    let best = best_of n records winner in
    if best == 0 then 0 else sets_beside n records winner best

-- the number of sets for the certificate's order, or the number that the NEBs let stand, whichever is larger
abbrev pub fewest_sets : ℕ → List (List ℕ) → ℕ → ℕ
fewest_sets n records winner =
    max (order_sets n records winner) (beside_best n records winner)
