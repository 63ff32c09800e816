-- The smallest margin that a gap leaves.
use Rattle.std.proofs.Common.{◌≡◌, ℕ, ◌+◌, ◌-◌, ◌*◌, ◌/◌, ◌%◌, ◌<◌, ◌≤◌, max, arith}
use Rattle.std.proofs.lemmas.Nat.{div-add-mod', mod_below, mul-le}
use Rattle.fewest_search.specs.Gap.{least_margin}
use Rattle.fewest_search.specs.Laws.{GapIsRoundedUp, NoGapIsBest}

-- a number of thousands, rounded up
record IsUp (a q : ℕ) : Type 0 where
  pub enough : a ≤ q * 1000
  pub few : q * 1000 < a + 1000

up-parts : (a q r : ℕ) → q * 1000 + r ≡ a + 999 → r < 1000 → IsUp a q
up-parts a q r is below = record { enough = omega (arith, is, below); few = omega (arith, is) }

up : (a : ℕ) → IsUp a ((a + 999) / 1000)
up a = up-parts a ((a + 999) / 1000) ((a + 999) % 1000) (div-add-mod' (a + 999) 1000) (mod_below (a + 999) 1000 (omega arith))

above-if : (a q votes : ℕ) → IsUp a q → max 1 q ≤ votes → (1 ≤ votes) × (a ≤ 1000 * votes)
above-if a q votes is le = let enough = is.enough in (omega (arith, le), omega (arith, le, enough))

above-only : (a q votes : ℕ) → IsUp a q → 1 ≤ votes → a ≤ 1000 * votes → max 1 q ≤ votes
above-only a q votes is some le = let few = is.few in omega (arith, some, le, few)

pub gap_is_rounded_up : GapIsRoundedUp
gap_is_rounded_up gap best votes =
    let a = best * (1000 - gap) in
    (above-if a ((a + 999) / 1000) votes (up a), λ h. above-only a ((a + 999) / 1000) votes (up a) h.0 h.1)

part-le : (gap best : ℕ) → best * (1000 - gap) ≤ 1000 * best
part-le gap best = let kept : 1000 - gap ≤ 1000 = omega arith in grind (arith, mul-le, kept)

-- it isn't above the best margin
pub least-le : (gap best : ℕ) → 1 ≤ best → least_margin gap best ≤ best
least-le gap best some = (gap_is_rounded_up gap best best).1 (some, part-le gap best)

pub least-some : (gap best : ℕ) → 1 ≤ least_margin gap best
least-some gap best = omega arith

pub no_gap_is_best : NoGapIsBest
no_gap_is_best best some =
    let (_, enough) = (gap_is_rounded_up 0 best (least_margin 0 best)).0 (omega arith) in
    let le = least-le 0 best some in
    let all : best * 1000 ≤ 1000 * least_margin 0 best = enough in
    thousand best (least_margin 0 best) all le
  where
    thousand : (best least : ℕ) → best * 1000 ≤ 1000 * least → least ≤ best → least ≡ best
    thousand best least enough le = omega (arith, enough, le)
