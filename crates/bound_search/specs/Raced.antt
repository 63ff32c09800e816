-- What a race starts from, and the result of a race over given pieces.
use Rattle.std.specs.Prelude.{◌≡◌, ◌⊎◌, ℕ, ◌<◌, ◌≤◌, ◌==◌, if◌then◌else◌, List, All, Option, None, length, map}
use Rattle.std.specs.Option.{MatchOption}
use Rattle.assertions.specs.Hardness.{first_bound}
use Rattle.irv_tabulator.specs.declared.tabulated.Tabulated.{Tabulated}
use Rattle.set_tallies.specs.Bags.{Kept, IsOf}
use Rattle.shared_witness.specs.Moment.{EachOnce}
use Rattle.suffix_tree.specs.Suffixes.{Suffix}
use Rattle.bound_search.specs.Race.{IsPaced, AreReportsOf, piece_of, pieces}
use Rattle.bound_search.specs.Reached.{IsFoundIn, IsReached, IsClosedAt, IsCostly}
use Rattle.bound_search.specs.Team.{IsEntryOfOne}
use Rattle.bound_search.specs.declared.ends.Best.{Best}
use Rattle.bound_search.specs.declared.ends.PieceEnd.{PieceEnd}
use Rattle.bound_search.specs.declared.run.Raced.{Raced}
use Rattle.bound_search.specs.declared.start.Start.{Start}

-- all pieces, and an order that elects a candidate other than the winner and has the hardness by which the work of a piece is
-- counted
pub record IsStart (bag : Kept) (tab : Tabulated) (start : Start) : Type 0 where
  pub two : 1 < bag.n
  pub tails : start.tails.items ≡ map (piece_of bag.n) (pieces bag.n tab.winner)
  pub reached : IsReached bag tab.winner start.first
  pub first : (records : List (List ℕ)) → IsOf bag records →
      start.first.margin ≡ first_bound bag.n records tab.order

-- the piece of the entry is closed under the bound
abbrev pub IsClosedEntry : Kept → ℕ → PieceEnd → Type 0
IsClosedEntry bag bound p = IsClosedAt bag bound p.tail.list p.expanded

-- a piece out of budget leaves the best margin open only if no order of hardness 0 is known
abbrev pub spent_above : ℕ → Option ℕ → Option ℕ
spent_above margin spent = if margin == 0 then None else spent

pub record IsRaced (bag : Kept) (nodes : ℕ) (tails : List Suffix) (workers : ℕ) (start : Best)
    (r : Raced) : Type 0 where
  pub took : EachOnce (length tails) (map (λ p. p.piece) r.ends.items)
  pub entries : All (IsEntryOfOne bag start.margin nodes workers tails) r.ends.items
  pub count : length r.reports.items ≡ workers
  pub reports : AreReportsOf r.ends.items r.reports.items
  pub paced : All IsPaced r.reports.items
  pub best : (r.best ≡ start) ⊎ IsFoundIn bag tails r.best
  pub upper : r.best.margin ≤ start.margin
  pub spent :
      MatchOption r.spent (All (IsClosedEntry bag r.best.margin) r.ends.items)
      (λ piece. (1 ≤ r.best.margin) × IsCostly bag start.margin nodes tails piece)
