-- The pieces of a race, and what the race returns: the best margin, with an order that has it and the number of suffixes expanded
-- in each piece; or an alternative winner with too much work.
use Rattle.std.specs.Prelude.{◌≡◌, ◌≢◌, ℕ, ◌+◌, ◌-◌, ◌*◌, ◌<◌, ◌≤◌, min, Bool, ◌&&◌, ◌==◌, if◌then◌else◌, nat_lt, List, [], ◌∷◌, length, map, flat_map, count_by, sum_by, slice_index_or, All, ⊤}
use Rattle.irv_base.specs.Candidates.{candidates, all_but}
use Rattle.irv_base.specs.Tabulation.{least}
use Rattle.assertions.specs.Suffixes.{IsAlternative, orders_ending, suffixes_ending}
use Rattle.assertions.specs.Hardness.{greatest, low, best_margin, first_bound}
use Rattle.set_tallies.specs.Bags.{Kept, IsOf}
use Rattle.suffix_tree.specs.Suffixes.{Suffix}
use Rattle.irv_tabulator.specs.declared.tabulated.Tabulated.{Tabulated}
use Rattle.bound_search.specs.declared.ends.PieceEnd.{PieceEnd}
use Rattle.bound_search.specs.declared.ends.RaceEnd.{RaceEnd}
use Rattle.bound_search.specs.declared.ends.RaceFault.{RaceFault}
use Rattle.bound_search.specs.declared.ends.RaceFault.TheVariants.{Spent, Memory}
use Rattle.bound_search.specs.declared.ends.Report.{Report}
use Rattle.bound_search.specs.declared.limits.TheConstants.{MOST_EXPANDED}

-- the best margin, and an alternative order that has this hardness
pub record IsBest (n : ℕ) (records : List (List ℕ)) (winner : ℕ) (end : RaceEnd) : Type 0 where
  pub best : end.margin ≡ best_margin n winner (low n records)
  pub alternative : IsAlternative n winner end.order
  pub hardness : low n records end.order ≡ end.margin

-- the best margin over whatever records the bag is of
abbrev pub IsBestOver : Kept → ℕ → RaceEnd → Type 0
IsBestOver bag winner end =
    (records : List (List ℕ)) → IsOf bag records → IsBest bag.n records winner end

-- ---- the pieces

-- the pieces of the orders that elect c: one for each candidate eliminated last
abbrev pub pieces_electing : ℕ → ℕ → List (List ℕ)
pieces_electing n c = map (λ other. other ∷ c ∷ []) (all_but n c)

-- all pieces, each given by the two candidates in which its orders end, in increasing order when read backwards
abbrev pub pieces : ℕ → ℕ → List (List ℕ)
pieces n winner = flat_map (pieces_electing n) (all_but n winner)

abbrev pub piece_of : ℕ → List ℕ → Suffix
piece_of n suffix = record { n = n; list = suffix }

-- the smallest hardness of an order that ends in the suffix
abbrev pub value_of : ℕ → List (List ℕ) → List ℕ → ℕ
value_of n records piece = least (map (low n records) (orders_ending n (n - length piece) piece))

-- ---- the number of suffixes of a piece that are expanded

-- the suffixes of a piece, which is given by the suffix in which they end
abbrev pub suffixes_of : ℕ → List ℕ → List (List ℕ)
suffixes_of n piece = suffixes_ending n (n - length piece) piece

-- a suffix that isn't a whole order and whose low is below the limit
abbrev pub is_part_below : ℕ → List (List ℕ) → ℕ → List ℕ → Bool
is_part_below n records limit s = nat_lt (length s) n && nat_lt (low n records s) limit

-- the number of suffixes of a piece that aren't whole orders and whose low is below the limit
abbrev pub parts_below : ℕ → List (List ℕ) → ℕ → List ℕ → ℕ
parts_below n records limit piece = count_by (is_part_below n records limit) (suffixes_of n piece)

-- the work of a piece: the number of its suffixes that aren't whole orders and whose low is below the first bound and at most the
-- value of the piece
abbrev pub work : ℕ → List (List ℕ) → ℕ → List ℕ → ℕ
work n records first piece = parts_below n records (min first (value_of n records piece + 1)) piece

-- the number of expanded suffixes is at most the work of the piece, and at least the number with a low below the best margin
pub record IsPieceEnd (n : ℕ) (records : List (List ℕ)) (order : List ℕ) (margin : ℕ) (p : PieceEnd)
    : Type 0 where
  pub most : p.expanded ≤ work n records (first_bound n records order) p.tail.list
  pub least : parts_below n records margin p.tail.list ≤ p.expanded

-- the pieces in the order of their numbers
pub record ArePieces (n : ℕ) (records : List (List ℕ)) (tab : Tabulated) (end : RaceEnd)
    : Type 0 where
  pub all : map (λ p. p.tail) end.pieces.items ≡ map (piece_of n) (pieces n tab.winner)
  pub numbers : map (λ p. p.piece) end.pieces.items ≡ candidates (length (pieces n tab.winner))
  pub each : All (IsPieceEnd n records tab.order end.margin) end.pieces.items

abbrev pub ArePiecesOver : Kept → Tabulated → RaceEnd → Type 0
ArePiecesOver bag tab end =
    (records : List (List ℕ)) → IsOf bag records → ArePieces bag.n records tab end

-- a worker expands no more in a turn than a turn may, and looks at the bound before each turn
abbrev pub IsPaced : Report → Type 0
IsPaced report = report.expanded ≤ MOST_EXPANDED * report.looks

-- the number of entries that name the worker, and the total number of suffixes that these expanded
pub record IsReportOf (entries : List PieceEnd) (worker : ℕ) (report : Report) : Type 0 where
  pub pieces : report.pieces ≡ count_by (λ p. p.worker == worker) entries
  pub expanded :
      report.expanded ≡ sum_by (λ p. if p.worker == worker then p.expanded else 0) entries

-- a report for each worker, in the order of their numbers
abbrev pub AreReportsOf : List PieceEnd → List Report → Type 0
AreReportsOf entries reports =
    (worker : ℕ) (d : Report) → worker < length reports →
    IsReportOf entries worker (slice_index_or reports worker d)

-- ---- too much work

-- the greatest work of a piece whose orders elect c
abbrev pub work_for : ℕ → List (List ℕ) → List ℕ → ℕ → ℕ
work_for n records order c =
    greatest (map (work n records (first_bound n records order)) (pieces_electing n c))

-- an alternative winner with more work than the budget, and an alternative order that is no harder than the start order and whose
-- hardness isn't 0
pub record IsTooMuch (n : ℕ) (records : List (List ℕ)) (tab : Tabulated) (nodes last upper : ℕ)
    (order : List ℕ) : Type 0 where
  pub candidate : last < n
  pub other : last ≢ tab.winner
  pub more : nodes < work_for n records tab.order last
  pub alternative : IsAlternative n tab.winner order
  pub hardness : low n records order ≡ upper
  pub reached : upper ≤ first_bound n records tab.order
  pub some : 1 ≤ upper

abbrev pub IsSpent : ℕ → List (List ℕ) → Tabulated → ℕ → RaceFault → Type 0
IsSpent n records tab nodes (Spent last upper order) =
    IsTooMuch n records tab nodes last upper order
IsSpent n records tab nodes Memory = ⊤

abbrev pub IsSpentOver : Kept → Tabulated → ℕ → RaceFault → Type 0
IsSpentOver bag tab nodes fault =
    (records : List (List ℕ)) → IsOf bag records → IsSpent bag.n records tab nodes fault
