-- A walk through scored suffixes, as far as their low is below a limit.
use Rattle.std.specs.Prelude.{◌≡◌, ◌<◌, ◌≤◌, ◌+◌, ℕ, Bool, nat_lt, nat_le, List, [], length, filter, if◌then◌else◌, Result, Ok, Err, IsTrue, ⊤}
use Rattle.assertions.specs.declared.assertion.Assertion.{Assertion}
use Rattle.assertions.specs.contracts.assertion.AssertionOrd.TheImpl.{ghosts}
use Rattle.irv_base.specs.Suffixes.{is_suffix}
use Rattle.assertions.specs.Hardness.{low}
use Rattle.assertions.specs.Certificate.{is_end}
use Rattle.assertions.specs.Scores.{score_of}
use Rattle.set_tallies.specs.Bags.{Kept, IsOf}
use Rattle.suffix_tree.specs.declared.scored.Scored.{Scored}
use Rattle.suffix_tree.specs.Scores.{IsScoredOver}
use Rattle.suffix_walk.specs.Kept.{is_parent_kept, all_ending}
use Rattle.suffix_walk.specs.Walks.{walked}
use Rattle.suffix_walk.specs.declared.walk.Stop as stop
use Rattle.suffix_walk.specs.declared.walk.Stop.TheVariants as stopped
use Rattle.certifier.specs.Gathered.{gathered}
use Rattle.certifier.specs.declared.walk.Reach.{Reach}
use Rattle.certifier.specs.declared.walk.WalkEnd.{WalkEnd}
use Rattle.certifier.specs.declared.walk.WalkEnd.TheVariants.{Counted, Found}
use Rattle.certifier.specs.declared.fault.CertFault.{CertFault}
use Rattle.certifier.specs.declared.fault.CertFault.TheVariants.{Spent, Memory}

-- the suffixes that the walk keeps
abbrev pub is_under : ℕ → List (List ℕ) → ℕ → List ℕ → Bool
is_under n records limit suffix = nat_lt (low n records suffix) limit

-- what a walk requires of the suffix that it begins with: it is scored, and the suffix that it grew from is kept
pub record CanWalk (bag : Kept) (limit : ℕ) (s : Scored) : Type 0 where
  pub contest : s.tail.n ≡ bag.n
  pub proper : IsTrue (is_suffix s.tail.n s.tail.list)
  pub some : 0 < length s.tail.list
  pub scored : IsScoredOver bag s
  pub parent : (records : List (List ℕ)) → IsOf bag records →
      IsTrue (is_parent_kept (is_under s.tail.n records limit) s.tail.list)

-- a walk over the list of the suffixes that end in this one
abbrev pub walk_of : Reach → Scored → List (List ℕ) → ℕ → Result ℕ stop.Stop
walk_of reach s records count =
    walked s.tail.n reach.nodes (is_under s.tail.n records reach.limit) count
    (all_ending s.tail.n s.tail.list)

-- a walk at this count, if this many more count and it reaches no whole order
abbrev pub walked_on : ℕ → ℕ → ℕ → Result ℕ stop.Stop
walked_on nodes count number =
    if nat_le (count + number) nodes then Ok (count + number) else Err stopped.Spent

-- the answer is how that walk ends; running out of memory says nothing
abbrev pub IsWalk : ℕ → Result WalkEnd CertFault → Result ℕ stop.Stop → Type 0
IsWalk last (Ok (Counted count)) walk = walk ≡ Ok count
IsWalk last (Ok (Found order)) walk = walk ≡ Err (stopped.Found order)
IsWalk last (Err (Spent c)) walk = (c ≡ last) × (walk ≡ Err stopped.Spent)
IsWalk last (Err Memory) walk = ⊤

-- what holds if the walk reaches no whole order
abbrev pub OnCounted : WalkEnd → Type 0 → Type 0
OnCounted (Counted count) fact = fact
OnCounted (Found order) fact = ⊤

-- the number that it counts is added
abbrev pub IsFrom : ℕ → WalkEnd → Type 0
IsFrom count (Counted more) = count ≤ more
IsFrom count (Found order) = ⊤

-- the ends among these suffixes: the first that reach the limit
abbrev pub ends_in : ℕ → List (List ℕ) → ℕ → List (List ℕ) → List (List ℕ)
ends_in n records limit suffixes = filter (is_end (low n records) limit) suffixes

-- the ends whose refuters a walk keeps
abbrev pub kept_ends : Bool → ℕ → List (List ℕ) → ℕ → List (List ℕ) → List (List ℕ)
kept_ends keeps n records limit suffixes = if keeps then ends_in n records limit suffixes else []

-- the refuters of the ends among the suffixes that end in this one are put in, if the walk keeps refuters
abbrev pub HasGathered : Kept → Reach → Scored → List (Assertion × ℕ) → List (Assertion × ℕ) → Type 0
HasGathered bag reach s before after =
    (records : List (List ℕ)) → IsOf bag records →
    after
    ≡ gathered ghosts.cmp (score_of s.tail.n records) before
    (kept_ends reach.keeps s.tail.n records reach.limit (all_ending s.tail.n s.tail.list))
