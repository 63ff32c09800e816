-- What walks within a limit know about the sets that they have gone through.
use Rattle.std.specs.Prelude.{◌≡◌, ◌<◌, ◌+◌, ℕ, Bool, true, false, List, [], map, length, count_by, Some, None, AllPairs, Contains, IsTrue}
use Rattle.irv_base.specs.Candidates.{set_of}
use Rattle.irv_base.specs.Suffixes.{is_suffix}
use Rattle.assertions.specs.declared.assertion.Assertion.{Assertion}
use Rattle.assertions.specs.Assertions.{true_margin}
use Rattle.assertions.specs.FixedOrder.{is_before}
use Rattle.assertions.specs.Hardness.{refuter}
use Rattle.set_tallies.specs.Bags.{Kept, IsOf}
use Rattle.suffix_walk.specs.Kept.{all_ending}
use Rattle.certifier.specs.Counts.{count_of}
use Rattle.certifier.specs.Walks.{is_under, ends_in}
use Rattle.certifier.specs.declared.counts.Counts.{Counts}
use Rattle.certifier.specs.declared.gather.Task.{Task}
use Rattle.certifier.specs.declared.gather.Known.{Known}
use Rattle.certifier.specs.declared.part.Part.{Part}

module _ (n : ℕ) (records : List (List ℕ)) (limit : ℕ) where
  -- a suffix of this set below the limit
  pub record IsOfSet (set : ℕ) (suffix : List ℕ) : Type 0 where
    pub proper : IsTrue (is_suffix n suffix)
    pub some : 0 < length suffix
    pub under : IsTrue (is_under n records limit suffix)
    pub set_is : set_of suffix ≡ set

  -- of the suffixes that end in this one, this many are below the limit, and none of those is whole; if the walks keep the refuters of the
  -- ends, these are among the keys
  pub record IsThrough (keeps : Bool) (keys : List Assertion) (count : ℕ) (suffix : List ℕ)
      : Type 0 where
    pub count_is : count_by (is_under n records limit) (all_ending n suffix) ≡ count
    pub parts : (part : List ℕ) → Contains (all_ending n suffix) part →
        IsTrue (is_under n records limit part) → length part < n
    pub refuters : keeps ≡ true → (last : List ℕ) (a : Assertion) →
        Contains (ends_in n records limit (all_ending n suffix)) last →
        refuter n records last ≡ Some a → Contains keys a

  -- the entries are assertions in the fixed order with their margins, and walks have gone through each set that has a count
  pub record IsKnown (keeps : Bool) (counts : Counts) (entries : List (Assertion × ℕ))
      : Type 0 where
    pub keys : List Assertion
    pub marked : entries ≡ map (λ a. (a, true_margin records a)) keys
    pub rising : AllPairs (λ a b. IsTrue (is_before a b)) keys
    pub through : (set count : ℕ) (suffix : List ℕ) → count_of counts set ≡ Some count →
        IsOfSet set suffix → IsThrough keeps keys count suffix

-- the same, whatever records the bag is of
abbrev pub AreKnown : Kept → ℕ → Bool → Counts → List (Assertion × ℕ) → Type 0
AreKnown bag limit keeps counts entries =
    (records : List (List ℕ)) → IsOf bag records →
    IsKnown bag.n records limit keeps counts entries

-- what a worker knows while it still walks, for the assertions and for the order
pub record HasKnown (bag : Kept) (task : Task) (part : Part) (known : Known) : Type 0 where
  pub covers : part.over ≡ None →
      AreKnown bag task.best true known.covers part.claims
  pub orders : part.end ≡ None → AreKnown bag (task.best + 1) false known.orders []
