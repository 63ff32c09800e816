-- What is found among the suffixes that end in some of the candidates: a part of what makes up the certificate.
use Rattle.std.specs.Prelude.{◌≡◌, ◌≢◌, ◌<◌, ◌%◌, ◌↔◌, ℕ, Bool, true, false, ◌||◌, ◌==◌, nat_lt, if◌then◌else◌, List, [], ◌∷◌, map, length, slice_index_or, Option, Some, None, Result, Err, AllPairs, Contains, IfOk, IsTrue, ⊤}
use Rattle.std.specs.Option.{MatchOption}
use Rattle.irv_base.specs.declared.memory.Memory.{Memory}
use Rattle.assertions.specs.declared.assertion.Assertion.{Assertion}
use Rattle.assertions.specs.Assertions.{true_margin}
use Rattle.assertions.specs.FixedOrder.{is_before}
use Rattle.assertions.specs.Hardness.{refuter}
use Rattle.set_tallies.specs.Bags.{Kept, IsOf}
use Rattle.suffix_walk.specs.Kept.{all_ending}
use Rattle.suffix_walk.specs.declared.walk.Stop.TheVariants as stopped
use Rattle.certifier.specs.Walks.{ends_in}
use Rattle.certifier.specs.OneCandidate.{IsTask, cover_walk, order_walk, IsGone, stop_of}
use Rattle.certifier.specs.declared.gather.Task.{Task}
use Rattle.certifier.specs.declared.part.OrderEnd.{OrderEnd}
use Rattle.certifier.specs.declared.part.Part.{Part}

-- the candidates that a worker is dealt; those of either of two; all
abbrev pub is_dealt : ℕ → ℕ → ℕ → Bool
is_dealt workers number c = c % workers == number

abbrev pub in_either : (ℕ → Bool) → (ℕ → Bool) → ℕ → Bool
in_either own its c = own c || its c

abbrev pub is_any : ℕ → Bool
is_any c = true

-- ---- up to which candidate it was looked

abbrev pub IsBefore : ℕ → Option ℕ → Type 0
IsBefore c None = ⊤
IsBefore c (Some last) = c < last

abbrev pub candidate_of : Option OrderEnd → Option ℕ
candidate_of None = None
candidate_of (Some end) = Some end.last

abbrev pub order_of : Option OrderEnd → Option (List ℕ)
order_of None = None
order_of (Some end) = end.order

-- the candidate, if its walk is over the budget
abbrev pub spent_by : ℕ → Option (List ℕ) → Option ℕ
spent_by last None = Some last
spent_by last (Some order) = None

abbrev pub spent_at : Option OrderEnd → Option ℕ
spent_at None = None
spent_at (Some end) = spent_by end.last end.order

abbrev pub lesser : Option ℕ → Option ℕ → Option ℕ
lesser None b = b
lesser (Some a) None = Some a
lesser (Some a) (Some b) = if nat_lt b a then Some b else Some a

abbrev pub first_end : Option OrderEnd → Option OrderEnd → Option OrderEnd
first_end None b = b
first_end (Some a) None = Some a
first_end (Some a) (Some b) = if nat_lt b.last a.last then Some b else Some a

module _ (n : ℕ) (records : List (List ℕ)) (task : Task) where
  -- an alternative winner, among the candidates in question
  pub record IsOwn (own : ℕ → Bool) (c : ℕ) : Type 0 where
    pub below : c < n
    pub alternative : c ≢ task.winner
    pub meant : own c ≡ true

  -- the refuter of an end that ends in one of these candidates
  abbrev pub IsRefuter : (ℕ → Bool) → Assertion → Type 0
  IsRefuter own a =
      (c : ℕ) × IsOwn own c × (suffix : List ℕ)
      × Contains (ends_in n records task.best (all_ending n (c ∷ []))) suffix
      × (refuter n records suffix ≡ Some a)

  -- the entries are these refuters, each once, in the fixed order, with their margins
  pub record AreClaims (own : ℕ → Bool) (entries : List (Assertion × ℕ)) : Type 0 where
    pub keys : List Assertion
    pub marked : entries ≡ map (λ a. (a, true_margin records a)) keys
    pub rising : AllPairs (λ a b. IsTrue (is_before a b)) keys
    pub listed : (a : Assertion) → (Contains keys a ↔ IsRefuter own a)

  -- the walk for the assertions of one of these candidates is over the budget
  pub record IsOver (own : ℕ → Bool) (last : ℕ) : Type 0 where
    pub candidate : IsOwn own last
    pub walk : cover_walk n records task last ≡ Err stopped.Spent

  -- the walk for the order of one of these candidates has this end
  pub record IsEndOf (own : ℕ → Bool) (end : OrderEnd) : Type 0 where
    pub candidate : IsOwn own end.last
    pub walk : order_walk n records task end.last ≡ Err (stop_of end.order)

  -- For these candidates, no walk for the assertions is over the budget before the named candidate's, and no walk for the order has an end
  -- before the named candidate's. If none is over, the claims are those of the ends of all of them.
  pub record IsPart (own : ℕ → Bool) (part : Part) : Type 0 where
    pub covers : (c : ℕ) → IsOwn own c → IsBefore c part.over → IsGone (cover_walk n records task c)
    pub over : MatchOption part.over ⊤ (IsOver own)
    pub orders : (c : ℕ) → IsOwn own c → IsBefore c part.over → IsBefore c (candidate_of part.end) →
        IsGone (order_walk n records task c)
    pub end : MatchOption part.end ⊤ (IsEndOf own)
    pub claims : part.over ≡ None → AreClaims own part.claims

  -- the same for a part, if there is one; if there is none, it is for no candidates
  abbrev pub IsPartSoFar : (ℕ → Bool) → Option Part → Type 0
  IsPartSoFar own None = (c : ℕ) → own c ≡ false
  IsPartSoFar own (Some part) = IsPart own part

  -- a part of a contest with several candidates
  abbrev pub IsPartOfSeveral : (ℕ → Bool) → Part → Type 0
  IsPartOfSeveral own part = (1 < n) × IsPart own part

-- ---- the parts of several workers

-- what a worker has after its share; an `Err` says nothing
abbrev pub HasPart : Kept → Task → ℕ → ℕ → Result Part Memory → Type 0
HasPart bag task workers number part =
    (records : List (List ℕ)) → IsOf bag records → IsTask bag.n records task →
    IfOk part (IsPartOfSeveral bag.n records task (is_dealt workers number))

abbrev pub AreParts : Kept → Task → ℕ → List (Result Part Memory) → Type 0
AreParts bag task workers parts =
    (i : ℕ) (d : Result Part Memory) → i < length parts →
    HasPart bag task workers i (slice_index_or parts i d)
