-- What a bag keeps of the records of a contest, and what that must say about them: the number of ballots that have a candidate with
-- nobody of a set before it.
use Rattle.std.specs.Prelude.{◌≡◌, ℕ, ◌<◌, ◌≤◌, ◌-◌, ◌^◌, nat_lt, Bool, true, ◌==◌, if◌then◌else◌, List, [], length, map, filter, sum_by, count_by, get_or, All, bit_and, bit_or}
use Rattle.irv_base.specs.Candidates.{candidates, has}
use Rattle.irv_base.specs.Records.{tally, is_first, is_ahead}
use Rattle.irv_base.specs.declared.limits.TheConstants.{FEWEST_CANDIDATES, ROOM, MOST_RECORDS}
use Rattle.set_tallies.specs.declared.entry.Entry.{Entry}

pub record Kept : Type 0 where
  -- the number of candidates
  pub n : ℕ
  -- the number of records
  pub records : ℕ
  -- for each set and each candidate: the number of ballots that have the candidate with nobody of the set before it
  pub votes : List (List ℕ)

abbrev pub votes_at : Kept → ℕ → ℕ → ℕ
votes_at bag set c = get_or (get_or bag.votes set []) c 0

-- the values of a function for each set of n candidates and each candidate
abbrev pub all_votes : ℕ → (ℕ → ℕ → ℕ) → List (List ℕ)
all_votes n votes = map (λ set. map (votes set) (candidates n)) (candidates (2 ^ n))

-- the set of all n candidates
abbrev pub everyone : ℕ → ℕ
everyone n = 2 ^ n - 1

-- the bag is a bag of these records, in whatever order: it has their number, their tallies, and the two numbers of NEB's margin
pub record IsOf (bag : Kept) (records : List (List ℕ)) : Type 0 where
  pub all : bag.records ≡ length records
  pub tallies : (set c : ℕ) → set < 2 ^ bag.n → c < bag.n → has set c ≡ true →
      votes_at bag set c ≡ tally records set c
  pub firsts : (w : ℕ) → w < bag.n →
      votes_at bag (everyone bag.n) w ≡ count_by (λ ranking. is_first ranking w) records
  pub ahead : (l w : ℕ) → l < bag.n → w < bag.n →
      votes_at bag (2 ^ w) l ≡ count_by (λ ranking. is_ahead ranking l w) records

-- what holds for every bag
pub record IsKept (bag : Kept) : Type 0 where
  pub fewest : FEWEST_CANDIDATES ≤ bag.n
  pub room : bag.n ≤ ROOM
  pub most : bag.records ≤ MOST_RECORDS

-- the tallies of a set: one for each candidate, 0 for those outside the set
abbrev pub tallies : List (List ℕ) → ℕ → ℕ → List ℕ
tallies records n set = map (tally records set) (candidates n)

-- a row has the tallies of those in the set; what it has for the others is unknown
abbrev pub HasTallies : List (List ℕ) → ℕ → ℕ → List ℕ → Type 0
HasTallies records n set row =
    (c : ℕ) → c < n → has set c ≡ true → get_or row c 0 ≡ tally records set c

-- ---- entries: the sets of those who come before a candidate, each with the number of its ballots

-- no candidate is in both sets
abbrev pub misses : ℕ → ℕ → Bool
misses set other = bit_and other set == 0

-- the number of ballots that have the candidate with nobody of the set before it
abbrev pub missing : ℕ → List Entry → ℕ
missing set entries = sum_by (λ e. if misses set e.before then e.count else 0) entries

abbrev pub total : List Entry → ℕ
total entries = sum_by (λ e. e.count) entries

-- the entries of each of n candidates
pub record AreEntries (n records : ℕ) (lists : List (List Entry)) : Type 0 where
  pub one_each : length lists ≡ n
  pub few : All (λ entries. total entries ≤ records) lists
  -- no candidate comes before itself
  pub alone : (set c : ℕ) → c < n → missing (bit_or set (2 ^ c)) (get_or lists c []) ≡ missing set (get_or lists c [])

-- ---- the two numbers of NEB's margin, for all candidates

pub record Counts : Type 0 where
  pub n : ℕ
  pub firsts : List ℕ
  pub ahead : List (List ℕ)

-- the counts are those of the records
pub record AreOf (counts : Counts) (records : List (List ℕ)) : Type 0 where
  pub firsts : (w : ℕ) → w < counts.n →
      get_or counts.firsts w 0 ≡ count_by (λ ranking. is_first ranking w) records
  pub ahead : (l w : ℕ) → l < counts.n → w < counts.n →
      get_or (get_or counts.ahead l []) w 0 ≡ count_by (λ ranking. is_ahead ranking l w) records

-- the counts are those of the records of the bag
pub record AreFilledFrom (bag : Kept) (counts : Counts) : Type 0 where
  pub same : counts.n ≡ bag.n
  pub own : (records : List (List ℕ)) → IsOf bag records → AreOf counts records

pub record IsTable (counts : Counts) : Type 0 where
  pub room : counts.n ≤ ROOM
  pub long : length counts.firsts ≡ counts.n
  pub wide : length counts.ahead ≡ counts.n
  pub square : All (λ row. length row ≡ counts.n) counts.ahead

-- everyone who is first on more ballots than have the loser without that candidate ahead of it, by the loser's row: the winners
-- of true NEBs
abbrev pub winners_in : List ℕ → List ℕ → List ℕ
winners_in firsts row =
    filter (λ w. nat_lt (get_or row w 0) (get_or firsts w 0)) (candidates (length firsts))

-- a table with the winners of the true NEBs over each candidate
pub record AreAhead (counts : Counts) (winners : List (List ℕ)) : Type 0 where
  pub table : IsTable counts
  pub each : winners ≡ map (winners_in counts.firsts) counts.ahead

-- what tallies are computed from
pub record Source : Type 0 where
  pub bag : Kept
  pub counts : Counts
