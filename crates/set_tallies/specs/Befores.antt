-- The set of the candidates that a ranking has before a candidate, if it has that one; and the entries of a candidate, computed
-- from rankings.
use Rattle.std.specs.Prelude.{◌≡◌, ℕ, ◌+◌, ◌≤◌, ◌<◌, ◌^◌, Bool, false, ◌==◌, if◌then◌else◌, List, [], ◌∷◌, Option, Some, None, length, count_by, get_or, bit_or}
use Rattle.set_tallies.specs.Bags.{misses, missing, total}
use Rattle.set_tallies.specs.declared.entry.Entry.{Entry}

abbrev pub before_after : ℕ → List ℕ → ℕ → Option ℕ
before_after seen [] c = None
before_after seen (d ∷ rest) c =
    if d == c then Some seen else before_after (bit_or seen (2 ^ d)) rest c

abbrev pub before : List ℕ → ℕ → Option ℕ
before ranking c = before_after 0 ranking c

-- there is a set, and it contains nobody of the given set
abbrev pub is_missed : ℕ → Option ℕ → Bool
is_missed set None = false
is_missed set (Some other) = misses set other

-- the ranking has c with nobody of the set before it
abbrev pub has_missed : ℕ → ℕ → List ℕ → Bool
has_missed set c ranking = is_missed set (before ranking c)

-- ---- entries

-- one more ballot is counted that has exactly this set before the candidate
abbrev pub HasOneMore : ℕ → List Entry → List Entry → Type 0
HasOneMore before entries others =
    (set : ℕ) → missing set others ≡ missing set entries + (if misses set before then 1 else 0)

-- the ranking has been noted in the entries of each of n candidates
pub record HasNoted (n : ℕ) (ranking : List ℕ) (lists others : List (List Entry)) : Type 0 where
  pub each : length others ≡ length lists
  pub missing : (set c : ℕ) → c < n → missing set (get_or others c [])
      ≡ missing set (get_or lists c []) + (if has_missed set c ranking then 1 else 0)

-- two lists of entries say the same thing
pub record SayTheSame (entries others : List Entry) : Type 0 where
  pub missing : (set : ℕ) → missing set others ≡ missing set entries
  pub total : total others ≡ total entries

-- the two lists of each candidate say the same thing
pub record AllSayTheSame (lists others : List (List Entry)) : Type 0 where
  pub each : length others ≡ length lists
  pub same : (c : ℕ) → c < length lists → SayTheSame (get_or lists c []) (get_or others c [])

-- the entries are those of the candidate c
pub record Counted (entries : List Entry) (records : List (List ℕ)) (c : ℕ) : Type 0 where
  pub missing : (set : ℕ) → missing set entries ≡ count_by (has_missed set c) records
  pub few : total entries ≤ length records

-- the lists are the entries of the candidates
abbrev pub AllCounted : List (List Entry) → List (List ℕ) → Type 0
AllCounted lists records = (c : ℕ) → c < length lists → Counted (get_or lists c []) records c
