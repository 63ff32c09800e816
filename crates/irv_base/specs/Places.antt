-- Lists stored in an array that has room for the longest one, padded with 0: candidates, and the bytes of a name.
use Rattle.std.specs.Prelude.{◌≡◌, ◌<◌, ◌≤◌, ◌-◌, ◌++◌, ℕ, List, take, drop, length, replicate, All, IsTrue}
use Rattle.irv_base.specs.Candidates.{is_distinct, set_of}
use Rattle.irv_base.specs.Orders.{is_order}
use Rattle.irv_base.specs.Suffixes.{is_suffix}
use Rattle.irv_base.specs.Names.{is_name}
use Rattle.irv_base.specs.declared.limits.TheConstants.{MOST_NAME_BYTES, ROOM}

pub record IsRanking (len : ℕ) (places : List ℕ) : Type 0 where
  pub few : len ≤ ROOM
  pub long : length (take len places) ≡ len
  pub padded : places ≡ take len places ++ replicate (ROOM - len) 0
  pub below : All (λ c. c < ROOM) (take len places)
  pub distinct : IsTrue (is_distinct (take len places))

-- for many rankings: each has only candidates below ROOM, none of them twice
pub record AreRankings (rankings : List (List ℕ)) : Type 0 where
  pub below : All (λ ranking. All (λ c. c < ROOM) ranking) rankings
  pub distinct : All (λ ranking. IsTrue (is_distinct ranking)) rankings

pub record IsOrder (len : ℕ) (places : List ℕ) : Type 0 where
  pub some : 1 ≤ len
  pub few : len ≤ ROOM
  pub long : length (take len places) ≡ len
  pub padded : places ≡ take len places ++ replicate (ROOM - len) 0
  pub permutation : IsTrue (is_order len (take len places))

-- a suffix is stored at the end of the array, together with its set
pub record IsSuffix (start : ℕ) (places : List ℕ) (set : ℕ) : Type 0 where
  pub few : length (drop start places) ≤ ROOM
  pub long : ROOM - length (drop start places) ≡ start
  pub padded : places ≡ replicate start 0 ++ drop start places
  pub proper : IsTrue (is_suffix ROOM (drop start places))
  pub members : set ≡ set_of (drop start places)

pub record IsName (len : ℕ) (text : List ℕ) : Type 0 where
  pub few : len ≤ MOST_NAME_BYTES
  pub long : length (take len text) ≡ len
  pub padded : text ≡ take len text ++ replicate (MOST_NAME_BYTES - len) 0
  pub proper : IsTrue (is_name (take len text))
