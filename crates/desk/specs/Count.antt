-- Counts that stop at the greatest u64.
use Rattle.std.specs.Prelude.{◌≡◌, ℕ, ◌+◌, ◌-◌, ◌^◌, ◌≤◌, min, Result, OnOk, OnErr}

-- n more
abbrev pub grown : ℕ → ℕ → ℕ
grown count n = min (count + n) (2 ^ 64 - 1)

abbrev pub one_more : ℕ → ℕ
one_more count = grown count 1

-- a count rose, or is at its greatest value
abbrev pub Rose : ℕ → ℕ → Type 0
Rose before now = one_more before ≤ now

-- the count of faults doesn't fall; a call fails only if the count rose; and if a call succeeds, the count is as it was before
pub record HasCause {T E : Type 0} (before now : ℕ) (result : Result T E) : Type 0 where
  pub later : before ≤ now
  pub failed : OnErr result (Rose before now)
  pub unfailed : OnOk result (now ≡ before)
