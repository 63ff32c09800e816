-- Calls in memory, some of which are to fail.
use Rattle.std.specs.Prelude.{ℕ, List, Bool, ◌==◌, is_err, Result, if◌then◌else◌}
use Rattle.std.specs.List.{list_any}
use Rattle.desk.specs.Count.{one_more}

-- the call with this number is to fail
abbrev pub is_to_fail : List ℕ → ℕ → Bool
is_to_fail fails number = list_any (λ n. n == number) fails

-- one more fault if a call failed
abbrev pub faults_after : {T E : Type 0} → Result T E → ℕ → ℕ
faults_after result faults = if is_err result then one_more faults else faults
