-- What a desk has served over a call, whether or not it reports what it holds.
use Rattle.std.specs.Prelude.{◌≡◌, ◌≢◌, ◌≤◌, ◌<◌, ◌⊎◌, ◌+◌, ℕ, max}
use Rattle.desk.specs.Count.{grown, one_more}
use Rattle.desk.specs.declared.served.Served.{Served}
use Rattle.cli_base.specs.Script.{limit}

-- 8 and 9: a write failed, or memory ran out
abbrev pub IsBroken : ℕ → Type 0
IsBroken status = (status ≡ 8) ⊎ (status ≡ 9)

-- At most this many files are begun, and exactly this many if the status is 0. A file is missing exactly if `begin` answered that there is
-- none, and too long exactly if more bytes came than the limit allows.
pub record IsAccountedFor (files : ℕ) (before after : Served) (status : ℕ) : Type 0 where
  pub begins : after.begins ≤ before.begins + files
  pub all_begun : status ≡ 0 → grown before.begins files ≤ after.begins
  pub missing : status ≡ 12 → after.misses ≡ one_more before.misses
  pub found : status ≢ 12 → (IsBroken status → ⊥) → after.misses ≡ before.misses
  pub too_long : status ≡ 11 → limit < after.longest
  pub over : status ≡ 11 → after.too_long ≡ one_more before.too_long
  pub short : status ≢ 11 → (IsBroken status → ⊥) → after.longest ≤ max before.longest limit
  pub within : status ≢ 11 → (IsBroken status → ⊥) → after.too_long ≡ before.too_long
