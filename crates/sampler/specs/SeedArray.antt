-- A seed stored in an array with room for the longest seed, padded with 0.
use Rattle.std.specs.Prelude.{◌≡◌, ◌-◌, ◌≤◌, ◌++◌, ℕ, List, take, length, replicate, IsTrue}
use Rattle.sampler.specs.Seeds.{is_seed}
use Rattle.sampler.specs.declared.limits.TheConstants.{MOST_SEED_BYTES}

pub record HoldsSeed (len : ℕ) (text : List ℕ) : Type 0 where
  pub few : len ≤ MOST_SEED_BYTES
  pub long : length (take len text) ≡ len
  pub padded : text ≡ take len text ++ replicate (MOST_SEED_BYTES - len) 0
  pub valid : IsTrue (is_seed (take len text))
