-- The forms of a session's texts and digests, which their types ensure.
use Rattle.std.specs.Prelude.{◌≡◌, ◌<◌, ℕ, List, length, All, IsTrue}
use Rattle.irv_base.specs.Names.{is_name}
use Rattle.sampler.specs.Seeds.{is_seed}
use Rattle.session_state.specs.Content.{Content}

-- a SHA-256 digest
pub record IsDigest (digest : List ℕ) : Type 0 where
  pub long : length digest ≡ 32
  pub bytes : All (λ byte. byte < 256) digest

pub record HasForms (content : Content) : Type 0 where
  pub contest : IsTrue (is_name content.contest)
  pub seed : IsTrue (is_seed content.seed)
  pub ballots : IsDigest content.digests.ballots
  pub manifest : IsDigest content.digests.manifest
  pub assertions : IsDigest content.digests.assertions
