-- The laws of seeds and draws.
use Rattle.std.specs.Prelude.{◌≡◌, ◌<◌, ◌^◌, ℕ, List}
use Rattle.sampler.specs.declared.limits.TheConstants.{MOST_SEED_BYTES}
use Rattle.sampler.specs.Draws.{draw_text}

-- the maximum number of bytes in a seed
abbrev pub LimitsLaw : Type 0
LimitsLaw = MOST_SEED_BYTES ≡ 64

-- what is hashed determines the seed and the number of the draw, even though a seed may also have commas
abbrev pub TextTellsDraw : Type 0
TextTellsDraw =
    (seed other : List ℕ) (k k' : ℕ) → k < 2 ^ 64 → k' < 2 ^ 64 →
    draw_text seed k ≡ draw_text other k' → (seed ≡ other) × (k ≡ k')
