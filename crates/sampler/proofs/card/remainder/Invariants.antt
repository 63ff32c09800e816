use Rattle.std.proofs.Common.{◌≡◌, ◌%◌, take}
use Rattle.sampler.specs.Draws.{number_of}
use Rattle.sampler.proofs.card.remainder.Given as goal

abbrev pub invariant-loop-byte : goal.invariant-loop-byte
invariant-loop-byte l = l.remainder ≡ number_of (take l.byte-index l.bytes) % l.cards
