use Rattle.std.proofs.Common.{rules, sym, subst}
use Rattle.std.specs.Str.{IsUtf8}
use Rattle.sampler.proofs.SeedText.{IsUtf8-seed}
use Rattle.sampler.proofs.seed.Seed.text.Goals as goal

pub unwrap-requires : goal.unwrap-requires
unwrap-requires c =
    let utf8 : IsUtf8 c.bytes.result.now = subst IsUtf8 (sym c.bytes.ensures.same) (IsUtf8-seed c.args.self.now c.bytes.ensures.valid) in
    search rules
