use Rattle.std.proofs.Common.{ap, bit_xor, sym, ◌∙◌, ◌^◌}
use Rattle.irv_base.specs.Candidates.{has}
use Rattle.irv_base.proofs.Bits.{has-without}
use Rattle.irv_base.proofs.cand_set.CandSet.without.Goals as goal

pub returns-then-has : goal.returns-then-has
returns-then-has c = λ d. ap (λ b. has (bit_xor c.self.inside.0 b) d) c.bit.ensures ∙ ap (λ s. has (bit_xor s (2 ^ c.args.c)) d) c.self.view_is
    ∙ has-without c.args.self c.args.c d (sym c.has.ensures ∙ c.if-has.true)
