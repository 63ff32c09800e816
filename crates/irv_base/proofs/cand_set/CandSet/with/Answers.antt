use Rattle.std.proofs.Common.{ap, bit_or, ◌∙◌, ◌^◌}
use Rattle.irv_base.specs.Candidates.{has}
use Rattle.irv_base.proofs.Bits.{has-with, with-number}
use Rattle.irv_base.proofs.cand_set.CandSet.with.Goals as goal

pub returns-clause-members : goal.returns-clause-members
returns-clause-members c = λ d. ap (λ b. has (bit_or c.self.inside.0 b) d) c.bit.ensures ∙ ap (λ s. has (bit_or s (2 ^ c.args.c)) d) c.self.view_is
    ∙ has-with c.args.self c.args.c d

pub returns-clause-number : goal.returns-clause-number
returns-clause-number c = λ h. ap (bit_or c.self.inside.0) c.bit.ensures ∙ ap (λ s. bit_or s (2 ^ c.args.c)) c.self.view_is ∙ with-number c.args.self c.args.c h
