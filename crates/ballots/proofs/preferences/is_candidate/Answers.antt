use Rattle.std.proofs.Common.{◌∙◌, sym}
use Rattle.irv_base.specs.Names.{is_same}
use Rattle.irv_base.proofs.Positions.{some_position}
use Rattle.ballots.proofs.preferences.is_candidate.Goals as goal

pub returns : goal.returns
returns c = c.has.ensures ∙ sym (some_position (λ candidate. is_same candidate c.args.id.now) c.args.candidates.now)
