use Rattle.call_laws.proofs.Nodes.{default_suffices}
use Rattle.call_laws.proofs.laws.default_suffices.Goals as goal

pub returns : goal.returns
returns c = default_suffices
