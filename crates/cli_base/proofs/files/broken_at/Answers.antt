use Rattle.std.proofs.Common.{rules, append_assoc}
use Rattle.cli_base.proofs.files.broken_at.Goals as goal

pub returns : goal.returns
returns c = search (rules, append_assoc)
