use Rattle.std.proofs.Common.{rules, append_assoc}
use Rattle.check_command.proofs.check_texts.needs_full_count.Goals as goal

pub returns : goal.returns
returns c = search (rules, append_assoc)
