use Rattle.std.proofs.Common.{rules, append_assoc}
use Rattle.poll_command.proofs.each_lines.add_head.Goals as goal

pub returns : goal.returns
returns c = search (rules, append_assoc)
