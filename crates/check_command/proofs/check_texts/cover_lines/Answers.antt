use Rattle.std.proofs.Common.{rules, append_assoc}
use Rattle.check_command.proofs.check_texts.cover_lines.Goals as goal

pub returns : goal.returns
returns c = search (rules, append_assoc)
