use Rattle.std.proofs.Common.{rules, append_assoc}
use Rattle.search_commands.proofs.trial_texts.records_lines.Goals as goal

pub returns : goal.returns
returns c = search (rules, append_assoc)
