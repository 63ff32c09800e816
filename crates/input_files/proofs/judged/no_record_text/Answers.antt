use Rattle.std.proofs.Common.{rules, append_assoc}
use Rattle.input_files.proofs.judged.no_record_text.Goals as goal

pub returns : goal.returns
returns c = search (rules, append_assoc)
