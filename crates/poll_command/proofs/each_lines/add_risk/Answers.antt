use Rattle.std.proofs.Common.{rules, append_assoc}
use Rattle.report.proofs.Digits.{zeros_in_front}
use Rattle.poll_command.proofs.each_lines.add_risk.Goals as goal

pub returns : goal.returns
returns c = search (rules, append_assoc, zeros_in_front)
