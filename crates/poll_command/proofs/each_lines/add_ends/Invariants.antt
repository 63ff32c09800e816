use Rattle.std.proofs.Common.{◌≡◌, ◌++◌, string_bytes}
use Rattle.poll_command.specs.EachLines.{end_lines}
use Rattle.poll_command.proofs.EndLines.{lines_from}
use Rattle.poll_command.proofs.each_lines.add_ends.Given as goal

abbrev pub invariant-loop-j : goal.invariant-loop-j
invariant-loop-j l =
    string_bytes l.text ++ lines_from l.f.candidates l.f.claims l.ends l.j
    ≡ string_bytes l.initial.text ++ end_lines l.f.candidates l.f.claims l.ends
