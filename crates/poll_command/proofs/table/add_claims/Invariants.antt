use Rattle.std.proofs.Common.{◌≡◌, ◌++◌, string_bytes}
use Rattle.report.specs.Claims.{claim_lines}
use Rattle.report.proofs.Claims.{lines_from}
use Rattle.poll_command.specs.Table.{line_of}
use Rattle.poll_command.proofs.table.add_claims.Given as goal

abbrev pub invariant-loop-j : goal.invariant-loop-j
invariant-loop-j l =
    string_bytes l.text ++ lines_from (line_of l.f.candidates l.limit) l.f.claims l.e.counts.items l.e.risks.items l.j
    ≡ string_bytes l.initial.text ++ claim_lines (line_of l.f.candidates l.limit) l.f.claims l.e.counts.items l.e.risks.items
