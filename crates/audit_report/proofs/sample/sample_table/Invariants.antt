use Rattle.std.proofs.Common.{◌≡◌, flat_map, string_bytes}
use Rattle.std.specs.List.{range_with_len}
use Rattle.audit_report.specs.Sample.{line_of_draw}
use Rattle.audit_report.proofs.sample.sample_table.Given as goal

abbrev pub invariant-loop-done : goal.invariant-loop-done
invariant-loop-done l = string_bytes l.text ≡ flat_map (line_of_draw l.m l.seed) (range_with_len 1 l.done)
