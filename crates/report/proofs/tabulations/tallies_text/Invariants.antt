use Rattle.std.proofs.Common.{◌≡◌, flat_map, string_bytes, take}
use Rattle.report.specs.Tabulations.{tally_text}
use Rattle.report.proofs.tabulations.tallies_text.Given as goal

abbrev pub invariant-loop-c : goal.invariant-loop-c
invariant-loop-c l = string_bytes l.text ≡ flat_map (tally_text l.names l.row) (take l.c-index l.remaining)
