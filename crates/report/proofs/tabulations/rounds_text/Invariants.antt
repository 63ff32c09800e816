use Rattle.std.proofs.Common.{◌≡◌, ◌+◌, ◌++◌, drop, string_bytes}
use Rattle.irv_tabulator.specs.Rounds.{counts_in}
use Rattle.report.specs.Tabulations.{rounds_text}
use Rattle.report.proofs.tabulations.rounds_text.Given as goal

abbrev pub invariant-loop-i : goal.invariant-loop-i
invariant-loop-i l = string_bytes l.text ++ rounds_text l.names (l.i + 1) (drop l.i l.places) (drop l.i (counts_in l.rounds))
    ≡ rounds_text l.names 1 l.places (counts_in l.rounds)
