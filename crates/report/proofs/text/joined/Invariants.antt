use Rattle.std.proofs.Common.{◌≡◌, string_bytes, take}
use Rattle.assertion_file.specs.Ids.{ids_of}
use Rattle.report.specs.Texts.{joined}
use Rattle.report.proofs.text.joined.Given as goal

abbrev pub invariant-loop-i : goal.invariant-loop-i
invariant-loop-i l = string_bytes l.text ≡ joined (ids_of l.names (take l.i l.candidates))
