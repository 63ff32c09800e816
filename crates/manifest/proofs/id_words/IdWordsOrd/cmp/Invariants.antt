use Rattle.std.proofs.Common.{◌≡◌, drop}
use Rattle.std.specs.Cmp.Lexicographic.{slice_cmp}
use Rattle.std.specs.Ordering.{nat_cmp}
use Rattle.manifest.proofs.id_words.IdWordsOrd.cmp.Given as goal

-- the remaining words decide
abbrev pub invariant-loop-i : goal.invariant-loop-i
invariant-loop-i l = slice_cmp nat_cmp (drop l.i l.self) (drop l.i l.other) ≡ slice_cmp nat_cmp l.self l.other
