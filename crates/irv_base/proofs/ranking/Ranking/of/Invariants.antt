use Rattle.std.proofs.Common.{◌≡◌, take}
use Rattle.irv_base.specs.Records.{firsts}
use Rattle.irv_base.proofs.ranking.Ranking.of.Given as goal

abbrev pub invariant-loop-c : goal.invariant-loop-c
invariant-loop-c l = l.ranking ≡ firsts (take l.c-index l.candidates)
