use Rattle.std.proofs.Common.{◌≡◌, fold, max, take}
use Rattle.plurality.proofs.firsts.greatest.Given as goal

abbrev pub invariant-loop-number : goal.invariant-loop-number
invariant-loop-number l = l.greatest ≡ fold max 0 (take l.number-index l.numbers)
