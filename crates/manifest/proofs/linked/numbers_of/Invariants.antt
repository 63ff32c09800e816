use Rattle.manifest.proofs.Linking.{IsLinking}
use Rattle.manifest.proofs.linked.numbers_of.Given as goal

abbrev pub invariant-loop-i : goal.invariant-loop-i
invariant-loop-i l = IsLinking l.m l.b.ids l.i l.numbers.items
