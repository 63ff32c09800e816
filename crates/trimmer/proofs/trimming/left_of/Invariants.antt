use Rattle.std.proofs.Common.{◌≡◌, ◌++◌, Ok, take, drop}
use Rattle.std.specs.Prelude.{IfSome}
use Rattle.trimmer.specs.Counts.{IsKnown, budget_of}
use Rattle.trimmer.specs.Trimmed.{left_of}
use Rattle.trimmer.proofs.DrawSteps.{AreLeft}
use Rattle.trimmer.proofs.trimming.left_of.Given as goal

abbrev pub invariant-loop-j : goal.invariant-loop-j
invariant-loop-j l = record {
  untried : l.left.untried ≡ take l.j l.f.claims;
  behind : left_of l.fn.budget l.f (take l.j l.f.claims) (drop l.j l.f.claims) ≡ Ok l.left.kept;
  known : IsKnown l.f (take l.j l.f.claims ++ l.left.kept) l.known;
  budget : budget_of l.known ≡ l.fn.budget;
  planned : IfSome l.f.plan (AreLeft l.fn.budget l.f l.f.claims l.j l.draws.items);
}
