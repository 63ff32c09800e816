use Rattle.std.proofs.Common.{◌≡◌, ◌+◌, drop}
use Rattle.cover_checker.specs.Findings.{other_draws_from}
use Rattle.cover_checker.proofs.findings.other_draws_in.Given as goal

abbrev pub invariant-loop-i : goal.invariant-loop-i
invariant-loop-i l = other_draws_from l.plan 1 l.claims l.plan.draws
    ≡ other_draws_from l.plan (l.i + 1) (drop l.i l.claims) (drop l.i l.plan.draws)
