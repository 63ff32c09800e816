use Rattle.std.proofs.Common.{◌≡◌, ◌+◌, ℕ, List, drop}
use Rattle.set_tallies.specs.Bags.{IsOf}
use Rattle.cover_checker.specs.Findings.{other_margin_from}
use Rattle.cover_checker.proofs.findings.other_margin.Given as goal

abbrev pub invariant-loop-i : goal.invariant-loop-i
invariant-loop-i l = record {
  right : (records : List (List ℕ)) → IsOf l.fn.tallies.bag records → other_margin_from records 1 l.claims
      ≡ other_margin_from records (l.i + 1) (drop l.i l.claims);
  same : l.tallies ≡ l.fn.tallies;
}
