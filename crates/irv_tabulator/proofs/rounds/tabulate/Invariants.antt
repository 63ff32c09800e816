use Rattle.std.proofs.Common.{◌≡◌, ◌-◌, ℕ, List, length, take}
use Rattle.irv_base.specs.declared.limits.TheConstants.{ROOM}
use Rattle.set_tallies.specs.Bags.{IsOf}
use Rattle.irv_tabulator.specs.Rounds.{counts_in}
use Rattle.irv_tabulator.proofs.Progress.{Shape, Rounds}
use Rattle.irv_tabulator.proofs.Counts.{Noted}
use Rattle.irv_tabulator.proofs.rounds.tabulate.Given as goal

abbrev pub invariant-loop-round : goal.invariant-loop-round
invariant-loop-round l = record {
  same : l.tallies ≡ l.fn.tallies;
  wide : length l.places ≡ ROOM;
  shape : Shape l.n (take (l.round - 1) l.places) l.remaining;
  rounds : (records : List (List ℕ)) → IsOf l.fn.tallies.bag records → Rounds records (take (l.round - 1) l.places) l.remaining;
  noted : (records : List (List ℕ)) → IsOf l.fn.tallies.bag records → Noted l.n records (take (l.round - 1) l.places) l.remaining (counts_in l.rounds.items);
}
