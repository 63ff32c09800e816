use Rattle.std.proofs.Common.{◌≡◌, ◌<◌, ◌-◌, ◌++◌, ℕ, true, false, take, replicate}
use Rattle.irv_base.specs.Orders.{is_in_range, is_repeated}
use Rattle.irv_base.specs.declared.limits.TheConstants.{ROOM}
use Rattle.irv_base.proofs.order.Order.read.Given as goal

abbrev pub invariant-loop-i : goal.invariant-loop-i
invariant-loop-i l = record {
  placed : l.places ≡ take l.i l.list ++ replicate (ROOM - l.i) 0;
  sound : (k : ℕ) → k < l.i → (is_in_range l.n l.list k ≡ true) × (is_repeated l.list k ≡ false);
}
