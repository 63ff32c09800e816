use Rattle.std.proofs.Common.{◌≡◌, ◌≤◌, ◌<◌, ◌/◌, ◌%◌, ◌^◌, ◌∷◌, ℕ, drop, get_or}
use Rattle.irv_base.specs.declared.limits.TheConstants.{ROOM}
use Rattle.assertions.specs.Scores.{Score}
use Rattle.suffix_tree.specs.Offers.{with_nens, with_standing}
use Rattle.suffix_tree.proofs.offers.least_standing.Given as goal

abbrev pub invariant-loop-l : goal.invariant-loop-l
invariant-loop-l l = record {
  votes : l.least / 2 ^ 8 ≤ l.for_winner;
  loser : l.least % 2 ^ 8 < ROOM;
  best : (c set : ℕ) (start : Score) → l.for_winner ≡ get_or l.row c 0 →
      with_nens l.row c set (with_standing l.for_winner c set start l.least) (drop l.l-index l.others)
      ≡ with_nens l.row c set start (l.fn.first ∷ l.others);
}
