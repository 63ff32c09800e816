use Rattle.std.proofs.Common.{◌≡◌, ◌+◌, ◌-◌, find, length, map, take}
use Rattle.std.specs.List.{range_with_len}
use Rattle.assertions.specs.Assorter.{assorter_value}
use Rattle.km_risk.specs.AsDrawn.{is_within_as_drawn, risk_as_drawn}
use Rattle.polling.specs.Each.{confirmed_at}
use Rattle.polling.specs.Polls.{counted, polled}
use Rattle.polling.proofs.each.claim_end.Given as goal

abbrev pub invariant-loop-i : goal.invariant-loop-i
invariant-loop-i l =
    let values = map (polled (assorter_value l.assertion)) l.drawn in
    record {
      counts : l.counts ≡ counted (take l.i values);
      draws : l.counts.n0 + l.counts.n1 + l.counts.n2 ≡ l.i;
      risk : l.risk ≡ risk_as_drawn 1 1 l.gamma (take l.i values);
      rest : confirmed_at l.limit l.gamma values
          ≡ find (λ k. is_within_as_drawn 1 1 l.gamma l.limit (take k values)) (range_with_len (l.i + 1) (length l.drawn + 1 - (l.i + 1)));
    }
