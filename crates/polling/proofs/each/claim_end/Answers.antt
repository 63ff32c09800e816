use Rattle.std.proofs.Common.{rules, ◌≡◌, ◌∙◌, ◌+◌, ◌-◌, ◌*◌, ◌++◌, ◌∷◌, [], None, Some, find, length, map, nat_le, take, sym, ap, arith}
use Rattle.std.specs.List.{range_with_len}
use Rattle.std.proofs.lemmas.Bool.{leb-false, leb-true}
use Rattle.std.proofs.lemmas.List.{length-map}
use Rattle.assertions.specs.Assorter.{assorter_value}
use Rattle.km_risk.specs.AsDrawn.{next_risk, risk_as_drawn}
use Rattle.km_risk.specs.declared.limits.TheConstants.{MILLIONTH}
use Rattle.km_risk.proofs.CleanDraws.{find_behind}
use Rattle.polling.specs.Each.{confirmed_at}
use Rattle.polling.specs.Polls.{counted, polled}
use Rattle.polling.proofs.Ended.{ended, found-here, found-nowhere, risk-more, risk-none, values-more}
use Rattle.polling.proofs.each.claim_end.Goals as goal

pub loop-i-init : goal.loop-i-init
loop-i-init c =
    let drawn = c.args.drawn.now in
    let values = map (polled (assorter_value c.args.assertion.now)) drawn in
    let long : length values ≡ length drawn + 1 - (0 + 1) = omega (arith, length-map drawn (polled (assorter_value c.args.assertion.now))) in
    record {
      counts = search rules;
      draws = search rules;
      risk = c.from-risk.ensures ∙ risk-none c.args.gamma;
      rest = ap (λ n. find (λ k. nat_le (risk_as_drawn 1 1 c.args.gamma (take k values)) (c.args.limit * MILLIONTH)) (range_with_len 1 n)) long;
    }

pub loop-i-preserved : goal.loop-i-preserved
loop-i-preserved c =
    let value = assorter_value c.args.assertion.now in
    let drawn = c.args.drawn.now in
    let values = map (polled value) drawn in
    let i = c.loop-i.i in
    let s = c.seen_value-s.result in
    let more : take i values ++ s ∷ [] ≡ take (i + 1) values = values-more value drawn i c.index-drawn-i.result s (omega arith) c.index-drawn-i.is
    (c.seen_value-s.ensures.value ∙ ap (polled value) (sym c.index-drawn-i.is)) in
    let risk : c.next_risk-risk.result ≡ risk_as_drawn 1 1 c.args.gamma (take (i + 1) values) =
    c.next_risk-risk.ensures ∙ ap (λ r. next_risk 1 1 c.args.gamma r s) c.loop-i.invariant.risk ∙ risk-more c.args.gamma (take i values) s
    ∙ ap (risk_as_drawn 1 1 c.args.gamma) more in
    record {
      counts = c.with_value-counts.ensures.counts (take i values) c.loop-i.invariant.counts ∙ ap counted more;
      draws = omega (arith, c.with_value-counts.ensures.draws, c.loop-i.invariant.draws);
      risk = risk;
      rest =
          c.loop-i.invariant.rest
          ∙ find_behind (λ k. risk_as_drawn 1 1 c.args.gamma (take k values)) (c.args.limit * MILLIONTH) (i + 1) (length drawn + 1) (omega arith)
          (omega (arith, risk, leb-false c.next_risk-risk.result (c.args.limit * MILLIONTH) (sym c.is_within.ensures ∙ c.if-is_within.false)));
    }

pub returns-then-is_within : goal.returns-then-is_within
returns-then-is_within c =
    let value = assorter_value c.args.assertion.now in
    let drawn = c.args.drawn.now in
    let values = map (polled value) drawn in
    let i = c.loop-i.i in
    let s = c.seen_value-s.result in
    let more : take i values ++ s ∷ [] ≡ take (i + 1) values = values-more value drawn i c.index-drawn-i.result s (omega arith) c.index-drawn-i.is
    (c.seen_value-s.ensures.value ∙ ap (polled value) (sym c.index-drawn-i.is)) in
    let risk : c.next_risk-risk.result ≡ risk_as_drawn 1 1 c.args.gamma (take (i + 1) values) =
    c.next_risk-risk.ensures ∙ ap (λ r. next_risk 1 1 c.args.gamma r s) c.loop-i.invariant.risk ∙ risk-more c.args.gamma (take i values) s
    ∙ ap (risk_as_drawn 1 1 c.args.gamma) more in
    let here : confirmed_at c.args.limit c.args.gamma values ≡ Some (i + 1) =
    c.loop-i.invariant.rest
    ∙ found-here (λ k. risk_as_drawn 1 1 c.args.gamma (take k values)) (c.args.limit * MILLIONTH) (i + 1) (length drawn + 1) (omega arith)
    (omega (arith, risk, leb-true c.next_risk-risk.result (c.args.limit * MILLIONTH) (sym c.is_within.ensures ∙ c.if-is_within.true))) in
    ended c.args.limit c.args.gamma values c.with_value-counts.result c.next_risk-risk.result (Some (i + 1)) here
    (c.with_value-counts.ensures.counts (take i values) c.loop-i.invariant.counts ∙ ap counted more) risk

pub returns : goal.returns
returns c =
    let value = assorter_value c.args.assertion.now in
    let drawn = c.args.drawn.now in
    let values = map (polled value) drawn in
    let i = c.loop-i.i in
    let whole : i ≡ length values = omega (arith, length-map drawn (polled value)) in
    let none : confirmed_at c.args.limit c.args.gamma values ≡ None =
    c.loop-i.invariant.rest
    ∙ found-nowhere (λ k. risk_as_drawn 1 1 c.args.gamma (take k values)) (c.args.limit * MILLIONTH) (i + 1) (length drawn + 1) (omega arith) in
    ended c.args.limit c.args.gamma values c.loop-i.counts c.loop-i.risk None none
    (c.loop-i.invariant.counts ∙ ap (λ n. counted (take n values)) whole)
    (c.loop-i.invariant.risk ∙ ap (λ n. risk_as_drawn 1 1 c.args.gamma (take n values)) whole)
