use Rattle.std.proofs.Common.{◌≡◌, ◌∙◌, ◌+◌, ap, sym, arith}
use Rattle.km_risk.proofs.Around.{falls_to, least-is, never-is}
use Rattle.km_risk.proofs.clean.clean_draws.Goals as goal

pub returns-then-last-most : goal.returns-then-last-most
returns-then-last-most c =
    let last = c.climb-last.result.draws in
    sym (never-is c.args.cards c.args.margin c.args.gamma c.args.limit (λ n few fewer.
    let falls = falls_to c.args.cards c.args.margin c.args.gamma (omega arith) (omega arith) (omega arith) last n (omega arith) in
    omega (arith, falls, c.climb-last.ensures.above)))

pub returns-then-is_within : goal.returns-then-is_within
returns-then-is_within c =
    let last = c.climb-last.result.draws in
    let next = c.joined-next.result.draws in
    let one_more : next ≡ last + 1 = c.joined-next.ensures.draws ∙ ap (λ one. last + one) c.one_draw-one.ensures.one in
    let enough = rw c.if-is_within.true at c.is_within.ensures in
    sym (least-is c.args.cards c.args.margin c.args.gamma c.args.limit next record {
      within_cards = omega arith;
      within_draws = omega arith;
      enough = enough;
      least = λ k fewer.
          let falls = falls_to c.args.cards c.args.margin c.args.gamma (omega arith) (omega arith) (omega arith) last k (omega arith) in
          omega (arith, falls, c.climb-last.ensures.above);
    })
