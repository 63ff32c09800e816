use Rattle.std.proofs.Common.{rules, ◌≡◌, ◌++◌, ◌∷◌, [], ◌^◌, ◌<◌, true, sym, ap, ap₂, arith, ◌∙◌}
use Rattle.std.specs.Result.{is_ok}
use Rattle.std.proofs.Math.Pow.{pow-lt}
use Rattle.std.proofs.lemmas.List.FromFn.{map-range_with_len_more}
use Rattle.irv_base.proofs.Bits.{one_bit}
use Rattle.set_tallies.specs.Bags.{votes_at}
use Rattle.set_tallies.proofs.ahead.row.Goals as goal

pub votes-requires-clause-below : goal.votes-requires-clause-below
votes-requires-clause-below c =
    let below : c.loop-w.w < c.args.bag.now.n = omega (arith, c.loop-w-test.true, c.loop-w.auto.w-end, c.candidates-w-end.ensures.same) in
    omega (arith, one_bit c.loop-w.w (omega (arith, below, c.candidates-w-end.ensures.same, c.candidates-w-end.ensures.room)), pow-lt below)

pub loop-w-preserved : goal.loop-w-preserved
loop-w-preserved c =
    let good : is_ok c.push.result ≡ true = search rules in
    let items = rw good at c.push.ensures.items in
    let room : c.loop-w.w < 32 = omega (arith, c.loop-w-test.true, c.loop-w.auto.w-end, c.candidates-w-end.ensures.room) in
    items
    ∙ ap₂ (λ xs x. xs ++ x ∷ []) c.loop-w.invariant (c.votes.ensures ∙ ap (λ s. votes_at c.args.bag.now s c.args.c) (one_bit c.loop-w.w room))
    ∙ sym (map-range_with_len_more (λ w. votes_at c.args.bag.now (2 ^ w) c.args.c) 0 c.loop-w.w c.loop-w.w (omega arith))

pub returns : goal.returns
returns c =
    let whole : c.loop-w.w ≡ c.args.bag.now.n = omega (arith, c.loop-w-test.false, c.loop-w.auto.w-end, c.candidates-w-end.ensures.same) in
    rw whole at c.loop-w.invariant
