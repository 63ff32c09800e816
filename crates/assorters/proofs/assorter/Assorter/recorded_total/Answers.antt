use Rattle.std.proofs.Common.{◌≡◌, ℕ, ◌+◌, ◌-◌, ◌∙◌, List, Some, ap, sym, sum_by, take, arith}
use Rattle.std.specs.List.{slice_get}
use Rattle.std.proofs.lemmas.List.{take_all}
use Rattle.std.proofs.lemmas.List.Sums.{sum_by_more}
use Rattle.std.proofs.lemmas.Option.{get_or_from_slice_get, slice_get_within}
use Rattle.assorters.specs.Cards.{recorded_value}
use Rattle.assorters.proofs.assorter.Assorter.recorded_total.Goals as goal

one_more : {X : Type 0} (f : X → ℕ) (xs : List X) (i total v : ℕ) (x : X) →
    slice_get xs (i + 1 - 1) ≡ Some x → total ≡ sum_by f (take i xs) → v ≡ f x → total + v ≡ sum_by f (take (i + 1) xs)
one_more f xs i total v x at before is =
    let here : i + 1 - 1 ≡ i = omega arith in
    let found = ap (slice_get xs) (sym here) ∙ at in
    let more = sum_by_more f xs i x (slice_get_within xs i x found) in
    omega (arith, before, more, is, ap f (get_or_from_slice_get xs i x x found))

pub loop-i-preserved : goal.loop-i-preserved
loop-i-preserved g c = record {
  most = omega arith;
  summed = λ value computes.
      one_more (recorded_value value) c.args.l.now c.loop-i.i c.loop-i.total c.from-total.result c.recorded.result c.recorded.ensures
      (c.loop-i.invariant.summed value computes) (c.from-total.ensures ∙ c.recorded_value.ensures.value value computes);
}

pub returns : goal.returns
returns g c = record {
  total = λ value computes.
      c.loop-i.invariant.summed value computes
      ∙ ap (sum_by (recorded_value value)) (take_all c.loop-i.i c.args.l.now (omega arith));
  most = omega arith;
}
