use Rattle.std.proofs.Common.{◌≡◌, inl, inr, ◌+◌, ◌-◌, length, take, sym, ap, arith, ◌∙◌}
use Rattle.std.proofs.lemmas.Bool.{cases_lt}
use Rattle.std.proofs.lemmas.List.{take_all}
use Rattle.cover_checker.proofs.reached.Reached.truncate.Goals as goal

pub returns : goal.returns
returns c =
    let sets = c.args.self.now in
    let long = c.loop.invariant.all in
    let from = c.loop.invariant.from in
    let most = c.loop.invariant.most in
    elim (cases_lt (length sets) c.args.len) [
      | inl few ↦
          let all : c.len-end.result + c.args.len - c.loop.counter ≡ length sets = omega (arith, few, long, from, most) in
          c.loop.invariant.left ∙ ap (λ i. take i sets) all ∙ take_all (length sets) sets (omega arith)
          ∙ sym (take_all c.args.len sets (omega (arith, few)))
      | inr le ↦
          let all : c.len-end.result + c.args.len - c.loop.counter ≡ c.args.len = omega (arith, le, long, from, most) in
          c.loop.invariant.left ∙ ap (λ i. take i sets) all
    ]
