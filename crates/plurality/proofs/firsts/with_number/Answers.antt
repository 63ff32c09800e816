use Rattle.std.proofs.Common.{◌∙◌, ◌==◌, ◌++◌, ◌∷◌, [], ℕ, Bool, slice_index, ap, sym, eq-eqb, ne_eqb}
use Rattle.plurality.proofs.Lists.{filter-no, filter-yes}
use Rattle.plurality.proofs.firsts.with_number.Goals as goal
use Rattle.plurality.proofs.firsts.with_number.Goals.{then-numbers-c+in_ok-push, else-numbers-c}

pub loop-c-preserved : goal.loop-c-preserved
loop-c-preserved c =
    let i = c.loop-c.c in
    let here = slice_index c.args.numbers.now i in
    let passes : ℕ → Bool = λ d. slice_index c.args.numbers.now d == c.args.number in
    elim c.if-numbers-c.branch [
      | then-numbers-c+in_ok-push w ↦
          ap (λ v. v.items) w.those-is ∙ w.in_ok-push.ensures.items ∙ ap (λ xs. xs ++ i ∷ []) c.loop-c.invariant
          ∙ sym (filter-yes passes i (eq-eqb here c.args.number w.if-numbers-c.true))
      | else-numbers-c w ↦
          ap (λ v. v.items) w.those-is ∙ c.loop-c.invariant ∙ sym (filter-no passes i (ne_eqb here c.args.number w.if-numbers-c.false))
    ]
