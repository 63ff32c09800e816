use Rattle.std.proofs.Common.{◌∙◌, ◌==◌, ◌++◌, ◌∷◌, [], ℕ, Bool, not, ap, sym}
use Rattle.plurality.proofs.Lists.{filter-no, filter-yes}
use Rattle.plurality.proofs.firsts.all_but.Goals as goal
use Rattle.plurality.proofs.firsts.all_but.Goals.{then-ne+in_ok-push, else-ne}

pub loop-i-preserved : goal.loop-i-preserved
loop-i-preserved c =
    let i = c.loop-i.i in
    let passes : ℕ → Bool = λ d. not (d == c.args.one) in
    elim c.if-ne.branch [
      | then-ne+in_ok-push w ↦
          ap (λ v. v.items) w.others-is ∙ w.in_ok-push.ensures.items ∙ ap (λ xs. xs ++ i ∷ []) c.loop-i.invariant
          ∙ sym (filter-yes passes i (sym w.if-ne.ensures))
      | else-ne w ↦ ap (λ v. v.items) w.others-is ∙ c.loop-i.invariant ∙ sym (filter-no passes i (sym w.if-ne.ensures))
    ]
