use Rattle.std.proofs.Common.{◌++◌, ◌∷◌, [], List, Vec, Global, ℕ, ap, sym, ◌∙◌}
use Rattle.set_tallies.proofs.Winners.{winner-taken, winner-left}
use Rattle.set_tallies.proofs.ahead.winners_of.Goals as goal
use Rattle.set_tallies.proofs.ahead.winners_of.Goals.{then-ahead-w+in_ok-push, else-ahead-w}

abbrev in_it : Vec ℕ Global → List ℕ
in_it v = v.items

pub loop-w-preserved : goal.loop-w-preserved
loop-w-preserved c =
    elim c.if-ahead-w.branch [
      | then-ahead-w+in_ok-push w ↦ ap in_it w.winners-is ∙ w.in_ok-push.ensures.items ∙ ap (λ xs. xs ++ c.loop-w.w ∷ []) c.loop-w.invariant
          ∙ sym (winner-taken c.args.firsts.now c.args.ahead.now c.loop-w.w w.if-ahead-w.true)
      | else-ahead-w w ↦ ap in_it w.winners-is ∙ c.loop-w.invariant
          ∙ sym (winner-left c.args.firsts.now c.args.ahead.now c.loop-w.w w.if-ahead-w.false)
    ]
