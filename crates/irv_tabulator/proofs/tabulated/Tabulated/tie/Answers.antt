use Rattle.std.proofs.Common.{◌≡◌, ◌≤◌, ℕ, ◌+◌, ◌<◌, inl, inr, get_or, length, slice_get, Some, None, is_some, ltb-false, refl, sym, ap, subst, arith, ◌∙◌}
use Rattle.std.proofs.lemmas.Bool.{cases_lt}
use Rattle.irv_base.specs.Candidates.{members}
use Rattle.irv_base.specs.declared.limits.TheConstants.{ROOM}
use Rattle.irv_base.proofs.Orders.{order_facts}
use Rattle.irv_tabulator.specs.Results.{IsTabulation}
use Rattle.irv_tabulator.specs.declared.tabulated.Round.{Round}
use Rattle.irv_tabulator.proofs.Telling.{read-at, unread, untold, few-untied, first-told}
use Rattle.irv_tabulator.proofs.tabulated.Tabulated.tie.Goals as goal
use Rattle.irv_tabulator.proofs.tabulated.Tabulated.tie.Goals.{in-Some+else-len-gt1, in_default}

pub returns-then-len-gt1 : goal.returns-then-len-gt1
returns-then-len-gt1 c n records h =
    let xs = c.args.self.now.rounds.items in
    let round = c.in-Some.round.now in
    let found = c.in-Some.ensures.lookup.3 in
    let at : slice_get xs c.loop-i.i ≡ Some round = subst (λ ys. slice_get ys c.loop-i.i ≡ Some round) c.deref.ensures.value
    (read-at c.deref.result.now c.loop-i.i round found.0 found.1) in
    let room : n ≤ ROOM = omega (arith, (order_facts n c.args.self.now.order h.order).long, c.len-i-end.ensures.same, c.len-i-end.ensures.room) in
    first-told n records c.args.self.now h room c.loop-i.i c.at.result c.tally_in.result round at (omega (arith, c.len.ensures, c.if-len-gt1.true))
    (c.loop-i.invariant n records h) c.at.ensures
    (c.tally_in.ensures ∙ ap (λ row. get_or row c.at.result 0) c.deref-then-len-gt1.ensures.value)

pub loop-i-preserved : goal.loop-i-preserved
loop-i-preserved c n records h k l =
    let xs = c.args.self.now.rounds.items in
    let room : n ≤ ROOM = omega (arith, (order_facts n c.args.self.now.order h.order).long, c.len-i-end.ensures.same, c.len-i-end.ensures.room) in
    elim c.match-get.branch [
      | in-Some+else-len-gt1 w ↦
          let round = w.in-Some.round.now in
          let found = w.in-Some.ensures.lookup.3 in
          let at : slice_get xs c.loop-i.i ≡ Some round = subst (λ ys. slice_get ys c.loop-i.i ≡ Some round) c.deref.ensures.value
          (read-at c.deref.result.now c.loop-i.i round found.0 found.1) in
          elim (cases_lt k c.loop-i.i) [
            | inl b ↦ c.loop-i.invariant n records h k b
            | inr g ↦ rw (same k l g) (few-untied n records c.args.self.now h room c.loop-i.i round at (omega (arith, w.len.ensures, w.if-len-gt1.false)))
          ]
      | in_default w ↦
          let few : length xs ≤ c.loop-i.i = subst (λ ys. length ys ≤ c.loop-i.i) c.deref.ensures.value
          (ltb-false c.loop-i.i (length c.deref.result.now) (sym c.get.ensures.lookup.0 ∙ ap is_some w.in_default.is)) in
          elim (cases_lt k c.loop-i.i) [
            | inl b ↦ c.loop-i.invariant n records h k b
            | inr g ↦ rw (same k l g) (untold n records c.args.self.now h room c.loop-i.i (unread xs c.loop-i.i few))
          ]
    ]
  where
    same : (k : ℕ) → k < c.loop-i.i + 1 → c.loop-i.i ≤ k → k ≡ c.loop-i.i
    same k l g = omega (arith, l, g)
