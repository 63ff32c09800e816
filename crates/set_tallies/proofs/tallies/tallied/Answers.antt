use Rattle.std.proofs.Common.{rules, ◌≡◌, ◌++◌, ◌∷◌, [], true, cond, get_or, if◌then◌else◌, sym, ap, ap₂, arith, ◌∙◌}
use Rattle.std.specs.Result.{is_ok}
use Rattle.std.proofs.lemmas.List.FromFn.{map-range_with_len_more}
use Rattle.irv_base.specs.Candidates.{has}
use Rattle.set_tallies.proofs.tallies.tallied.Goals as goal
use Rattle.set_tallies.proofs.tallies.tallied.Goals.{then-has, else-has}

pub loop-c-preserved : goal.loop-c-preserved
loop-c-preserved c =
    let row = c.args.row.now in
    let s = c.args.s in
    let d = c.loop-c.c in
    let good : is_ok c.push.result ≡ true = search rules in
    let items = rw good at c.push.ensures.items in
    let own : c.if-has.push ≡ (if has s d then get_or row d 0 else 0) = elim c.if-has.branch [
      | then-has w ↦ w.push-is ∙ ap (λ k. get_or row k 0) w.index.ensures.same ∙ ap (λ b. cond b (get_or row d 0) 0) (sym (sym c.has.ensures ∙ w.if-has.true))
      | else-has w ↦ w.push-is ∙ ap (λ b. cond b (get_or row d 0) 0) (sym (sym c.has.ensures ∙ w.if-has.false))
    ] in
    items
    ∙ ap₂ (λ xs x. xs ++ x ∷ []) c.loop-c.invariant own
    ∙ sym (map-range_with_len_more (λ e. if has s e then get_or row e 0 else 0) 0 d d (omega arith))
