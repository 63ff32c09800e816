use Rattle.std.proofs.Common.{rules, ◌≡◌, ◌++◌, ◌∷◌, [], true, cond, if◌then◌else◌, map, sym, ap, ap₂, arith, ◌∙◌}
use Rattle.std.specs.Result.{is_ok}
use Rattle.std.proofs.lemmas.List.FromFn.{map-range_with_len_more}
use Rattle.irv_base.specs.Candidates.{candidates, has}
use Rattle.set_tallies.specs.Bags.{votes_at}
use Rattle.set_tallies.proofs.tallies.row_of.Goals as goal
use Rattle.set_tallies.proofs.tallies.row_of.Goals.{then-has, else-has}

pub loop-c-preserved : goal.loop-c-preserved
loop-c-preserved c =
    let bag = c.args.bag.now in
    let set = c.args.set in
    let d = c.loop-c.c in
    let good : is_ok c.push.result ≡ true = search rules in
    let items = rw good at c.push.ensures.items in
    let own : c.if-has.push ≡ (if has c.args.s d then votes_at bag set d else 0) = elim c.if-has.branch [
      | then-has w ↦ w.push-is ∙ w.votes.ensures ∙ ap (λ b. cond b (votes_at bag set d) 0) (sym (sym c.has.ensures ∙ w.if-has.true))
      | else-has w ↦ w.push-is ∙ ap (λ b. cond b (votes_at bag set d) 0) (sym (sym c.has.ensures ∙ w.if-has.false))
    ] in
    items
    ∙ ap₂ (λ xs x. xs ++ x ∷ []) c.loop-c.invariant own
    ∙ sym (map-range_with_len_more (λ e. if has c.args.s e then votes_at bag set e else 0) 0 d d (omega arith))

pub returns : goal.returns
returns c =
    let whole : c.loop-c.c ≡ c.args.bag.now.n = omega (arith, c.loop-c-test.false, c.loop-c.auto.c-end, c.candidates-c-end.ensures.same) in
    c.loop-c.invariant
    ∙ ap₂ (λ s n. map (λ d. if has s d then votes_at c.args.bag.now c.args.set d else 0) (candidates n)) (sym c.requires.same) whole
