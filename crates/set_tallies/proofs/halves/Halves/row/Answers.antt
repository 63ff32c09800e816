use Rattle.std.proofs.Common.{rules, ◌≡◌, ◌+◌, ◌*◌, ◌<◌, ◌++◌, ◌∷◌, [], true, cond, if◌then◌else◌, length, get_or, sym, ap, ap₂, arith, ◌∙◌}
use Rattle.std.specs.Result.{is_ok}
use Rattle.std.proofs.lemmas.List.{get_or_default}
use Rattle.std.proofs.lemmas.List.FromFn.{map-range_with_len_more}
use Rattle.irv_base.specs.Candidates.{has}
use Rattle.set_tallies.specs.Halves.{row_of, half_at}
use Rattle.set_tallies.proofs.Halving.{half-within, with-same}
use Rattle.set_tallies.proofs.halves.Halves.row.Goals as goal
use Rattle.set_tallies.proofs.halves.Halves.row.Goals.{then-has, else-has}

pub loop-c-preserved : goal.loop-c-preserved
loop-c-preserved c =
    let halves = c.args.self.now in
    let n = halves.n in
    let items = halves.table.items in
    let s = c.args.s in
    let d = c.loop-c.c in
    let own : d < n = search arith in
    let good : is_ok c.push.result ≡ true = search rules in
    let pushed = rw good at c.push.ensures.items in
    let first : c.place-first.result ≡ row_of n s * n = c.place-first.ensures ∙ ap (λ r. r * n + 0) (c.row_of.ensures ∙ ap (row_of n) c.number.ensures) ∙ omega arith in
    let place : c.place-first.result + d ≡ row_of n s * n + d = ap (λ f. f + d) first in
    let within : c.place-first.result + d < length items =
    omega (arith, place, c.requires.table.long, half-within n s d c.requires.table.some c.requires.below own) in
    let votes : c.index-votes.result.now ≡ get_or items (row_of n s * n + d) 0 =
    c.index-votes.ensures ∙ sym (get_or_default items (c.place-first.result + d) 0 c.index-votes.result.now within) ∙ ap (λ i. get_or items i 0) place in
    let value : c.if-has.push ≡ (if has s d then half_at halves s d else 0) = elim c.if-has.branch [
      | then-has w ↦
          let inside : has s d ≡ true = sym c.has.ensures ∙ w.if-has.true in
          w.push-is ∙ w.from.ensures ∙ votes ∙ ap (λ t. get_or items (row_of n t * n + d) 0) (sym (with-same s d inside))
          ∙ ap (λ b. cond b (half_at halves s d) 0) (sym inside)
      | else-has w ↦ w.push-is ∙ ap (λ b. cond b (half_at halves s d) 0) (sym (sym c.has.ensures ∙ w.if-has.false))
    ] in
    pushed
    ∙ ap₂ (λ xs x. xs ++ x ∷ []) c.loop-c.invariant value
    ∙ sym (map-range_with_len_more (λ e. if has s e then half_at halves s e else 0) 0 d d (omega arith))
