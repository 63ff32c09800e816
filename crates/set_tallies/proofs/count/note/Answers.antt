use Rattle.std.proofs.Common.{◌≡◌, ◌==◌, ◌&&◌, cond, ◌+◌, ◌<◌, ◌^◌, ◌*◌, ◌%◌, ℕ, true, false, IsTrue, ◌∷◌, length, drop, get_or, not, sym, ap, subst, arith, ◌∙◌}
use Rattle.std.proofs.Math.Pow.{pow-lt}
use Rattle.std.proofs.lemmas.Bool.{and_parts}
use Rattle.std.proofs.lemmas.List.{drop_more, get_or_default, length-set}
use Rattle.std.proofs.lemmas.Nat.{or_lt}
use Rattle.irv_base.specs.Candidates.{has, is_in, is_distinct}
use Rattle.irv_base.proofs.Bits.{one_bit}
use Rattle.set_tallies.specs.Bags.{misses}
use Rattle.set_tallies.proofs.Noted.{put-counted}
use Rattle.set_tallies.proofs.Tables.{left, left-next, unseen-next, unseen-first}
use Rattle.set_tallies.proofs.count.note.Goals as goal

pub loop-d-preserved : goal.loop-d-preserved
loop-d-preserved c =
    let lists = c.loop-d.lists in
    let items = c.args.ranking.now in
    let n = c.args.n in
    let d = c.d-item.result in
    let seen = c.loop-d.seen in
    let rest = drop (c.loop-d.d-index + 1) items in
    let here : drop c.loop-d.d-index items ≡ d ∷ rest = drop_more items c.loop-d.d-index d c.loop-d-test.true ∙ ap (λ x. x ∷ rest) (sym c.d-item.is) in
    let own : d < n = subst (λ x. x < n) (sym c.d-item.is)
    (c.requires.below c.loop-d.d-index d c.loop-d-test.true) in
    let bit : 1 * 2 ^ c.index-in-loop-d.result % 2 ^ 32 ≡ 2 ^ d = ap (λ k. 1 * 2 ^ k % 2 ^ 32) c.index-in-loop-d.ensures.same ∙ one_bit d (omega (arith, own, c.requires.room)) in
    let distinct : IsTrue (is_distinct (d ∷ rest)) = subst (λ xs. IsTrue (is_distinct xs)) here c.loop-d.invariant.distinct in
    let unseen : (e : ℕ) → is_in (d ∷ rest) e ≡ true → has seen e ≡ false =
    subst (λ xs. (e : ℕ) → is_in xs e ≡ true → has seen e ≡ false) here c.loop-d.invariant.unseen in
    let out : has seen d ≡ false = unseen-first seen d rest unseen in
    let within : d < length lists = omega (arith, own, c.loop-d.invariant.each) in
    let place = c.index.result in
    let there : place < length lists = omega (arith, c.index.ensures.same, within) in
    let old = get_or lists place c.index-lists-index.result in
    let at : old ≡ get_or lists place old = get_or_default lists place c.index-lists-index.result old there in
    rw bit (record {
      each = length-set lists c.index.result c.put.new.entries ∙ c.loop-d.invariant.each;
      below = or_lt n seen (2 ^ d) c.loop-d.invariant.below (pow-lt own);
      distinct = (and_parts (not (is_in rest d)) (is_distinct rest) distinct).1;
      unseen = unseen-next seen d rest distinct unseen;
      more = λ s e l.
          omega (
            arith,
            put-counted (λ v. v.items) lists place old c.put.new.entries seen s e there at c.in_ok-put.ensures,
            ap (λ k. let one : ℕ = cond (e == k && misses s seen) 1 0 in one) c.index.ensures.same,
            ap (λ xs. left s seen xs e) here ∙ left-next s seen d rest e out,
            c.loop-d.invariant.more s e l,
          );
    })
