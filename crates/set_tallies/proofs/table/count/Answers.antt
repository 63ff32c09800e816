use Rattle.std.proofs.Common.{◌≡◌, ◌==◌, ◌+◌, ◌*◌, ◌%◌, ◌^◌, ◌&&◌, ◌∷◌, ℕ, true, false, IsTrue, Bool, cond, drop, get_or, pow_pos, length, refl, sym, ap, ap₂, subst, eq-eqb, not, All, List, arith, ◌<◌, ◌≤◌, ◌∙◌}
use Rattle.std.proofs.Math.Pow.{pow-lt}
use Rattle.std.proofs.lemmas.Bool.{and_parts}
use Rattle.std.proofs.lemmas.List.{drop_more, drop_all}
use Rattle.std.proofs.lemmas.Nat.{or_lt}
use Rattle.std.proofs.lemmas.Nat.Bits.{bit_at-zero}
use Rattle.irv_base.specs.Candidates.{has, is_in, is_distinct}
use Rattle.irv_base.proofs.Bits.{one_bit}
use Rattle.set_tallies.specs.Bags.{misses}
use Rattle.set_tallies.specs.Befores.{has_missed}
use Rattle.set_tallies.specs.Sums.{column, apart}
use Rattle.set_tallies.proofs.Apart.{misses-empty}
use Rattle.set_tallies.proofs.Tables.{left, left-first, left-none, left-next, unseen-next, unseen-first}
use Rattle.set_tallies.proofs.table.count.Goals as goal

one : (b : Bool) → cond b 1 0 ≤ 1
one true = omega arith
one false = omega arith

pub loop-d-init : goal.loop-d-init
loop-d-init c = record {
  long = c.requires.long;
  below = pow_pos c.args.n;
  distinct = c.requires.distinct;
  unseen = λ e h. nobody e;
  more = λ s d l. ap (λ x. apart s (column c.args.n c.args.n c.args.table.now d) + x) (left-first s c.args.ranking.now d (nobody d));
}
  where
    nobody : (e : ℕ) → has 0 e ≡ false
    nobody e = ap (λ x. x == 1) (bit_at-zero e)

inside : (n : ℕ) (ranking : List ℕ) (i d : ℕ) → All (λ c. c < n) ranking → i < length ranking → d ≡ get_or ranking i d → d < n
inside n ranking i d below l at = subst (λ x. x < n) (sym at) (below i d l)

pub add-requires-clause-candidate : goal.add-requires-clause-candidate
add-requires-clause-candidate c =
    inside c.args.n c.args.ranking.now c.loop-d.d-index c.d-item.result c.requires.below c.loop-d-test.true c.d-item.is

pub add-requires-clause-fit : goal.add-requires-clause-fit
add-requires-clause-fit c =
    let items = c.args.ranking.now in
    let i = c.loop-d.d-index in
    let d = c.d-item.result in
    let rest = drop (i + 1) items in
    let here : drop i items ≡ d ∷ rest = drop_more items i d c.loop-d-test.true ∙ ap (λ x. x ∷ rest) (sym c.d-item.is) in
    let own = inside c.args.n items i d c.requires.below c.loop-d-test.true c.d-item.is in
    let out : has c.loop-d.seen d ≡ false =
    unseen-first c.loop-d.seen d rest (subst (λ xs. (e : ℕ) → is_in xs e ≡ true → has c.loop-d.seen e ≡ false) here c.loop-d.invariant.unseen) in
    let next = ap (λ xs. left 0 c.loop-d.seen xs d) here ∙ left-next 0 c.loop-d.seen d rest d out in
    let once : ℕ = 1 in
    let self : cond (d == d && misses 0 c.loop-d.seen) once 0 ≡ once = ap₂ (λ a b. cond (a && b) once 0) (eq-eqb d d refl) (misses-empty c.loop-d.seen) in
    omega (arith, c.loop-d.invariant.more 0 d own, next, self, c.requires.fit d own, one (has_missed 0 d c.args.ranking.now))

pub loop-d-preserved : goal.loop-d-preserved
loop-d-preserved c =
    let items = c.args.ranking.now in
    let n = c.args.n in
    let i = c.loop-d.d-index in
    let d = c.d-item.result in
    let seen = c.loop-d.seen in
    let rest = drop (i + 1) items in
    let here : drop i items ≡ d ∷ rest = drop_more items i d c.loop-d-test.true ∙ ap (λ x. x ∷ rest) (sym c.d-item.is) in
    let own = inside n items i d c.requires.below c.loop-d-test.true c.d-item.is in
    let bit : 1 * 2 ^ c.index.result % 2 ^ 32 ≡ 2 ^ d = ap (λ k. 1 * 2 ^ k % 2 ^ 32) c.index.ensures.same ∙ one_bit d (omega (arith, own, c.requires.few)) in
    let distinct : IsTrue (is_distinct (d ∷ rest)) = subst (λ xs. IsTrue (is_distinct xs)) here c.loop-d.invariant.distinct in
    let unseen : (e : ℕ) → is_in (d ∷ rest) e ≡ true → has seen e ≡ false =
    subst (λ xs. (e : ℕ) → is_in xs e ≡ true → has seen e ≡ false) here c.loop-d.invariant.unseen in
    let out : has seen d ≡ false = unseen-first seen d rest unseen in
    rw bit (record {
      long = c.add.ensures.long;
      below = or_lt n seen (2 ^ d) c.loop-d.invariant.below (pow-lt own);
      distinct = (and_parts (not (is_in rest d)) (is_distinct rest) distinct).1;
      unseen = unseen-next seen d rest distinct unseen;
      more = λ s e l.
          omega (arith, c.add.ensures.more s e l, ap (λ xs. left s seen xs e) here ∙ left-next s seen d rest e out, c.loop-d.invariant.more s e l);
    })

pub returns-clause-more : goal.returns-clause-more
returns-clause-more c = λ s d l.
    let nothing = ap (λ xs. left s c.loop-d.seen xs d) (drop_all c.loop-d.d-index c.args.ranking.now (omega (arith, c.loop-d-test.false)))
    ∙ left-none s c.loop-d.seen d in
    omega (arith, nothing, c.loop-d.invariant.more s d l)
