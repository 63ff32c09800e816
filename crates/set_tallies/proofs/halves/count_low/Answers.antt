use Rattle.std.proofs.Common.{◌≡◌, ◌==◌, ◌+◌, ◌-◌, ◌*◌, ◌/◌, ◌^◌, ◌&&◌, ◌<◌, ◌≤◌, ℕ, Bool, true, false, inl, inr, length, get_or, cond, sym, ap, arith, eq-eqb, eqb-true, ne_eqb, ◌∙◌}
use Rattle.std.proofs.Math.Nat.{div-lt_iff_lt-mul}
use Rattle.std.proofs.lemmas.Bool.{cases_Bool, eqb-false}
use Rattle.std.proofs.lemmas.List.{length-set}
use Rattle.irv_base.specs.declared.limits.TheConstants.{MOST_RECORDS}
use Rattle.set_tallies.specs.Bags.{misses}
use Rattle.set_tallies.specs.Sums.{column, apart}
use Rattle.set_tallies.proofs.Columns.{place-below, place-fits, table-more}
use Rattle.set_tallies.proofs.Halving.{wide}
use Rattle.set_tallies.proofs.halves.count_low.Goals as goal
use Rattle.set_tallies.proofs.halves.count_low.Goals.{then-before-low-eq0, else-before-low-eq0}

row-within : (n before : ℕ) → 4 ≤ n → before < 2 ^ n → before / 16 < 2 ^ (n - 4)
row-within n before some below = (div-lt_iff_lt-mul (omega arith)).1 (omega (arith, wide n some, below))

within : (n before low : ℕ) → 4 ≤ n → before < 2 ^ n → low < 16 → before / 16 * 16 + low < 2 ^ n
within n before low some below l = omega (arith, wide n some, place-below 16 (n - 4) (before / 16) low (row-within n before some below) l)

pub bounds-numbers-row : goal.bounds-numbers-row
bounds-numbers-row c =
    omega (arith, c.loop-low.invariant.long, within c.args.n c.args.before c.loop-low.low c.requires.few.0 c.requires.below c.loop-low-test.true)

pub bounds-numbers-row-then-before-low-eq0 : goal.bounds-numbers-row-then-before-low-eq0
bounds-numbers-row-then-before-low-eq0 c =
    omega (arith, c.loop-low.invariant.long, within c.args.n c.args.before c.loop-low.low c.requires.few.0 c.requires.below c.loop-low-test.true)

pub overflow_add-numbers-then-before-low-eq0 : goal.overflow_add-numbers-then-before-low-eq0
overflow_add-numbers-then-before-low-eq0 c =
    let n = c.args.n in
    let low = c.loop-low.low in
    omega (
      arith,
      place-fits 16 (n - 4) c.loop-low.numbers (c.loop-low.invariant.long ∙ sym (wide n c.requires.few.0)) (c.args.before / 16) low
          (row-within n c.args.before c.requires.few.0 c.requires.below) c.loop-low-test.true c.args.count MOST_RECORDS
          (omega (arith, c.loop-low.invariant.left 0 low (omega arith) c.loop-low-test.true, c.requires.fit low c.loop-low-test.true)),
    )

untouched : (b : Bool) (x v : ℕ) → x ≡ x + cond (b && false) v 0
untouched true x v = omega arith
untouched false x v = omega arith

pub loop-low-preserved : goal.loop-low-preserved
loop-low-preserved c =
    let n = c.args.n in
    let b = c.args.before in
    let low = c.loop-low.low in
    let old = c.loop-low.numbers in
    let new = c.if-before-low-eq0.numbers in
    let more : (s l : ℕ) → l < 16 → apart s (column 16 (n - 4) new l)
    ≡ apart s (column 16 (n - 4) old l) + cond (l == low && (misses low b && misses s (b / 16))) c.args.count 0 =
    elim c.if-before-low-eq0.branch [
      | then-before-low-eq0 w ↦ λ s l m.
          let hit : misses low b ≡ true = eq-eqb _ 0 w.if-before-low-eq0.true in
          ap (λ t. apart s (column 16 (n - 4) t l)) w.numbers-is
          ∙ table-more 16 (n - 4) old (c.loop-low.invariant.long ∙ sym (wide n c.requires.few.0)) (b / 16) low
          (row-within n b c.requires.few.0 c.requires.below) c.loop-low-test.true c.args.count s l m
          ∙ ap (λ t. apart s (column 16 (n - 4) old l) + cond (l == low && (t && misses s (b / 16))) c.args.count 0) (sym hit)
      | else-before-low-eq0 w ↦ λ s l m.
          let hit : misses low b ≡ false = ne_eqb _ 0 w.if-before-low-eq0.false in
          ap (λ t. apart s (column 16 (n - 4) t l)) w.numbers-is
          ∙ untouched (l == low) (apart s (column 16 (n - 4) old l)) c.args.count
          ∙ ap (λ t. apart s (column 16 (n - 4) old l) + cond (l == low && (t && misses s (b / 16))) c.args.count 0) (sym hit)
    ] in
    record {
      long = elim c.if-before-low-eq0.branch [
        | then-before-low-eq0 w ↦ ap length w.numbers-is ∙ length-set old (b / 16 * 16 + low) (get_or old (b / 16 * 16 + low) 0 + c.args.count) ∙ c.loop-low.invariant.long
        | else-before-low-eq0 w ↦ ap length w.numbers-is ∙ c.loop-low.invariant.long
      ];
      done = λ s l m. elim (cases_Bool (l == low)) [
        | inl t ↦
            let at : l ≡ low = eqb-true l low t in
            let here : l < 16 = omega (arith, at, c.loop-low-test.true) in
            omega (
              arith,
              more s l here,
              ap (λ x. cond (x && (misses low b && misses s (b / 16))) c.args.count 0) t,
              ap (λ x. cond (misses x b && misses s (b / 16)) c.args.count 0) at,
              c.loop-low.invariant.left s l (omega (arith, at)) here,
            )
        | inr f ↦
            let ne = eqb-false l low f in
            let before : l < low = omega arith in
            omega (
              arith,
              more s l (omega (arith, before, c.loop-low-test.true)),
              ap (λ x. cond (x && (misses low b && misses s (b / 16))) c.args.count 0) f,
              c.loop-low.invariant.done s l before,
            )
      ];
      left = λ s l m k.
          let other : (l == low) ≡ false = ne_eqb l low (λ e. omega (arith, e, m)) in
          omega (
            arith,
            more s l k,
            ap (λ x. cond (x && (misses low b && misses s (b / 16))) c.args.count 0) other,
            c.loop-low.invariant.left s l (omega (arith, m)) k,
          );
    }
