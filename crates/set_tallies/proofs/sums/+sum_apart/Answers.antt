use Rattle.std.proofs.Common.{◌≡◌, ◌-◌, ◌+◌, ◌*◌, ◌^◌, ◌++◌, ap, ap₂, arith, ◌∙◌, length-append}
use Rattle.std.proofs.Math.Nat.{mul-add}
use Rattle.set_tallies.specs.Sums.{column}
use Rattle.set_tallies.proofs.Apart.{single, twice}
use Rattle.set_tallies.proofs.Columns.{cells, halved, halves-fit, both-fit, both-are, column-long}
use Rattle.set_tallies.proofs.sums.+sum_apart.Goals as goal

pub returns-then-k-eq0-clause-sums : goal.returns-then-k-eq0-clause-sums
returns-then-k-eq0-clause-sums t c = λ d l.
    single (column c.args.n c.args.k c.args.table.now d) (column-long c.args.n c.args.k c.args.table.now d ∙ ap (λ k. 2 ^ k) c.if-k-eq0.true)

pub split_at_mut-without-requires : goal.split_at_mut-without-requires
split_at_mut-without-requires t c =
    let n = c.args.n in
    let k = c.args.k in
    let fits = cells n (k - 1) c.requires.few.0 (omega (arith, c.requires.few.1)) in
    let double : n * 2 ^ k ≡ n * 2 ^ (k - 1) + n * 2 ^ (k - 1) = ap (λ p. n * p) (twice k c.if-k-eq0.false) ∙ mul-add n (2 ^ (k - 1)) (2 ^ (k - 1)) in
    omega (arith, fits, c.requires.long, double)

pub sum_apart-requires : goal.sum_apart-requires
sum_apart-requires t c =
    let n = c.args.n in
    let k = c.args.k in
    let s = c.split_at_mut-without.ensures in
    let fits = cells n (k - 1) c.requires.few.0 (omega (arith, c.requires.few.1)) in
    let h = halved n k c.args.table.now c.split_at_mut-without.result.0.now c.split_at_mut-without.result.1.now c.if-k-eq0.false c.requires.long s.value
    (s.front_len ∙ fits) (omega (arith, s.back_len, fits)) in (
      omega (arith, c.decreases, c.if-k-eq0.false),
      (
        c.requires.some,
        (h.first, ((c.requires.few.0, omega (arith, c.requires.few.1)), λ d l. (halves-fit n k _ c.args.table.now _ _ h c.requires.fit d l).0)),
      ),
    )

pub sum_apart-requires-2 : goal.sum_apart-requires-2
sum_apart-requires-2 t c =
    let n = c.args.n in
    let k = c.args.k in
    let s = c.split_at_mut-without.ensures in
    let fits = cells n (k - 1) c.requires.few.0 (omega (arith, c.requires.few.1)) in
    let h = halved n k c.args.table.now c.split_at_mut-without.result.0.now c.split_at_mut-without.result.1.now c.if-k-eq0.false c.requires.long s.value
    (s.front_len ∙ fits) (omega (arith, s.back_len, fits)) in (
      omega (arith, c.decreases, c.if-k-eq0.false),
      (
        c.requires.some,
        (h.second, ((c.requires.few.0, omega (arith, c.requires.few.1)), λ d l. (halves-fit n k _ c.args.table.now _ _ h c.requires.fit d l).1)),
      ),
    )

pub add_halves-requires-clause-fit : goal.add_halves-requires-clause-fit
add_halves-requires-clause-fit t c = λ i l.
    let n = c.args.n in
    let k = c.args.k in
    let s = c.split_at_mut-without.ensures in
    let fits = cells n (k - 1) c.requires.few.0 (omega (arith, c.requires.few.1)) in
    let h = halved n k c.args.table.now c.split_at_mut-without.result.0.now c.split_at_mut-without.result.1.now c.if-k-eq0.false c.requires.long s.value
    (s.front_len ∙ fits) (omega (arith, s.back_len, fits)) in
    both-fit n k _ c.args.table.now _ _ h c.requires.fit c.sum_apart.new.table c.sum_apart-2.new.table c.sum_apart.ensures.long c.sum_apart-2.ensures.long
    c.sum_apart.ensures.sums c.sum_apart-2.ensures.sums i c.requires.some l

pub returns-clause-long : goal.returns-clause-long
returns-clause-long t c =
    let n = c.args.n in
    let k = c.args.k in
    let double : n * 2 ^ k ≡ n * 2 ^ (k - 1) + n * 2 ^ (k - 1) = ap (λ p. n * p) (twice k c.if-k-eq0.false) ∙ mul-add n (2 ^ (k - 1)) (2 ^ (k - 1)) in
    omega (
      arith,
      length-append c.add_halves.new.without c.add_halves.new.having,
      c.add_halves.auto.without,
      c.add_halves.auto.having,
      c.sum_apart.ensures.long,
      c.sum_apart-2.ensures.long,
      double,
    )

pub returns-clause-sums : goal.returns-clause-sums
returns-clause-sums t c = λ d l.
    let n = c.args.n in
    let k = c.args.k in
    let s = c.split_at_mut-without.ensures in
    let fits = cells n (k - 1) c.requires.few.0 (omega (arith, c.requires.few.1)) in
    let h = halved n k c.args.table.now c.split_at_mut-without.result.0.now c.split_at_mut-without.result.1.now c.if-k-eq0.false c.requires.long s.value
    (s.front_len ∙ fits) (omega (arith, s.back_len, fits)) in
    ap₂ (λ xs ys. column n k (xs ++ ys) d) c.add_halves.ensures.sums c.add_halves.ensures.first
    ∙ both-are n k _ c.args.table.now _ _ h c.requires.fit c.sum_apart.new.table c.sum_apart-2.new.table c.sum_apart.ensures.long c.sum_apart-2.ensures.long
    c.sum_apart.ensures.sums c.sum_apart-2.ensures.sums c.if-k-eq0.false d l
