use Rattle.std.proofs.Common.{◌==◌, ◌+◌, ◌-◌, ◌*◌, ◌<◌, ◌^◌, inl, inr, length, get_or, set, sym, ap, arith, eqb-true, ◌∙◌}
use Rattle.std.proofs.lemmas.Bool.{cases_Bool, eqb-false}
use Rattle.std.proofs.lemmas.List.{get_or-set_same, get_or-set_other, length-set}
use Rattle.set_tallies.specs.Halves.{having}
use Rattle.set_tallies.proofs.Columns.{place-below}
use Rattle.set_tallies.proofs.Halving.{place-apart}
use Rattle.set_tallies.proofs.halves.put.Goals as goal

pub loop-row-preserved : goal.loop-row-preserved
loop-row-preserved c =
    let n = c.args.n in
    let d = c.args.c in
    let old = c.loop-row.table in
    let place = c.place.result in
    let value = get_or c.args.numbers.now c.having.result 0 in
    let inside : c.loop-row.row < 2 ^ (n - 1) = search arith in
    let within : place < length old =
    omega (arith, c.place.ensures, c.loop-row.invariant.long, place-below n (n - 1) c.loop-row.row d inside c.requires.candidate) in
    record {
      long = length-set old place value ∙ c.loop-row.invariant.long;
      own = λ row l. elim (cases_Bool (row == c.loop-row.row)) [
        | inl t ↦
            let at = eqb-true row c.loop-row.row t in
            ap (λ r. get_or (set old place value) (r * n + d) 0) at
            ∙ ap (λ i. get_or (set old place value) i 0) (sym c.place.ensures)
            ∙ get_or-set_same old place value 0 within
            ∙ ap (λ s. get_or c.args.numbers.now s 0) (c.having.ensures ∙ ap (λ r. having n r d) (sym at))
        | inr f ↦
            let ne = eqb-false row c.loop-row.row f in
            get_or-set_other old place (row * n + d) value 0
            (λ e. place-apart n row d c.loop-row.row d c.requires.candidate c.requires.candidate (λ s t. ne s) (e ∙ c.place.ensures))
            ∙ c.loop-row.invariant.own row (omega arith)
      ];
      others = λ row other l f.
          get_or-set_other old place (row * n + other) value 0
          (λ e. place-apart n row other c.loop-row.row d l c.requires.candidate (λ s t. eqb-false other d f t) (e ∙ c.place.ensures))
          ∙ c.loop-row.invariant.others row other l f;
    }
