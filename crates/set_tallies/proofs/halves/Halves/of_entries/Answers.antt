use Rattle.std.proofs.Common.{◌≡◌, ◌==◌, ◌+◌, ◌*◌, ◌<◌, ◌≤◌, ◌^◌, ℕ, [], inl, inr, bit_or, length, map, get_or, sym, ap, arith, eqb-true, ◌∙◌}
use Rattle.std.proofs.lemmas.Bool.{cases_Bool, eqb-false}
use Rattle.std.proofs.lemmas.List.{length-map}
use Rattle.set_tallies.specs.Bags.{missing, total}
use Rattle.set_tallies.specs.Halves.{having, row_of}
use Rattle.set_tallies.specs.declared.halves.TheConstants.{MOST_HALVED}
use Rattle.set_tallies.proofs.Apart.{twice}
use Rattle.set_tallies.proofs.Filled.{at-place, own-entries}
use Rattle.set_tallies.proofs.Halving.{having-below, row-below, row-having, with-below, with-has}
use Rattle.set_tallies.proofs.Runs.{missing-le}
use Rattle.set_tallies.proofs.Tables.{all-written}
use Rattle.set_tallies.proofs.halves.Halves.of_entries.Goals as goal

pub sums-requires-clause-most : goal.sums-requires-clause-most
sums-requires-clause-most c =
    let d = c.loop-c.c in
    let lists = c.args.lists.now in
    let own : d < c.args.n = omega (arith, c.loop-c-test.true, c.loop-c.auto.c-end) in
    let few : total c.index-lists-c.result.items ≤ MOST_HALVED =
    at-place (λ es. total es ≤ MOST_HALVED) (λ v. v.items) lists d c.index-lists-c.result (omega (arith, own, c.requires.entries.one_each, length-map lists (λ v. v.items)))
    c.requires.entries.few c.index-lists-c.is in
    omega (arith, few)

pub put-requires-clause-small : goal.put-requires-clause-small
put-requires-clause-small c = λ set below.
    let d = c.loop-c.c in
    let lists = c.args.lists.now in
    let own : d < c.args.n = omega (arith, c.loop-c-test.true, c.loop-c.auto.c-end) in
    let few : total c.index-lists-c.result.items ≤ MOST_HALVED =
    at-place (λ es. total es ≤ MOST_HALVED) (λ v. v.items) lists d c.index-lists-c.result (omega (arith, own, c.requires.entries.one_each, length-map lists (λ v. v.items)))
    c.requires.entries.few c.index-lists-c.is in
    omega (
      arith,
      few,
      ap (λ t. get_or t set 0) c.deref.ensures.value,
      c.in_ok-numbers.ensures.says set below,
      missing-le set c.index-lists-c.result.items,
    )

pub loop-c-preserved : goal.loop-c-preserved
loop-c-preserved c =
    let n = c.args.n in
    let d = c.loop-c.c in
    let table = c.loop-c.table in
    let new = c.put.new.table in
    let lists = c.args.lists.now in
    let own : d < n = omega (arith, c.loop-c-test.true, c.loop-c.auto.c-end) in
    let some : 1 ≤ n = omega (arith, c.requires.few.0) in
    let long : length new ≡ table.len = c.put.ensures.long ∙ sym c.loop-c.invariant.long ∙ sym table.ok.0 in
    let written = all-written table.len new table.items long in
    let entries : get_or (map (λ v. v.items) lists) d [] ≡ c.index-lists-c.result.items =
    own-entries (λ v. v.items) lists d c.index-lists-c.result (omega (arith, own, c.requires.entries.one_each, length-map lists (λ v. v.items))) c.index-lists-c.is in
    record {
      long = ap length written ∙ c.put.ensures.long;
      done = λ row e below l. ap (λ t. get_or t (row * n + e) 0) written ∙ elim (cases_Bool (e == d)) [
        | inl t ↦
            let at : e ≡ d = eqb-true e d t in
            let within : having n row d < 2 ^ n = having-below n row d (omega (arith, below, twice n (λ z. omega (arith, z, some)))) in
            ap (λ x. get_or new (row * n + x) 0) at
            ∙ c.put.ensures.own row below
            ∙ ap (λ t. get_or t (having n row d) 0) c.deref.ensures.value
            ∙ c.in_ok-numbers.ensures.says (having n row d) within
            ∙ ap (missing (having n row d)) (sym entries)
            ∙ ap (λ x. missing (having n row x) (get_or (map (λ v. v.items) lists) x [])) (sym at)
        | inr f ↦
            let ne = eqb-false e d f in
            let before : e < d = omega arith in
            c.put.ensures.others row e (omega (arith, before, own)) f
            ∙ ap (λ t. get_or t (row * n + e) 0) c.deref_mut.ensures.value
            ∙ c.loop-c.invariant.done row e below before
      ];
    }

pub returns-clause-says : goal.returns-clause-says
returns-clause-says c = λ set d below l.
    let n = c.args.n in
    let lists = map (λ v. v.items) c.args.lists.now in
    let with : ℕ = bit_or set (2 ^ d) in
    let within : with < 2 ^ n = with-below n set d below l in
    let whole : d < c.loop-c.c = omega (arith, l, c.loop-c-test.false, c.loop-c.auto.c-end) in
    c.loop-c.invariant.done (row_of n with) d (row-below n with within (λ z. omega (arith, z, c.requires.few.0))) whole
    ∙ ap (λ s. missing s (get_or lists d [])) (row-having n with within d l (with-has set d))
    ∙ c.requires.entries.alone set d l
