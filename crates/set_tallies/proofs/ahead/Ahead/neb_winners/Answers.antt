use Rattle.std.proofs.Common.{◌≡◌, ◌<◌, [], length, map, get_or, All, sym, ap, subst, arith, ◌∙◌}
use Rattle.std.proofs.lemmas.List.{length-map}
use Rattle.set_tallies.specs.Bags.{Counts, winners_in}
use Rattle.set_tallies.proofs.Winners.{winners-at, winners-below, winners-of}
use Rattle.set_tallies.proofs.ahead.Ahead.neb_winners.Goals as goal

pub index-requires-2 : goal.index-requires-2
index-requires-2 c =
    let n = ap (λ a. a.n) c.self.view_is in
    let own = c.self.inside in
    omega (
      arith,
      c.index.ensures.same,
      c.requires,
      n,
      c.self.invariant.table.wide,
      length-map own.neb_winners.items (λ v. v.items),
      ap length c.self.invariant.each,
      length-map (map (λ v. v.items) own.ahead.items) (winners_in own.firsts.items),
    )

pub returns : goal.returns
returns c =
    let n = ap (λ a. a.n) c.self.view_is in
    let own = c.self.inside in
    let inside : c.index.result < length (map (λ v. v.items) c.self.inside.ahead.items) =
    omega (arith, c.index.ensures.same, c.requires, n, c.self.invariant.table.wide) in
    let within : c.index.result < length c.self.inside.neb_winners.items =
    omega (
      arith,
      inside,
      length-map own.neb_winners.items (λ v. v.items),
      ap length c.self.invariant.each,
      length-map (map (λ v. v.items) own.ahead.items) (winners_in own.firsts.items),
    ) in
    let value = c.deref.ensures.value
    ∙ winners-at (λ v. v.items) own.neb_winners.items own.firsts.items (map (λ v. v.items) own.ahead.items) c.index.result c.index-2.result.now
    c.self.invariant.each within inside c.index-2.ensures in
    record {
      below = subst (All (λ w. w < c.args.self.now.n)) (sym value)
          (winners-below c.args.self.now.n own.firsts.items (get_or (map (λ v. v.items) own.ahead.items) c.index.result []) (c.self.invariant.table.long ∙ n));
      winners = λ records h.
          value
          ∙ ap (λ (a : Counts). winners_in a.firsts (get_or a.ahead c.index.result [])) c.self.view_is
          ∙ ap (λ i. winners_in c.args.self.now.firsts (get_or c.args.self.now.ahead i [])) c.index.ensures.same
          ∙ winners-of c.args.self.now records c.args.l (subst (λ (a : Counts). length a.firsts ≡ a.n) c.self.view_is c.self.invariant.table.long) h c.requires;
    }
