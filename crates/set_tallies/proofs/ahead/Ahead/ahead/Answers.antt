use Rattle.std.proofs.Common.{◌≡◌, ◌<◌, [], length, get_or, sym, ap, ap₂, arith, ◌∙◌}
use Rattle.std.proofs.lemmas.List.{length-map}
use Rattle.set_tallies.proofs.Filled.{at-place, cell}
use Rattle.set_tallies.proofs.ahead.Ahead.ahead.Goals as goal

pub index-requires-4 : goal.index-requires-4
index-requires-4 c =
    let n = ap (λ a. a.n) c.self.view_is in
    let within : c.index.result < length c.self.inside.ahead.items =
    omega (arith, c.index.ensures.same, c.requires.loser, n, c.self.invariant.table.wide, length-map c.self.inside.ahead.items (λ v. v.items)) in
    let long : length c.index-2.result.now.items ≡ c.self.inside.n =
    at-place (λ row. length row ≡ c.self.inside.n) (λ v. v.items) c.self.inside.ahead.items c.index.result c.index-2.result.now within c.self.invariant.table.square
    c.index-2.ensures in
    omega (arith, long, n, c.index-3.ensures.same, c.requires.winner)

pub returns : goal.returns
returns c = λ records h.
    let n = ap (λ a. a.n) c.self.view_is in
    let within : c.index.result < length c.self.inside.ahead.items =
    omega (arith, c.index.ensures.same, c.requires.loser, n, c.self.invariant.table.wide, length-map c.self.inside.ahead.items (λ v. v.items)) in
    let long : length c.index-2.result.now.items ≡ c.self.inside.n =
    at-place (λ row. length row ≡ c.self.inside.n) (λ v. v.items) c.self.inside.ahead.items c.index.result c.index-2.result.now within c.self.invariant.table.square
    c.index-2.ensures in
    sym (cell (λ v. v.items) c.self.inside.ahead.items c.index.result c.index-3.result c.index-4.result.now c.index-2.result.now within c.index-2.ensures
    (omega (arith, long, n, c.index-3.ensures.same, c.requires.winner)) c.index-4.ensures)
    ∙ ap (λ a. get_or (get_or a.ahead c.index.result []) c.index-3.result 0) c.self.view_is
    ∙ ap₂ (λ i j. get_or (get_or c.args.self.now.ahead i []) j 0) c.index.ensures.same c.index-3.ensures.same
    ∙ h.ahead c.args.l c.args.w c.requires.loser c.requires.winner
