-- The race is over the pieces of the tabulated winner, and its result gives the rest.
use Rattle.std.proofs.Common.{◌≡◌, All, Contains, true, Some, slice_get, map, length, refl, sym, ap, subst, arith, ◌∙◌}
use Rattle.std.proofs.lemmas.List.Elements.{All-same}
use Rattle.std.proofs.lemmas.Option.{slice_get_within, get_or_from_slice_get}
use Rattle.irv_base.specs.Candidates.{candidates, is_in}
use Rattle.irv_base.proofs.Members.{in-from_member, member-map}
use Rattle.suffix_tree.specs.Suffixes.{Suffix}
use Rattle.bound_search.specs.Reached.{IsCostly}
use Rattle.bound_search.specs.Raced.{IsRaced}
use Rattle.bound_search.specs.declared.ends.PieceEnd.{PieceEnd}
use Rattle.bound_search.proofs.Cutting.{tail_facts}
use Rattle.bound_search.proofs.Raced.{closed_where, costly_where, spent_where, elected_below, some_pieces, of_contest, joined_reached, taken_entry, best_race, pieces_race, within_race, named_race, told_race, spent_race}
use Rattle.bound_search.proofs.search.race.Goals as goal
use Rattle.bound_search.proofs.search.race.Goals.{In_ok-raced}

-- the result of the race, over the tails on which it ran
raced-is : (g : _) (c : In_ok-raced g) → IsRaced c.args.counted.now.bag c.args.nodes c.in_ok-first.field-0.tails.items c.args.workers
    c.in_ok-first.field-0.first c.in_ok-raced.field-0.raced
raced-is g c =
    subst (λ ts. IsRaced c.args.counted.now.bag c.args.nodes ts c.args.workers c.in_ok-first.field-0.first c.in_ok-raced.field-0.raced) c.deref.ensures.value
    c.in_ok-raced.ensures.raced

pub run_race-requires-clause-some : goal.run_race-requires-clause-some
run_race-requires-clause-some g c κs within =
    let bag = c.args.counted.now.bag in
    let winner = c.args.tab.now.winner in
    let first = c.in_ok-first.field-0.first in
    let tails = c.in_ok-first.field-0.tails.items in
    let start = c.in_ok-first.ensures.start in
    let some = some_pieces bag winner first tails start.two start.reached start.tails in
    omega (arith, some, ap length c.deref.ensures.value)

pub run_race-requires-clause-contest : goal.run_race-requires-clause-contest
run_race-requires-clause-contest g c κs within =
    let bag = c.args.counted.now.bag in
    let winner = c.args.tab.now.winner in
    let first = c.in_ok-first.field-0.first in
    let tails = c.in_ok-first.field-0.tails.items in
    let start = c.in_ok-first.ensures.start in
    All-same (λ (t : Suffix). t.n ≡ bag.n) c.deref.result.now tails c.deref.ensures.value (of_contest bag winner tails start.tails)

pub index-requires : goal.index-requires
index-requires g c =
    let bag = c.args.counted.now.bag in
    let winner = c.args.tab.now.winner in
    let first = c.in_ok-first.field-0.first in
    let tails = c.in_ok-first.field-0.tails.items in
    let start = c.in_ok-first.ensures.start in
    let r = c.in_ok-raced.field-0.raced in
    let raced = raced-is g (goal.at.index-requires g c).In_ok-raced in
    let costly = costly_where bag c.args.nodes tails c.args.workers first r raced c.in-Some.piece c.in-Some.is in
    let inside = slice_get_within tails c.in-Some.piece costly.0 costly.1 in
    omega (arith, inside, c.in_ok-first.field-0.tails.ok)

pub spent_on-requires : goal.spent_on-requires
spent_on-requires g c =
    let bag = c.args.counted.now.bag in
    let winner = c.args.tab.now.winner in
    let first = c.in_ok-first.field-0.first in
    let tails = c.in_ok-first.field-0.tails.items in
    let start = c.in_ok-first.ensures.start in
    let r = c.in_ok-raced.field-0.raced in
    let raced = raced-is g (goal.at.spent_on-requires g c).In_ok-raced in
    let costly = costly_where bag c.args.nodes tails c.args.workers first r raced c.in-Some.piece c.in-Some.is in
    let at' = subst (λ ts. slice_get ts c.in-Some.piece ≡ Some costly.0) start.tails costly.1 in
    let got : c.index.result.now ≡ costly.0 = c.index.ensures ∙ get_or_from_slice_get tails c.in-Some.piece costly.0 c.index.result.now costly.1 in
    ap (λ (t : Suffix). length t.list) got ∙ ap length (tail_facts bag.n winner c.in-Some.piece costly.0 at').1.is

pub returns-in-Some-clause-spent : goal.returns-in-Some-clause-spent
returns-in-Some-clause-spent g c =
    let bag = c.args.counted.now.bag in
    let winner = c.args.tab.now.winner in
    let first = c.in_ok-first.field-0.first in
    let tails = c.in_ok-first.field-0.tails.items in
    let start = c.in_ok-first.ensures.start in
    let r = c.in_ok-raced.field-0.raced in
    let raced = raced-is g (goal.at.returns-in-Some-clause-spent g c).In_ok-raced in
    let costly = costly_where bag c.args.nodes tails c.args.workers first r raced c.in-Some.piece c.in-Some.is in
    let at' = subst (λ ts. slice_get ts c.in-Some.piece ≡ Some costly.0) start.tails costly.1 in
    let got : c.index.result.now ≡ costly.0 = c.index.ensures ∙ get_or_from_slice_get tails c.in-Some.piece costly.0 c.index.result.now costly.1 in
    spent_race bag c.args.nodes winner c.in-Some.piece first.margin c.args.tab.now costly.0 r.best _ refl
    (joined_reached bag winner first r.best tails start.tails start.reached raced.best)
    (spent_where bag c.args.nodes tails c.args.workers first r raced c.in-Some.piece c.in-Some.is).0
    (λ records of. (start.first records of, raced.upper))
    at' (subst (λ ts. IsCostly bag first.margin c.args.nodes ts c.in-Some.piece) start.tails costly)
    (λ last other is. c.spent_on.ensures other last (ap (λ (t : Suffix). t.list) got ∙ is))

pub in_order-requires : goal.in_order-requires
in_order-requires g c p within =
    let bag = c.args.counted.now.bag in
    let winner = c.args.tab.now.winner in
    let first = c.in_ok-first.field-0.first in
    let tails = c.in_ok-first.field-0.tails.items in
    let start = c.in_ok-first.ensures.start in
    let r = c.in_ok-raced.field-0.raced in
    let raced = raced-is g (goal.at.in_order-requires g c).In_ok-raced in
    let (e, m, number) = taken_entry bag c.args.nodes winner c.args.workers tails first r start.tails start.two raced p
    (omega (arith, within, c.len.ensures, c.in_ok-first.field-0.tails.ok)) in
    subst (λ k. is_in (map (λ (x : PieceEnd). x.piece) c.deref-2.result.now) k ≡ true) number
    (subst (λ es. is_in (map (λ (x : PieceEnd). x.piece) es) e.piece ≡ true) (sym c.deref-2.ensures.value)
    (in-from_member (member-map (λ (x : PieceEnd). x.piece) m)))

pub returns-clause-best : goal.returns-clause-best
returns-clause-best g c =
    let bag = c.args.counted.now.bag in
    let winner = c.args.tab.now.winner in
    let first = c.in_ok-first.field-0.first in
    let tails = c.in_ok-first.field-0.tails.items in
    let start = c.in_ok-first.ensures.start in
    let r = c.in_ok-raced.field-0.raced in
    let raced = raced-is g (goal.at.returns-clause-best g c).In_ok-raced in
    let closed = closed_where bag c.args.nodes tails c.args.workers first r raced c.in_default.is in
    best_race bag c.args.nodes winner c.args.workers tails first r start.tails start.two raced closed _ refl refl
    (elected_below bag.n winner c.args.tab.now.order c.requires.order c.requires.winner)
    (joined_reached bag winner first r.best tails start.tails start.reached raced.best)

pub returns-clause-within : goal.returns-clause-within
returns-clause-within g c =
    let bag = c.args.counted.now.bag in
    let winner = c.args.tab.now.winner in
    let first = c.in_ok-first.field-0.first in
    let tails = c.in_ok-first.field-0.tails.items in
    let start = c.in_ok-first.ensures.start in
    let r = c.in_ok-raced.field-0.raced in
    let raced = raced-is g (goal.at.returns-clause-within g c).In_ok-raced in
    let each = subst (λ es. All (Contains es) c.in_ok-pieces.pieces.items) c.deref-2.ensures.value c.in_ok-pieces.ensures.each in
    within_race bag c.args.nodes winner c.args.workers tails first r start.tails start.two raced c.in_ok-pieces.pieces.items each

pub returns-clause-pieces : goal.returns-clause-pieces
returns-clause-pieces g c =
    let bag = c.args.counted.now.bag in
    let winner = c.args.tab.now.winner in
    let first = c.in_ok-first.field-0.first in
    let tails = c.in_ok-first.field-0.tails.items in
    let start = c.in_ok-first.ensures.start in
    let r = c.in_ok-raced.field-0.raced in
    let raced = raced-is g (goal.at.returns-clause-pieces g c).In_ok-raced in
    let closed = closed_where bag c.args.nodes tails c.args.workers first r raced c.in_default.is in
    let each = subst (λ es. All (Contains es) c.in_ok-pieces.pieces.items) c.deref-2.ensures.value c.in_ok-pieces.ensures.each in
    let sizes : c.len.result ≡ length tails = omega (arith, c.len.ensures, c.in_ok-first.field-0.tails.ok) in
    pieces_race bag c.args.nodes winner c.args.workers tails first r start.tails start.two raced closed c.args.tab.now _ refl refl
    (c.in_ok-pieces.ensures.numbers ∙ ap candidates sizes) each
    start.first

pub returns-clause-named : goal.returns-clause-named
returns-clause-named g c =
    let bag = c.args.counted.now.bag in
    let winner = c.args.tab.now.winner in
    let first = c.in_ok-first.field-0.first in
    let tails = c.in_ok-first.field-0.tails.items in
    let start = c.in_ok-first.ensures.start in
    let r = c.in_ok-raced.field-0.raced in
    let raced = raced-is g (goal.at.returns-clause-named g c).In_ok-raced in
    let each = subst (λ es. All (Contains es) c.in_ok-pieces.pieces.items) c.deref-2.ensures.value c.in_ok-pieces.ensures.each in
    named_race bag c.args.nodes winner c.args.workers tails first r start.tails start.two raced c.in_ok-pieces.pieces.items each

pub returns-clause-told : goal.returns-clause-told
returns-clause-told g c =
    let bag = c.args.counted.now.bag in
    let winner = c.args.tab.now.winner in
    let first = c.in_ok-first.field-0.first in
    let tails = c.in_ok-first.field-0.tails.items in
    let start = c.in_ok-first.ensures.start in
    let r = c.in_ok-raced.field-0.raced in
    let raced = raced-is g (goal.at.returns-clause-told g c).In_ok-raced in
    let each = subst (λ es. All (Contains es) c.in_ok-pieces.pieces.items) c.deref-2.ensures.value c.in_ok-pieces.ensures.each in
    let sizes : c.len.result ≡ length tails = omega (arith, c.len.ensures, c.in_ok-first.field-0.tails.ok) in
    told_race bag c.args.nodes winner c.args.workers tails first r start.tails start.two raced c.in_ok-pieces.pieces.items (c.in_ok-pieces.ensures.numbers
    ∙ ap candidates sizes) each
