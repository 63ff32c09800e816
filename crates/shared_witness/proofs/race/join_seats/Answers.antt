use Rattle.std.proofs.Common.{◌≡◌, ◌+◌, ◌++◌, [], List, ap, sym, ◌∙◌, arith}
use Rattle.std.specs.List.{fold}
use Rattle.std.specs.Vec.Iter.{into_iter_items}
use Rattle.std.proofs.lemmas.List.{nil_from_length, append-nil}
use Rattle.std.proofs.lemmas.List.Elements.{All-same}
use Rattle.shared_witness.specs.declared.race.RaceSeat.{RaceSeat}
use Rattle.shared_witness.specs.View.{joined}
use Rattle.shared_witness.specs.Race.{views_of}
use Rattle.shared_witness.proofs.Lists.{All-middle}
use Rattle.shared_witness.proofs.race.join_seats.Goals as goal

pub join_to-requires-clause-race : goal.join_to-requires-clause-race
join_to-requires-clause-race c =
    let P = λ (s : RaceSeat). s.race ≡ c.args.words.now.shared.table_id in
    let whole = c.loop-seat.invariant.whole ∙ ap (λ rest. c.loop-seat.yielded ++ rest) c.in-Some.ensures.steps.0 in
    All-middle P c.loop-seat.yielded c.in-Some.seat (into_iter_items c.next.new.self) (All-same P _ _ (sym whole) c.requires.seats)

pub returns-clause-view : goal.returns-clause-view
returns-clause-view c =
    let none : into_iter_items c.loop-seat.seat-iterator ≡ [] =
    nil_from_length (into_iter_items c.loop-seat.seat-iterator) (omega (arith, c.in-None.ensures.steps.0)) in
    let all : into_iter_items c.args.seats ≡ c.loop-seat.yielded = c.loop-seat.invariant.whole ∙ ap (λ rest. c.loop-seat.yielded ++ rest) none
    ∙ append-nil c.loop-seat.yielded in
    c.loop-seat.invariant.view_is ∙ ap (λ (ss : List RaceSeat). (fold joined c.args.first.now.me.0 (views_of ss), c.args.first.now.me.1)) (sym all)

pub returns-clause-shares : goal.returns-clause-shares
returns-clause-shares c =
    let none : into_iter_items c.loop-seat.seat-iterator ≡ [] =
    nil_from_length (into_iter_items c.loop-seat.seat-iterator) (omega (arith, c.in-None.ensures.steps.0)) in
    let all : into_iter_items c.args.seats ≡ c.loop-seat.yielded = c.loop-seat.invariant.whole ∙ ap (λ rest. c.loop-seat.yielded ++ rest) none
    ∙ append-nil c.loop-seat.yielded in
    All-same (λ (s : RaceSeat). s.view.ends + s.view.may ≡ 1) _ _ all c.loop-seat.invariant.shares
