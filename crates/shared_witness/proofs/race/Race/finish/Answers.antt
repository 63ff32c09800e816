use Rattle.std.proofs.Common.{◌≤◌, min, ℕ, subst, sym, ap, ◌∙◌}
use Rattle.std.specs.Vec.Iter.{into_iter_items}
use Rattle.atomic_table.specs.Table.{Me}
use Rattle.shared_witness.specs.declared.view.View.{View}
use Rattle.shared_witness.specs.Moment.{EachOnce, taken_pieces, least_posted}
use Rattle.shared_witness.specs.Race.{Seated, SharedRace, views_of}
use Rattle.shared_witness.proofs.Keeps.{share}
use Rattle.shared_witness.proofs.Ends.{seats_posted, seats_taken, seats_seen, seats_ended, seats_share}
use Rattle.shared_witness.proofs.race.Race.finish.Goals as goal

pub last_bound-requires-clause-share : goal.last_bound-requires-clause-share
last_bound-requires-clause-share c =
    let whole = sym c.into_iter-rest.ensures.rest ∙ c.in-Some.ensures.items in
    let is = ap (λ (s : Seated). s.view) c.first.view_is in
    let all = seats_share c.args.seats.items c.in-Some.first (into_iter_items c.next.new.self) c.first.inside.seat.me.0 whole is c.first.invariant.0
    c.join_seats.ensures.shares in
    ap (λ (me : Me ℕ View). share me.0) c.join_seats.ensures.view ∙ all ∙ c.requires.each ∙ ap (λ (r : SharedRace). r.terms.workers) (sym c.self.view_is)

pub returns-clause-bound : goal.returns-clause-bound
returns-clause-bound c =
    let whole = sym c.into_iter-rest.ensures.rest ∙ c.in-Some.ensures.items in
    let is = ap (λ (s : Seated). s.view) c.first.view_is in
    let first = c.self.inside.words.shared.key.first in
    let posted = seats_posted c.args.seats.items c.in-Some.first (into_iter_items c.next.new.self) c.first.inside.seat.me.0 whole is first in
    c.last_bound.ensures.bound ∙ ap (λ (me : Me ℕ View). min first me.0.posted) c.join_seats.ensures.view ∙ posted
    ∙ ap (λ (r : SharedRace). least_posted r.terms.first (views_of c.args.seats.items)) c.self.view_is

pub returns-clause-seen : goal.returns-clause-seen
returns-clause-seen c =
    let whole = sym c.into_iter-rest.ensures.rest ∙ c.in-Some.ensures.items in
    let is = ap (λ (s : Seated). s.view) c.first.view_is in
    seats_seen c.args.seats.items c.in-Some.first (into_iter_items c.next.new.self) c.first.inside.seat.me.0 whole is c.last_bound.result
    (subst (λ (me : Me ℕ View). c.last_bound.result ≤ me.0.seen) c.join_seats.ensures.view c.last_bound.ensures.seen)

pub returns-clause-taken : goal.returns-clause-taken
returns-clause-taken c done =
    let whole = sym c.into_iter-rest.ensures.rest ∙ c.in-Some.ensures.items in
    let is = ap (λ (s : Seated). s.view) c.first.view_is in
    let seats = c.args.seats.items in
    let rest = into_iter_items c.next.new.self in
    let v = c.first.inside.seat.me.0 in
    let pieces = c.self.inside.words.shared.key.pieces in
    let ended = subst (λ (me : Me ℕ View). 1 ≤ me.0.ends) (sym c.join_seats.ensures.view) (seats_ended seats c.in-Some.first rest v whole is done) in
    let taken = c.last_bound.ensures.taken ended in
    let same = ap (λ (me : Me ℕ View). me.0.taken) c.join_seats.ensures.view ∙ seats_taken seats c.in-Some.first rest v whole is in
    subst (λ (r : SharedRace). EachOnce r.terms.pieces (taken_pieces (views_of seats))) c.self.view_is (subst (EachOnce pieces) same taken)
