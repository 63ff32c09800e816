use Rattle.std.proofs.Common.{◌≡◌, ℕ, List, Result, Ok, Err, Vec, Global, refl, sym, ap, subst, ◌∙◌}
use Rattle.std.specs.Result.{IfOk}
use Rattle.assertions.specs.declared.assertion.Claim.{Claim}
use Rattle.set_tallies.specs.Bags.{IsOf}
use Rattle.fewest.specs.Flows.{IsFlow}
use Rattle.fewest.specs.Growth.{IsStuck}
use Rattle.set_walk.specs.Dives.{is_seen}
use Rattle.set_flow.specs.Kept.{carried}
use Rattle.set_flow.specs.Rooms.{AreRooms, room_of}
use Rattle.set_flow.specs.declared.room.Room.{Room}
use Rattle.nen_cut.specs.declared.by_tallies.ByTallies.{ByTallies}
use Rattle.nen_cut.specs.Cut.{AreCutters, IsStepCutter, cut_steps}
use Rattle.nen_cut.proofs.Fewest.{has-fewest}
use Rattle.nen_cut.proofs.Nothing.{nothing-flows}
use Rattle.nen_cut.proofs.Zips.{zip-at}
use Rattle.nen_cut.proofs.least.cut_nens.Goals as goal

if_ok : {T E : Type 0} {P Q : T → Type 0} (r : Result T E) → ((x : T) → P x → Q x) → IfOk r P → IfOk r Q
if_ok (Ok x) f h = f x h
if_ok (Err e) f h = h

abbrev IsBy : (ℕ → ℕ → Room) → ByTallies → Type 0
IsBy rooms s = (records : List (List ℕ)) × IsOf s.tallies.bag records × (rooms ≡ room_of s.tallies.bag.n s.winner records s.least)

pub returns-clause-fewest : goal.returns-clause-fewest
returns-clause-fewest c = λ records of.
    let n = c.args.n in
    let s = c.args.steps.now in
    let keys = c.in_ok-seen.seen.sets.keys in
    let rooms = room_of s.tallies.bag.n s.winner records s.least in
    let are : AreRooms n s.winner records s.least rooms =
    record { each = λ set c' a b o. ap (λ k. room_of k s.winner records s.least set c') (sym c.requires.size) } in
    let none : IsFlow n s.winner records s.least (carried c.new-flow.result.kept) =
    nothing-flows n s.winner s.least records (carried c.new-flow.result.kept) c.new-flow.ensures in
    let filled = (c.in_ok-fill.ensures.flow s.winner s.least records rooms (records, of, refl) are none).flow in
    let by = subst (IsBy rooms) (sym c.fill.ensures.same) (records, of, refl) in
    let flows : IsFlow n s.winner records s.least (carried c.rise.new.flow.kept) =
    c.in_ok-seen.ensures.flow s.winner s.least records rooms by are filled in
    let stuck : IsStuck n s.winner records s.least (carried c.rise.new.flow.kept) (is_seen keys) =
    c.in_ok-seen.ensures.stuck s.winner s.least records rooms by are filled in
    let same = c.rise.ensures.same ∙ c.fill.ensures.same in
    let nens = subst (λ (s : ByTallies). IfOk c.nens_of.result (λ nens. AreCutters n records s.least (cut_steps n s.winner records s.least keys) nens.items)) same
    (c.nens_of.ensures.nens records (subst (λ (s : ByTallies). IsOf s.tallies.bag records) (sym same) of)) in
    if_ok c.nens_of.result
    (λ (nens : Vec Claim Global) (cutters : AreCutters n records s.least (cut_steps n s.winner records s.least keys) nens.items).
    has-fewest n s.winner s.least records (carried c.rise.new.flow.kept) keys nens.items c.requires.some c.in_ok-seen.ensures.linked.apart flows
    c.in_ok-seen.ensures.cut stuck cutters)
    nens

pub returns-clause-strongest : goal.returns-clause-strongest
returns-clause-strongest c = λ records of.
    let n = c.args.n in
    let s = c.args.steps.now in
    let keys = c.in_ok-seen.seen.sets.keys in
    let same = c.rise.ensures.same ∙ c.fill.ensures.same in
    let nens = subst (λ (s : ByTallies). IfOk c.nens_of.result (λ nens. AreCutters n records s.least (cut_steps n s.winner records s.least keys) nens.items)) same
    (c.nens_of.ensures.nens records (subst (λ (s : ByTallies). IsOf s.tallies.bag records) (sym same) of)) in
    if_ok c.nens_of.result
    (λ (nens : Vec Claim Global) (cutters : AreCutters n records s.least (cut_steps n s.winner records s.least keys) nens.items).
    λ k d l. zip-at (IsStepCutter n records s.least) (cut_steps n s.winner records s.least keys) nens.items k d cutters l)
    nens
