-- Each worker ran, and the seats and the bound at the end give the rest about the joined ends.
use Rattle.std.proofs.Common.{◌≡◌, ◌≤◌, List, All, map, replicate, length, refl, sym, ap, subst, arith, ◌∙◌}
use Rattle.std.proofs.lemmas.List.{length-map, length-replicate}
use Rattle.std.proofs.lemmas.List.Elements.{All-map, All-replicate, All-same}
use Rattle.shared_witness.specs.declared.view.Terms.{Terms}
use Rattle.shared_witness.specs.View.{highest}
use Rattle.shared_witness.specs.Race.{Seated, SharedRace, new_seat}
use Rattle.bound_search.specs.Team.{waiting, WorkerWaits, HasFewEnds, IsJoined, TeamRan}
use Rattle.bound_search.specs.declared.run.Raced.{Raced}
use Rattle.bound_search.specs.declared.team.Worker.{Worker}
use Rattle.bound_search.proofs.Raced.{whole_team, few_of_all, is_raced}
use Rattle.bound_search.proofs.run.run_once.Goals as goal
use Rattle.bound_search.proofs.run.run_once.Goals.{In_ok-seats}

pub run_team-requires-clause-cut : goal.run_team-requires-clause-cut
run_team-requires-clause-cut g c κs within = record {
  contest = c.requires.contest;
  one_each = ap (λ (t : Terms). t.pieces) c.in_ok-race.ensures.terms;
  few = c.requires.few;
}

pub run_team-requires-clause-waits : goal.run_team-requires-clause-waits
run_team-requires-clause-waits g c κs within =
    let race : SharedRace = c.in_ok-race.field-0.race in
    let made : c.in_ok-team.team.items ≡ map waiting (replicate c.args.workers (new_seat race)) = c.in_ok-team.ensures
    ∙ ap (λ (ss : List Seated). map waiting ss) c.in_ok-race.ensures.seats in
    let each : All (λ (s : Seated). WorkerWaits race (waiting s)) (replicate c.args.workers (new_seat race)) =
    All-replicate (λ (s : Seated). WorkerWaits race (waiting s)) c.args.workers (new_seat race) refl in
    All-same (WorkerWaits race) _ _ (c.as_mut_slice.ensures.value ∙ made) (All-map (WorkerWaits race) waiting (replicate c.args.workers (new_seat race)) each)

pub join-requires : goal.join-requires
join-requires g c =
    let bag = c.args.counted.now.bag in
    let race : SharedRace = c.in_ok-race.field-0.race in
    let team = c.run_team.new.team in
    let whole = whole_team c.in_ok-team.team.len team _ (c.run_team.ensures.len ∙ c.as_mut_slice.ensures.len) in
    record { few = All-same HasFewEnds _ _ whole (few_of_all bag c.args.nodes c.args.tails.now race team c.requires.few c.run_team.ensures.ran) }

joined-is : (g : _) (c : In_ok-seats g) → IsJoined c.args.counted.now.bag c.args.nodes c.args.tails.now c.in_ok-race.field-0.race c.args.first.now
    c.in_ok-seats.field-0
joined-is g c =
    let bag = c.args.counted.now.bag in
    let race : SharedRace = c.in_ok-race.field-0.race in
    let whole = whole_team c.in_ok-team.team.len c.run_team.new.team _ (c.run_team.ensures.len ∙ c.as_mut_slice.ensures.len) in
    c.in_ok-seats.ensures.joined bag c.args.nodes c.args.tails.now race
    (subst (TeamRan bag c.args.nodes c.args.tails.now race) (sym whole) c.run_team.ensures.ran)

pub finish-requires-clause-race : goal.finish-requires-clause-race
finish-requires-clause-race g c = (joined-is g (goal.at.finish-requires-clause-race g c).In_ok-seats).of_race

pub returns : goal.returns
returns g c =
    let bag = c.args.counted.now.bag in
    let race : SharedRace = c.in_ok-race.field-0.race in
    let team = c.run_team.new.team in
    let j = c.in_ok-seats.field-0 in
    let whole = whole_team c.in_ok-team.team.len team _ (c.run_team.ensures.len ∙ c.as_mut_slice.ensures.len) in
    let joined = joined-is g (goal.at.returns g c).In_ok-seats in
    let made : c.in_ok-team.team.items ≡ map waiting (replicate c.args.workers (new_seat race)) = c.in_ok-team.ensures
    ∙ ap (λ (ss : List Seated). map waiting ss) c.in_ok-race.ensures.seats in
    let all = ap length made ∙ length-map (replicate c.args.workers (new_seat race)) waiting ∙ length-replicate c.args.workers (new_seat race) in
    let seats = ap length c.in_ok-seats.ensures.seats ∙ length-map _ (λ (w : Worker). w.seat) ∙ ap length whole in
    let first_is : race.terms.first ≡ c.args.first.now.margin = ap (λ (t : Terms). t.first) c.in_ok-race.ensures.terms in
    let key = ap (λ (r : SharedRace). r.terms.first) c.race.view_is in
    let fits : c.args.first.now.margin ≤ highest = omega (arith, c.race.invariant.fits.1, key, first_is) in
    is_raced bag c.args.nodes c.args.workers c.finish.result c.args.tails.now race c.args.first.now j _ joined first_is
    (ap (λ (t : Terms). t.pieces) c.in_ok-race.ensures.terms) fits
    (omega (arith, seats, c.run_team.ensures.len, ap length c.as_mut_slice.ensures.value, all)) c.finish.ensures.bound c.finish.ensures.seen
    (c.finish.ensures.taken joined.done)
    (ap (λ s. let r : Raced = record { ends = j.ends; reports = j.reports; best = j.best; spent = s } in r) c.spent_above-spent.ensures)
