use Rattle.race_core.proofs.Fields.{start_shown}
use Rattle.race_core.proofs.Sound.{start_sound}
use Rattle.race_core.proofs.state.State.start.Goals as goal

pub invariant_of-result : goal.invariant_of-result
invariant_of-result c =
    let entries = c.in_ok-entries.ensures.items_if_clones_equal (λ y same. same) in
    let closings = c.in_ok-closings.ensures.items_if_clones_equal (λ y same. same) in
    rw (c.in_ok-pieces.ensures, closings, entries, c.least_of.ensures) (start_sound c.args.values.now _ c.args.workers c.requires.some c.requires.few)

pub returns : goal.returns
returns c =
    let entries = c.in_ok-entries.ensures.items_if_clones_equal (λ y same. same) in
    rw (c.in_ok-pieces.ensures, entries) (start_shown c.args.values.now c.args.first c.args.workers)
