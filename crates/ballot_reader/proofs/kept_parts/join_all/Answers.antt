use Rattle.std.proofs.Common.{◌+◌, ◌∙◌, length, refl, sym, subst, arith}
use Rattle.std.proofs.lemmas.Option.{slice_get_read}
use Rattle.ballot_reader.specs.Parts.{IsJoined}
use Rattle.ballot_ids.specs.declared.noted.Noted.{Noted}
use Rattle.ballot_ids.proofs.IdBytes.{got}
use Rattle.ballot_reader.proofs.PutBehind.{SoFarTogether, together-all, together-more, together-none}
use Rattle.ballot_reader.proofs.kept_parts.join_all.Goals as goal

pub loop-place-init : goal.loop-place-init
loop-place-init c = together-none IsJoined c.args.sets.now.items c.args.others.now

pub join_at-requires-clause-within : goal.join_at-requires-clause-within
join_at-requires-clause-within c = omega (arith, c.loop-place.invariant.same, c.requires.each, c.loop-place-test.true)

pub join_at-requires-clause-apart : goal.join_at-requires-clause-apart
join_at-requires-clause-apart c = λ own there.
    let others = c.args.others.now in
    let place = c.loop-place.place in
    let other = c.index-others-place.result in
    c.requires.apart place own other (sym (c.loop-place.invariant.left place (omega arith)) ∙ there)
    (slice_get_read others (length others) place other refl c.loop-place-test.true c.index-others-place.is)

pub loop-place-preserved : goal.loop-place-preserved
loop-place-preserved c =
    let own = c.args.sets.now.items in
    let others = c.args.others.now in
    let place = c.loop-place.place in
    let other = c.index-others-place.result in
    let (before, stood) = got own place (omega (arith, c.requires.each, c.loop-place-test.true)) in
    let there = slice_get_read others (length others) place other refl c.loop-place-test.true c.index-others-place.is in
    let (both, put, joined) = c.in_ok-join_at.ensures before (c.loop-place.invariant.left place (omega arith) ∙ stood) in
    subst (λ all. SoFarTogether Noted IsJoined own others all (place + 1)) (sym put)
    (together-more IsJoined own others c.loop-place.sets.items place before other both c.loop-place.invariant stood there joined)

pub returns : goal.returns
returns c = together-all IsJoined c.args.sets.now.items c.args.others.now c.loop-place.sets.items c.loop-place.place c.loop-place.invariant
    (omega (arith, c.requires.each, c.loop-place-test.false))
