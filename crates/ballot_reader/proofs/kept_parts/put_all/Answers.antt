use Rattle.std.proofs.Common.{◌+◌, ◌∙◌, length, refl, sym, subst, arith}
use Rattle.std.specs.Prelude.{Option}
use Rattle.std.proofs.lemmas.Option.{slice_get_read}
use Rattle.ballot_reader.specs.Kept.{KeptPart}
use Rattle.ballot_reader.specs.Parts.{IsPutBehind, part_behind}
use Rattle.ballot_ids.proofs.IdBytes.{got}
use Rattle.ballot_reader.proofs.PutBehind.{SoFarTogether, together-all, together-more, together-none}
use Rattle.ballot_reader.proofs.kept_parts.put_all.Goals as goal

pub loop-place-init : goal.loop-place-init
loop-place-init c = together-none IsPutBehind c.args.parts.now.items c.args.others.now

pub put_at-requires-clause-within : goal.put_at-requires-clause-within
put_at-requires-clause-within c = omega (arith, c.loop-place.invariant.same, c.requires.each, c.loop-place-test.true)

pub put_at-requires-clause-alike : goal.put_at-requires-clause-alike
put_at-requires-clause-alike c = λ before there.
    let others = c.args.others.now in
    let place = c.loop-place.place in
    let other = c.index-others-place.result in
    c.requires.alike place before other (sym (c.loop-place.invariant.left place (omega arith)) ∙ there)
    (slice_get_read others (length others) place other refl c.loop-place-test.true c.index-others-place.is)

pub loop-place-preserved : goal.loop-place-preserved
loop-place-preserved c =
    let own = c.args.parts.now.items in
    let others = c.args.others.now in
    let place = c.loop-place.place in
    let other = c.index-others-place.result in
    let (before, stood) = got own place (omega (arith, c.requires.each, c.loop-place-test.true)) in
    let there = slice_get_read others (length others) place other refl c.loop-place-test.true c.index-others-place.is in
    let put = c.in_ok-put_at.ensures before (c.loop-place.invariant.left place (omega arith) ∙ stood) in
    subst (λ all. SoFarTogether (Option KeptPart) IsPutBehind own others all (place + 1)) (sym put)
    (together-more IsPutBehind own others c.loop-place.parts.items place before other (part_behind other before) c.loop-place.invariant stood there refl)

pub returns : goal.returns
returns c = together-all IsPutBehind c.args.parts.now.items c.args.others.now c.loop-place.parts.items c.loop-place.place c.loop-place.invariant
    (omega (arith, c.requires.each, c.loop-place-test.false))
