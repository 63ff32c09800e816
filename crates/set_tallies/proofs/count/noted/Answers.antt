use Rattle.std.proofs.Common.{◌≡◌, ◌+◌, ◌<◌, length, map, take, drop, sym, ap, subst, arith, ◌∙◌}
use Rattle.std.specs.Prelude.{All}
use Rattle.std.proofs.lemmas.List.{take_all, take_at, length-map}
use Rattle.std.proofs.lemmas.Option.{get_or_from_slice_get, slice_get_within}
use Rattle.irv_base.proofs.Between.{all-at}
use Rattle.set_tallies.specs.Befores.{HasNoted, AllCounted}
use Rattle.set_tallies.proofs.Noted.{one-counted}
use Rattle.set_tallies.proofs.count.noted.Goals as goal

pub note-requires-clause-below : goal.note-requires-clause-below
note-requires-clause-below c = all-at (All (λ d. d < c.args.n)) c.args.rankings.now c.loop-i.i c.at.result.now c.at.ensures.there c.requires.below

pub loop-i-preserved : goal.loop-i-preserved
loop-i-preserved c =
    let n = c.args.n in
    let i = c.loop-i.i in
    let was = c.loop-i.noted in
    let new = c.note.new.lists in
    let old = map (λ v. v.items) was.items in
    let noted : HasNoted n c.at.result.now old (map (λ v. v.items) new) =
    subst (λ vs. HasNoted n c.at.result.now (map (λ v. v.items) vs) (map (λ v. v.items) new)) c.deref_mut.ensures.value c.in_ok-note.ensures in
    let each : length old ≡ n = length-map was.items (λ v. v.items) ∙ c.loop-i.invariant.each in
    let wide : length new ≡ n = sym (length-map new (λ v. v.items)) ∙ noted.each ∙ each in
    let written = take_at new (drop (length new) was.items) was.len (wide ∙ sym c.loop-i.invariant.each ∙ sym was.ok.0) in
    record {
      each = ap length written ∙ wide;
      counted = subst (λ vs. AllCounted (map (λ v. v.items) vs) (take (i + 1) c.args.rankings.now)) (sym written)
          (one-counted n old (map (λ v. v.items) new) c.args.rankings.now i c.at.result.now each
          (slice_get_within c.args.rankings.now i c.at.result.now c.at.ensures.there)
          (sym (get_or_from_slice_get c.args.rankings.now i c.at.result.now c.at.result.now c.at.ensures.there)) noted c.loop-i.invariant.counted);
    }

pub returns-clause-counted : goal.returns-clause-counted
returns-clause-counted c =
    subst (AllCounted (map (λ v. v.items) c.loop-i.noted.items)) (take_all c.loop-i.i c.args.rankings.now
    (omega (arith, c.loop-i-test.false, c.len-i-end.ensures))) c.loop-i.invariant.counted
