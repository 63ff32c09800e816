use Rattle.std.proofs.Common.{◌∙◌, length, refl, sym, ap, subst, arith, inl, inr}
use Rattle.std.specs.List.{slice_get}
use Rattle.std.proofs.lemmas.Bool.{cases_eq, false≢true}
use Rattle.std.proofs.lemmas.Option.{slice_get_read, slice_get_within}
use Rattle.ballot_ids.specs.Joined.{ArePagesApart}
use Rattle.ballot_reader.proofs.Adding.{same_at}
use Rattle.ballot_reader.proofs.kept_parts.are_apart.Goals as goal

pub loop-place-preserved : goal.loop-place-preserved
loop-place-preserved c = λ k met more less stood there.
    let sets = c.args.sets.now in
    let others = c.args.others.now in
    let place = c.loop-place.place in
    let own = c.index-sets-place.result in
    let its = c.index-others-place.result in
    let own-at = slice_get_read sets (length sets) place own refl c.loop-place-test.true c.index-sets-place.is in
    let its-at = slice_get_read others (length others) place its refl (omega (arith, c.requires, c.loop-place-test.true)) c.index-others-place.is in
    elim (cases_eq k place) [
      | inl here ↦
          let first = same_at sets place own met own-at (ap (slice_get sets) (sym here) ∙ stood) in
          let second = same_at others place its more its-at (ap (slice_get others) (sym here) ∙ there) in
          subst (λ x. ArePagesApart x more) first (subst (ArePagesApart own) second (c.are_apart.ensures.0 c.if-not-are_apart.false))
      | inr away ↦ c.loop-place.invariant k met more (omega (arith, less, away)) stood there
    ]

pub returns-then-not-are_apart : goal.returns-then-not-are_apart
returns-then-not-are_apart c =
    let sets = c.args.sets.now in
    let others = c.args.others.now in
    let place = c.loop-place.place in
    let own = c.index-sets-place.result in
    let its = c.index-others-place.result in
    let own-at = slice_get_read sets (length sets) place own refl c.loop-place-test.true c.index-sets-place.is in
    let its-at = slice_get_read others (length others) place its refl (omega (arith, c.requires, c.loop-place-test.true)) c.index-others-place.is in
    (λ e. absurd (false≢true e), λ apart. absurd (false≢true (sym c.if-not-are_apart.true ∙ c.are_apart.ensures.1 (apart place own its own-at its-at))))

pub returns : goal.returns
returns c = (
  λ e place met more stood there. c.loop-place.invariant place met more
      (omega (arith, c.loop-place-test.false, slice_get_within c.args.sets.now place met stood)) stood there,
  λ apart. refl,
)
