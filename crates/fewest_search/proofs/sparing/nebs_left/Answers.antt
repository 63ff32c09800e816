use Rattle.std.proofs.Common.{◌≡◌, Bool, ◌+◌, ◌-◌, ◌<◌, length, map, take, None, Ok, MatchBool, sym, ap, subst, arith, ◌∙◌}
use Rattle.std.proofs.lemmas.List.{append-nil}
use Rattle.assertions.specs.declared.assertion.Claim.{Claim}
use Rattle.set_walk.specs.Answers.{first_within}
use Rattle.set_walk.specs.Walks.{passes}
use Rattle.trimmer.specs.Remaining.{assertions_in as assertions_left}
use Rattle.trimmer.specs.Spreading.{AreReached}
use Rattle.nen_cut.specs.Floors.{assertions_in}
use Rattle.fewest_search.specs.Needed.{IsTooFew}
use Rattle.fewest_search.specs.Spared.{AreLeft}
use Rattle.fewest_search.proofs.Trials.{IsLeftAt, left-end, left-gone, left-start, left-stays, reached-with}
use Rattle.fewest_search.proofs.sparing.nebs_left.Goals as goal
use Rattle.fewest_search.proofs.sparing.nebs_left.Goals.{then-branch, else-branch+in_ok-left-2}

pub reached_with-requires-clause-covered : goal.reached_with-requires-clause-covered
reached_with-requires-clause-covered c =
    let claims = c.args.claims.now in
    let listed : assertions_left c.in_ok-left.left ≡ assertions_in claims =
    ap assertions_left c.in_ok-left.ensures ∙ ap (map (λ (claim : Claim). claim.assertion)) (append-nil claims) in
    subst (λ list. first_within c.args.n c.args.winner c.args.sets (passes list) ≡ Ok None) (sym listed) c.requires.covered

pub loop-place-init : goal.loop-place-init
loop-place-init c = record {
  left =
      left-start c.args.n c.args.winner c.args.sets c.args.claims.now c.in_ok-left.left c.in_ok-reached.reached c.in_ok-left.ensures c.in_ok-reached.ensures;
  many = c.requires.many;
}

pub can_go-requires-clause-with : goal.can_go-requires-clause-with
can_go-requires-clause-with c =
    let claims = c.args.claims.now in
    let i = c.loop-place.place - 1 in
    let next : i + 1 ≡ c.loop-place.place = omega arith in
    let inside : i < length claims = omega arith in
    let d = c.index-claims-place.result in
    reached-with c.args.n c.args.winner c.args.sets claims i c.loop-place.left c.in_ok-others.others c.loop-place.reached d inside (sym c.index-claims-place.is)
    (subst (λ place. IsLeftAt c.args.n c.args.winner c.args.sets claims place c.loop-place.left c.loop-place.reached) (sym next) c.loop-place.invariant.left)
    c.in_ok-others.ensures.others

pub loop-place-preserved : goal.loop-place-preserved
loop-place-preserved c =
    let claims = c.args.claims.now in
    let n = c.args.n in
    let winner = c.args.winner in
    let sets = c.args.sets in
    let i = c.loop-place.place - 1 in
    let next : i + 1 ≡ c.loop-place.place = omega arith in
    let inside : i < length claims = omega arith in
    let left = c.loop-place.left in
    let rest = c.in_ok-others.others in
    let old = c.loop-place.reached in
    let new = c.can_go.new.reached in
    let at = subst (λ place. IsLeftAt n winner sets claims place left old) (sym next) c.loop-place.invariant.left in
    let goes = λ (b : Bool). MatchBool b (AreReached n winner sets (assertions_left rest) new) ((new ≡ old) × IsTooFew n winner sets (assertions_left rest)) in
    let stays : IsLeftAt n winner sets claims i c.if-branch.left new = elim c.if-branch.branch [
      | then-branch w ↦
          subst (λ left. IsLeftAt n winner sets claims i left new) (sym w.left-is)
          (left-gone n winner sets claims i left rest old c.index-claims-place.result inside (sym c.index-claims-place.is) at c.in_ok-others.ensures.others new
          (subst goes w.if-branch.true c.in_ok-can_go.ensures))
      | else-branch+in_ok-left-2 w ↦
          let (same, few) = subst goes w.if-branch.false c.in_ok-can_go.ensures in
          let d = w.index-claims-place-else-branch.result in
          subst (λ reached. IsLeftAt n winner sets claims i c.if-branch.left reached) (sym same)
          (left-stays n winner sets claims i left rest old d inside (sym w.index-claims-place-else-branch.is) at c.in_ok-others.ensures.others c.if-branch.left
          (w.left-is ∙ w.in_ok-left-2.ensures) few)
    ] in
    record { left = stays; many = omega arith }

pub returns : goal.returns
returns c =
    let claims = c.args.claims.now in
    let end : c.loop-place.place ≡ c.args.many = omega (arith, c.loop-place.invariant.many) in
    subst (AreLeft c.args.n c.args.winner c.args.sets claims (take c.args.many claims)) (sym c.into_kept.ensures)
    (left-end c.args.n c.args.winner c.args.sets claims c.args.many c.loop-place.left c.loop-place.reached
    (subst (λ place. IsLeftAt c.args.n c.args.winner c.args.sets claims place c.loop-place.left c.loop-place.reached) end c.loop-place.invariant.left))
