use Rattle.std.proofs.Common.{◌≡◌, ◌<◌, ap, arith, subst, sym, ◌∙◌}
use Rattle.std.proofs.lemmas.Option.{MatchOption-at_some}
use Rattle.set_tallies.specs.Bags.{IsOf, Kept, Source}
use Rattle.assertions.specs.Certificate.{certificate_claims}
use Rattle.bound_search.proofs.Raced.{elected_below}
use Rattle.set_search.specs.Answers.{IsBestEnd, IsBestFound}
use Rattle.set_search.specs.Given.{AreCover}
use Rattle.set_search.specs.Parts.{IsCover}
use Rattle.set_search.specs.Sets.{best_of}
use Rattle.set_search.proofs.certificate.certify_by_sets.Goals as goal

pub cover_in-requires : goal.cover_in-requires
cover_in-requires c =
    let bag : c.best_in.new.steps.tallies.bag ≡ c.args.counted.now.bag = ap (λ (t : Source). t.bag) c.best_in.ensures.same ∙ c.in_ok-tallies.ensures.bag in
    subst (λ (b : Kept). c.args.tab.now.winner < b.n) (sym bag)
    (elected_below c.args.counted.now.bag.n c.args.tab.now.winner c.args.tab.now.order c.requires.order c.requires.winner)

pub claims_of-requires-clause-winner : goal.claims_of-requires-clause-winner
claims_of-requires-clause-winner c =
    let bag : c.cover_in.new.steps.tallies.bag ≡ c.args.counted.now.bag =
    ap (λ (t : Source). t.bag) (c.cover_in.ensures.same ∙ c.best_in.ensures.same) ∙ c.in_ok-tallies.ensures.bag in
    subst (λ (b : Kept). c.args.tab.now.winner < b.n) (sym bag)
    (elected_below c.args.counted.now.bag.n c.args.tab.now.winner c.args.tab.now.order c.requires.order c.requires.winner)

pub returns-clause-end : goal.returns-clause-end
returns-clause-end c = λ records of.
    let winner = c.args.tab.now.winner in
    let sets = c.args.sets in
    let n = c.args.counted.now.bag.n in
    let found = c.in-Found.found in
    let first = c.in_ok-tallies.ensures.bag in
    let bag : c.best_in.new.steps.tallies.bag ≡ c.args.counted.now.bag = ap (λ (t : Source). t.bag) c.best_in.ensures.same ∙ first in
    let bag' : c.cover_in.new.steps.tallies.bag ≡ c.args.counted.now.bag = ap (λ (t : Source). t.bag) c.cover_in.ensures.same ∙ bag in
    let at = subst (IsBestEnd c.in_ok-tallies.tallies.bag.n records c.args.tab.now sets) c.in-Found.is
    (c.in_ok-found.ensures.end records (subst (λ b. IsOf b records) (sym first) of)) in
    let is : IsBestFound n records c.args.tab.now sets found = subst (λ (b : Kept). IsBestFound b.n records c.args.tab.now sets found) first at in
    let order = is.best in
    let margin' = subst (λ (b : Kept). found.best.margin ≡ best_of b.n records winner) (sym bag) order.margin in
    let covered = c.in_ok-cover.ensures.cover records (subst (λ b. IsOf b records) (sym bag) of) margin' in
    let in-cover = MatchOption-at_some _
    (λ seen. IsCover c.best_in.new.steps.tallies.bag.n records winner sets seen.keys) c.in-Some.cover c.in-Some.is covered in
    let cover : IsCover n records winner sets c.in-Some.cover.keys =
    subst (λ (b : Kept). IsCover b.n records winner sets c.in-Some.cover.keys) bag in-cover in
    let standing = subst (AreCover n records winner found.best.margin) (sym c.as_slice.ensures.keys)
    (subst (λ m. AreCover n records winner m c.in-Some.cover.keys) (sym order.margin) cover.cover) in
    let few = cover.within in
    let few' = order.within in
    record {
      claims = subst (λ (b : Kept). c.in_ok-claims.claims.items ≡ certificate_claims b.n records winner) bag'
          (c.in_ok-claims.ensures.claims records (subst (λ b. IsOf b records) (sym bag') of)
          (subst (λ (b : Kept). found.best.margin ≡ best_of b.n records winner) (sym bag') order.margin)
          (subst (λ (b : Kept). AreCover b.n records winner found.best.margin c.as_slice.result.now) (sym bag') standing));
      margin = order.margin;
      order = order.order;
      some = is.some;
      within = omega (arith, few, few');
    }

pub claims_of-requires-clause-several : goal.claims_of-requires-clause-several
claims_of-requires-clause-several c =
    let bag : c.cover_in.new.steps.tallies.bag ≡ c.in_ok-tallies.tallies.bag =
    ap (λ (t : Source). t.bag) (c.cover_in.ensures.same ∙ c.best_in.ensures.same) in
    subst (λ (b : Kept). 1 < b.n) (sym bag) (omega (arith, c.candidates-n.ensures.fewest, c.candidates-n.ensures.same))
