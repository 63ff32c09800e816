use Rattle.std.proofs.Common.{◌≡◌, ◌||◌, ◌==◌, map, sym, ap, arith, drop, List, ◌∙◌}
use Rattle.std.proofs.lemmas.List.{drop_all}
use Rattle.irv_base.specs.Candidates.{has}
use Rattle.assertions.specs.Certificate.{certificate_claims}
use Rattle.assertions.specs.contracts.assertion.AssertionOrd.TheImpl.{ghosts}
use Rattle.bound_search.proofs.Turns.{if_ok}
use Rattle.certifier.specs.Gathered.{claim_at}
use Rattle.set_search.specs.Given.{with_steps}
use Rattle.set_search.proofs.Giving.{claims_are, with_sets}
use Rattle.set_search.proofs.Mores.{none-has}
use Rattle.set_search.proofs.claims.claims_of.Goals as goal

pub returns-clause-claims : goal.returns-clause-claims
returns-clause-claims c = λ records of is cover.
    let n = c.args.tallies.now.bag.n in
    let winner = c.args.winner in
    let only-winner = λ (d : Rattle.std.proofs.Common.ℕ). c.with.ensures.members d
    ∙ ap (λ b. b || (d == c.args.winner)) (ap (λ s. has s d) c.empty-nobody.ensures ∙ none-has d) in
    let none = drop_all c.loop-set.set-index c.args.sets.now (omega (arith, c.loop-set-test.false)) in
    let first = c.in_ok-put_steps.ensures.put records of
    ∙ ap (λ es. with_steps ghosts.cmp n records c.args.margin es c.empty-nobody.result c.with.result) c.new-claims.ensures.empty
    ∙ ap (λ s. with_steps ghosts.cmp n records c.args.margin Rattle.std.proofs.Common.[] s c.with.result) c.empty-nobody.ensures in
    let all = sym (ap (with_sets n records c.args.margin c.loop-set.claims.entries) none)
    ∙ c.loop-set.invariant.put records of
    ∙ ap (λ es. with_sets n records c.args.margin es c.args.sets.now) first in
    let claims = claims_are n records c.args.margin winner c.with.result c.args.sets.now c.requires.winner c.requires.several is cover only-winner in
    if_ok (λ list. list.items ≡ map claim_at c.loop-set.claims.entries) (λ list. list.items ≡ certificate_claims n records winner) c.listed.result
    (λ list e. e ∙ ap (map claim_at) all ∙ claims) c.listed.ensures
