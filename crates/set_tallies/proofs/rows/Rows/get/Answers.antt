use Rattle.std.proofs.Common.{◌≡◌, IfSome, sym, subst, ◌∙◌}
use Rattle.set_tallies.specs.Rows.{votes_of}
use Rattle.set_tallies.proofs.rows.Rows.get.Goals as goal

pub returns-in-Some : goal.returns-in-Some
returns-in-Some c = λ bag h.
    c.deref.ensures.value ∙ subst (λ o. IfSome o (λ votes. votes.items ≡ votes_of bag c.args.set)) (sym c.in-Some.ensures.value) (h c.args.set)
