use Rattle.std.proofs.Common.{◌≡◌, OnOk, ap, subst, ◌∙◌}
use Rattle.assertions.specs.contracts.assertion.AssertionOrd.TheImpl.{ghosts}
use Rattle.std.specs.BTreeMap.{insert_entry}
use Rattle.certifier.proofs.Sorting.{entries, entries-put}
use Rattle.certifier.proofs.claims.Claims.put.Goals as goal

pub returns-then-len-self : goal.returns-then-len-self
returns-then-len-self c =
    ap entries c.in_ok-push.ensures.items ∙ entries-put c.self.inside.list.items c.args.assertion c.args.margin
    ∙ ap (λ es. insert_entry ghosts.cmp es c.args.assertion c.args.margin) c.self.view_is

pub returns : goal.returns
returns c =
    subst (λ es. OnOk c.shorten.result (c.shorten.new.self ≡ es))
    (ap entries c.in_ok-push.ensures.items ∙ entries-put c.self.inside.list.items c.args.assertion c.args.margin
    ∙ ap (λ es. insert_entry ghosts.cmp es c.args.assertion c.args.margin) c.self.view_is) c.shorten.ensures
