use Rattle.std.proofs.Common.{◌≡◌, Some, refl, sym, ap, subst, ◌∙◌}
use Rattle.std.specs.Option.{unwrap_or}
use Rattle.assertions.specs.Hardness.{low}
use Rattle.certifier.specs.Certified.{IsWithin}
use Rattle.certifier.specs.OneCandidate.{IsTask}
use Rattle.certifier.specs.declared.gather.Task.{Task}
use Rattle.certifier.proofs.Tabulations.{winner-below}
use Rattle.certifier.proofs.Claiming.{claims_are}
use Rattle.certifier.proofs.Parting.{part-spent, part-whole}
use Rattle.certifier.proofs.certificate.certify.Goals as goal

pub returns-in-Some-clause-fault : goal.returns-in-Some-clause-fault
returns-in-Some-clause-fault g c = λ records h.
    let n = c.args.counted.now.bag.n in
    let task : Task = record { winner = c.args.tab.now.winner; best = c.args.best; nodes = c.args.nodes } in
    let tabulated = c.requires.tabulated records h in
    let is : IsTask c.args.counted.now.bag.n records task =
    record { winner = winner-below n records c.args.tab.now tabulated; best = c.requires.best records h } in
    let (several, part) = c.in_ok-found.ensures records h is in
    part-spent n records task is several c.in_ok-found.found part c.in-Some.last (sym c.spent.ensures ∙ c.in-Some.is)

pub returns-clause-certificate : goal.returns-clause-certificate
returns-clause-certificate g c = λ records h.
    let n = c.args.counted.now.bag.n in
    let task : Task = record { winner = c.args.tab.now.winner; best = c.args.best; nodes = c.args.nodes } in
    let tabulated = c.requires.tabulated records h in
    let is : IsTask c.args.counted.now.bag.n records task =
    record { winner = winner-below n records c.args.tab.now tabulated; best = c.requires.best records h } in
    let (several, part) = c.in_ok-found.ensures records h is in
    let (ordered, over) = part-whole n records task is several c.in_ok-found.found part (sym c.spent.ensures ∙ c.in_default.is) in
    let order : ordered.order ≡ c.unwrap_or-order.result = sym (c.unwrap_or-order.ensures
    ∙ ap (λ o. unwrap_or o c.args.tab.now.order) (c.order.ensures ∙ ordered.found_is)) in
    record {
      claims = c.in_ok-claims.ensures ∙ claims_are n records task c.in_ok-found.found.claims is.best (part.claims over);
      margin = refl;
      order = ordered.order_is ∙ ap Some order;
      within = λ d l ne. subst (λ o. IsWithin n (low n records) c.args.best o c.args.nodes d) order (ordered.within d l ne);
    }
