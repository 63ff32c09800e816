use Rattle.std.proofs.Common.{sym, subst}
use Rattle.certifier.specs.Certified.{IsFault}
use Rattle.contest_search.specs.Found.{IsBestOf, IsCounted}
use Rattle.contest_search.proofs.Findings.{certificate_is_spent, is_printable, is_found}
use Rattle.contest_search.proofs.found.certificate_of.Goals as goal

pub certify-requires-clause-tabulated : goal.certify-requires-clause-tabulated
certify-requires-clause-tabulated g c κs within =
    let counted = subst (λ bag. IsCounted c.args.votes.now bag c.args.tabulated.now) (sym c.with_sums-counted.ensures) c.requires.counted in
    counted.tabulated

pub certify-requires-clause-best : goal.certify-requires-clause-best
certify-requires-clause-best g c κs within =
    let best = subst (λ bag. IsBestOf bag c.args.tabulated.now c.args.end) (sym c.with_sums-counted.ensures) c.requires.best in
    λ records h. (best records h).best

pub file_of-requires : goal.file_of-requires
file_of-requires g c =
    let t = c.args.tabulated.now in
    let counted = subst (λ bag. IsCounted c.args.votes.now bag t) (sym c.with_sums-counted.ensures) c.requires.counted in
    let best = subst (λ bag. IsBestOf bag t c.args.end) (sym c.with_sums-counted.ensures) c.requires.best in
    is_printable c.args.votes.now c.with_sums-counted.result.now.bag t counted c.args.end c.args.nodes c.in-Ok.certificate c.requires.some best
    c.in-Ok.ensures.certificate

pub returns-in-Ok : goal.returns-in-Ok
returns-in-Ok g c =
    let t = c.args.tabulated.now in
    let counted = subst (λ bag. IsCounted c.args.votes.now bag t) (sym c.with_sums-counted.ensures) c.requires.counted in
    let best = subst (λ bag. IsBestOf bag t c.args.end) (sym c.with_sums-counted.ensures) c.requires.best in
    is_found c.args.votes.now c.with_sums-counted.result.now.bag t counted c.args.end c.args.nodes c.in-Ok.certificate c.requires.some best
    c.in-Ok.ensures.certificate _ c.in_ok-file-in-Ok.ensures

pub returns-in-Spent : goal.returns-in-Spent
returns-in-Spent g c =
    let t = c.args.tabulated.now in
    let bag = c.with_sums-counted.result.now.bag in
    let counted = subst (λ bag. IsCounted c.args.votes.now bag t) (sym c.with_sums-counted.ensures) c.requires.counted in
    let best = subst (λ bag. IsBestOf bag t c.args.end) (sym c.with_sums-counted.ensures) c.requires.best in
    certificate_is_spent c.args.votes.now bag t counted c.args.end c.args.nodes _ c.requires.some best
    (λ records h. subst (IsFault bag.n records t.winner c.args.end.margin c.args.nodes) c.in-Spent.is (c.in-Err.ensures.fault records h))
