use Rattle.std.proofs.Common.{ℕ, List, [], map, get_or, sym, ap, ◌∙◌}
use Rattle.set_tallies.specs.Bags.{Kept, missing}
use Rattle.set_tallies.specs.Sums.{votes_in}
use Rattle.set_tallies.proofs.Filled.{all-same}
use Rattle.set_tallies.proofs.bag.Bag.summed.Goals as goal

pub returns : goal.returns
returns c =
    let bag = c.self.inside in
    let with_votes : List (List ℕ) → Kept = λ votes. record { n = bag.n; records = bag.records; votes = votes } in
    ap with_votes (all-same bag.n (votes_in c.in_ok-votes.votes) (votes_in bag.votes) (λ set d s l.
    c.in_ok-votes.ensures.says set d s l
    ∙ ap (λ lists. missing set (get_or (map (λ v. v.items) lists) d [])) c.deref.ensures.value
    ∙ ap (λ v. votes_in v set d) (sym c.in-Listed.is)))
    ∙ c.self.view_is

pub invariant_of-result : goal.invariant_of-result
invariant_of-result c =
    let kept = c.self.invariant.0 in
    (record { fewest = kept.fewest; room = kept.room; most = kept.most }, c.in_ok-votes.ensures.held c.self.inside.records)
