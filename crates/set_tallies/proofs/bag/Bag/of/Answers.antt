use Rattle.set_tallies.specs.Sums.{votes_in}
use Rattle.set_tallies.proofs.Filled.{bag-of}
use Rattle.set_tallies.proofs.bag.Bag.of.Goals as goal

pub invariant_of-result : goal.invariant_of-result
invariant_of-result g c = rw c.len-records.ensures
    (record { fewest = c.requires.fewest; room = c.requires.room; most = c.requires.most }, c.in_ok-votes.ensures.held)

pub returns-clause-records : goal.returns-clause-records
returns-clause-records g c = rw c.len-records.ensures
    (bag-of c.args.n (votes_in c.in_ok-votes.votes) c.args.rankings.now c.requires.below c.in_ok-votes.ensures.says)
