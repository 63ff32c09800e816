use Rattle.set_tallies.specs.Sums.{votes_in}
use Rattle.set_tallies.specs.declared.bag.Votes.TheVariants.{Summed}
use Rattle.set_tallies.proofs.Filled.{bag-of}
use Rattle.set_tallies.proofs.bag.Bag.of_counting.Goals as goal

pub returns-clause-records : goal.returns-clause-records
returns-clause-records c = rw (c.candidates.ensures.same, c.len.ensures.all)
    (bag-of c.args.counting.now.n (votes_in (Summed c.in_ok-sums.sums)) c.args.counting.now.rankings c.candidates.ensures.below c.in_ok-sums.ensures.says)
