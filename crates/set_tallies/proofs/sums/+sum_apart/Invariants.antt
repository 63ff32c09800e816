use Rattle.set_tallies.proofs.sums.+sum_apart.Given as goal

abbrev pub decreases-sum_apart : goal.decreases-sum_apart
decreases-sum_apart l = l.k
