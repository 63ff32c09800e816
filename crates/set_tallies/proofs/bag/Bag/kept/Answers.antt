use Rattle.std.proofs.Common.{sym, ap, ◌∙◌}
use Rattle.set_tallies.specs.Bags.{votes_at}
use Rattle.set_tallies.specs.Sums.{votes_in}
use Rattle.set_tallies.proofs.Filled.{votes-read}
use Rattle.set_tallies.proofs.bag.Bag.kept.Goals as goal

pub returns-clause-same : goal.returns-clause-same
returns-clause-same c = λ set d s l.
    let n = ap (λ b. b.n) c.self.view_is in
    sym (votes-read c.self.inside.n (votes_in c.self.inside.votes) set d (rw n s) (rw n l)) ∙ ap (λ b. votes_at b set d) c.self.view_is
