use Rattle.std.proofs.Common.{map, ◌∙◌}
use Rattle.std.proofs.lemmas.List.{length-map}
use Rattle.set_tallies.proofs.Halving.{entries-of}
use Rattle.set_tallies.proofs.bag.votes_of.Goals as goal

pub returns-in-Some-clause-held : goal.returns-in-Some-clause-held
returns-in-Some-clause-held g c =
    let lists = c.in-Some.lists.items in
    entries-of c.args.n (map (λ v. v.items) lists) c.args.rankings.now (length-map lists (λ v. v.items) ∙ rw c.in-Some.is at c.in_ok-lists.ensures.each)
    (rw c.in-Some.is at c.in_ok-lists.ensures.counted)
