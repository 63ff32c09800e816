use Rattle.std.proofs.Common.{map, filter, nat_lt, ap, ◌≡◌, ◌∙◌}
use Rattle.suffix_tree.specs.declared.scored.Scored.{Scored}
use Rattle.bound_search.specs.Sifted.{IsPut, IsExpanded}
use Rattle.bound_search.proofs.Turns.{if_ok}
use Rattle.bound_search.proofs.Keeping.{put_expands}
use Rattle.bound_search.proofs.Below.{put-all}
use Rattle.bound_search.proofs.front.Front.expand_first.Goals as goal

pub returns-clause-expanded : goal.returns-clause-expanded
returns-clause-expanded g c =
    let longer = c.in_ok-children.ensures.longer in
    let below : c.in_ok-children.children.items ≡ filter (λ (s : Scored). nat_lt s.low c.args.self.now.bound) longer.all =
    longer.found_are ∙ ap (λ b. filter (λ (s : Scored). nat_lt s.low b) longer.all) c.bound.ensures in
    if_ok (IsPut c.in_ok-children.children.items c.args.self.now c.put.new.self) (IsExpanded c.args.tallies.now.bag c.args.self.now c.put.new.self) c.put.result
    (λ found put.
    put_expands c.args.tallies.now.bag c.args.self.now c.put.new.self c.first.result.now longer.all found c.first.ensures.is
    c.first.ensures.least c.requires.part.1 longer.tails_are longer.scored
    (put-all longer.all c.in_ok-children.children.items c.args.self.now c.put.new.self found below put) c.requires.front.0 c.requires.front.1)
    c.put.ensures.put
