use Rattle.std.proofs.Common.{◌<◌, length, sym, subst}
use Rattle.std.specs.BinaryHeap.{heap_items}
use Rattle.bound_search.specs.Fronts.{Frontier, IsFirstOf}
use Rattle.bound_search.proofs.Keeping.{first_of_heap}
use Rattle.bound_search.proofs.front.Front.first.Goals as goal

pub returns-clause-least : goal.returns-clause-least
returns-clause-least c =
    let some = subst (λ (f : Frontier). 0 < length f.suffixes) (sym c.self.view_is) c.requires in
    subst (λ (f : Frontier). IsFirstOf c.in-Some.first.now f.suffixes) c.self.view_is
    (first_of_heap (heap_items c.self.inside.suffixes) c.in-Some.first.now some c.in-Some.ensures.lookup (c.in-Some.ensures.greatest c.self.invariant))
