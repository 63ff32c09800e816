use Rattle.std.proofs.Common.{◌∙◌, ◌++◌, ◌∷◌, [], ap}
use Rattle.irv_base.proofs.Between.{begins-longer, longer-length, longer-lists}
use Rattle.irv_base.proofs.lists.Lists.lengthen.Goals as goal

pub invariant_of-self-2 : goal.invariant_of-self-2
invariant_of-self-2 g c =
    begins-longer c.self.inside.begins.items c.self.inside.elements.items c.push_reserved.new.self.items c.args.self.now c.self.invariant c.self.view_is
    c.requires
    (longer-length c.self.inside.elements.items c.push_reserved.new.self.items c.args.x
    (c.push_reserved.ensures.items ∙ ap (λ elements. elements ++ c.args.x ∷ []) c.in_ok-reserve.ensures.items))

pub returns-clause-longer : goal.returns-clause-longer
returns-clause-longer g c = λ earlier last old.
    longer-lists c.self.inside.begins.items c.self.inside.elements.items c.push_reserved.new.self.items c.args.x earlier last c.self.invariant.rise
    (c.push_reserved.ensures.items ∙ ap (λ elements. elements ++ c.args.x ∷ []) c.in_ok-reserve.ensures.items) (c.self.view_is ∙ old)
