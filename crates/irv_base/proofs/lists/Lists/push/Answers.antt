use Rattle.std.proofs.Common.{◌≡◌, ◌∙◌, ◌++◌, ◌∷◌, [], length, ap, arith}
use Rattle.irv_base.proofs.Between.{pushed-begins, pushed-lists}
use Rattle.irv_base.proofs.lists.Lists.push.Goals as goal

pub invariant_of-self-2 : goal.invariant_of-self-2
invariant_of-self-2 g c =
    let begin = c.in_ok-begin.begin in
    let size : begin ≡ length c.self.inside.elements.items = omega (arith, c.in_ok-begin.ensures, c.len.ensures, c.self.inside.elements.ok) in
    pushed-begins c.self.inside.begins.items c.push_reserved.new.self.items c.self.inside.elements.items c.extend_from_slice.new.self.items
    c.args.list.now begin c.self.invariant
    (c.push_reserved.ensures.items ∙ ap (λ begins. begins ++ begin ∷ []) c.in_ok-reserve.ensures.items) c.in_ok-extend_from_slice.ensures.items size

pub returns-clause-pushed : goal.returns-clause-pushed
returns-clause-pushed g c =
    let begin = c.in_ok-begin.begin in
    let size : begin ≡ length c.self.inside.elements.items = omega (arith, c.in_ok-begin.ensures, c.len.ensures, c.self.inside.elements.ok) in
    pushed-lists c.self.inside.begins.items c.push_reserved.new.self.items c.self.inside.elements.items c.extend_from_slice.new.self.items
    c.args.list.now begin c.self.invariant.rise
    (c.push_reserved.ensures.items ∙ ap (λ begins. begins ++ begin ∷ []) c.in_ok-reserve.ensures.items) c.in_ok-extend_from_slice.ensures.items size
    ∙ ap (λ lists. lists ++ c.args.list.now ∷ []) c.self.view_is
