use Rattle.std.proofs.Common.{◌≡◌, ◌∙◌, ◌++◌, ◌∷◌, [], length, sym, ap, arith}
use Rattle.std.proofs.lemmas.List.{append-nil}
use Rattle.irv_base.proofs.Between.{pushed-begins, pushed-lists}
use Rattle.irv_base.proofs.lists.Lists.begin.Goals as goal

pub invariant_of-self-2 : goal.invariant_of-self-2
invariant_of-self-2 g c =
    let begin = c.in_ok-begin.begin in
    let elements = c.self.inside.elements.items in
    let size : begin ≡ length elements = omega (arith, c.in_ok-begin.ensures, c.len.ensures, c.self.inside.elements.ok) in
    pushed-begins c.self.inside.begins.items c.push.new.self.items elements elements [] begin c.self.invariant
    c.in_ok-push.ensures.items (sym (append-nil elements)) size

pub returns-clause-begun : goal.returns-clause-begun
returns-clause-begun g c =
    let begin = c.in_ok-begin.begin in
    let elements = c.self.inside.elements.items in
    let size : begin ≡ length elements = omega (arith, c.in_ok-begin.ensures, c.len.ensures, c.self.inside.elements.ok) in
    pushed-lists c.self.inside.begins.items c.push.new.self.items elements elements [] begin c.self.invariant.rise
    c.in_ok-push.ensures.items (sym (append-nil elements)) size
    ∙ ap (λ lists. lists ++ [] ∷ []) c.self.view_is
