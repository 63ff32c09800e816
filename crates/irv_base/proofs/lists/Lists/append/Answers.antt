use Rattle.std.proofs.Common.{◌≡◌, ◌<◌, ◌+◌, ◌∙◌, ◌++◌, ℕ, List, length, map, sym, ap, ap₂, subst, arith}
use Rattle.irv_base.specs.Lists.{AreBegins}
use Rattle.irv_base.proofs.Joined.{begins-fit, joined-begins, joined-lists}
use Rattle.irv_base.proofs.lists.Lists.append.Goals as goal

pub push_moved-requires-clause-fit : goal.push_moved-requires-clause-fit
push_moved-requires-clause-fit g c =
    let more = length c.others.inside.elements.items in
    let fits : c.in_ok-ahead.ahead + more < 4294967296 =
    omega (arith, c.if-len-ahead.false, c.len-2.ensures, c.others.inside.elements.ok) in
    begins-fit c.deref-2.result.now c.in_ok-ahead.ahead more 4294967296
    (subst (λ begins. AreBegins begins more) (sym c.deref-2.ensures.value) c.others.invariant.rise) fits

pub invariant_of-self-2 : goal.invariant_of-self-2
invariant_of-self-2 g c =
    let ahead = c.in_ok-ahead.ahead in
    let size : ahead ≡ length c.self.inside.elements.items = omega (arith, c.in_ok-ahead.ensures, c.len.ensures, c.self.inside.elements.ok) in
    joined-begins c.self.inside.begins.items c.push_moved.new.begins.items c.others.inside.begins.items c.self.inside.elements.items
    c.extend_from_slice.new.self.items c.others.inside.elements.items ahead c.self.invariant c.others.invariant
    (c.push_moved.ensures ∙ ap₂ (λ (old later : List ℕ). old ++ map (λ b. ahead + b) later) c.in_ok-reserve.ensures.items c.deref-2.ensures.value)
    (c.in_ok-extend_from_slice.ensures.items ∙ ap (λ more. c.self.inside.elements.items ++ more) c.deref.ensures.value) size

pub returns-clause-appended : goal.returns-clause-appended
returns-clause-appended g c =
    let ahead = c.in_ok-ahead.ahead in
    let size : ahead ≡ length c.self.inside.elements.items = omega (arith, c.in_ok-ahead.ensures, c.len.ensures, c.self.inside.elements.ok) in
    joined-lists c.self.inside.begins.items c.push_moved.new.begins.items c.others.inside.begins.items c.self.inside.elements.items
    c.extend_from_slice.new.self.items c.others.inside.elements.items ahead c.self.invariant c.others.invariant
    (c.push_moved.ensures ∙ ap₂ (λ (old later : List ℕ). old ++ map (λ b. ahead + b) later) c.in_ok-reserve.ensures.items c.deref-2.ensures.value)
    (c.in_ok-extend_from_slice.ensures.items ∙ ap (λ more. c.self.inside.elements.items ++ more) c.deref.ensures.value) size
    ∙ ap₂ (λ old more. old ++ more) c.self.view_is c.others.view_is
