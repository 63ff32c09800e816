use Rattle.std.proofs.Common.{◌≡◌, ◌<◌, ◌^◌, not, ◌||◌, ◌==◌, bit_or, false, sym, ap, ap₂, subst, ◌∙◌}
use Rattle.std.specs.List.{list_any}
use Rattle.irv_base.specs.Candidates.{has, members}
use Rattle.irv_base.specs.declared.limits.TheConstants.{ROOM}
use Rattle.cover_checker.proofs.Indexes.{outside_is}
use Rattle.trimmer.specs.Opened.{is_past}
use Rattle.trimmer.proofs.opened.is_past.Goals as goal

pub returns-else-has : goal.returns-else-has
returns-else-has c =
    let set = c.args.set in
    let rest = c.in-Nen.rest in
    let out : has set c.in-Nen.w ≡ false = sym c.has-in-Nen.ensures ∙ c.if-has.false in
    ap (λ x. not (bit_or x c.number-else-has.result == c.number-else-has-2.result)) c.number.ensures
    ∙ ap₂ (λ y z. not (bit_or set y == z)) c.number-else-has.ensures c.number-else-has-2.ensures
    ∙ outside_is set rest (subst (λ x. x < 2 ^ ROOM) c.number.ensures c.number.type_inv)
    ∙ sym (ap (λ b. b || list_any (λ d. not (has rest d)) (members set)) out) ∙ ap (λ a. is_past a set) (sym c.in-Nen.is)
