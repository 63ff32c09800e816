use Rattle.std.proofs.Common.{◌≡◌, inl, take, length, ap, subst, ◌∙◌}
use Rattle.std.proofs.Math.Seq.{take-append_seam}
use Rattle.trimmer.specs.Remaining.{assertions_in as assertions_left}
use Rattle.trimmer.specs.Spreading.{IsHalt}
use Rattle.fewest_search.proofs.Needing.{halt-open}
use Rattle.fewest_search.proofs.sparing.can_go.Goals as goal

pub returns-in-Err-Stands : goal.returns-in-Err-Stands
returns-in-Err-Stands c =
    let steps = c.args.steps.now in
    let list = assertions_left steps.claims.now in
    let (more, is) = c.leave_out.ensures.were in
    let back : c.truncate.new.self ≡ c.args.reached.now =
    c.truncate.ensures ∙ ap (λ many. take many c.leave_out.new.reached) c.len-many.ensures ∙ ap (take (length c.args.reached.now)) is
    ∙ take-append_seam c.args.reached.now more in
    (back, inl (halt-open steps.n steps.winner list (subst (IsHalt steps.n steps.winner list) c.in-Err-Stands.field-0-is c.in-Err-Stands.ensures.halt)))
