use Rattle.std.proofs.Common.{◌<◌, All, length, subst, sym, ◌∙◌}
use Rattle.irv_base.specs.Candidates.{has}
use Rattle.report.proofs.Lists.{chosen-below}
use Rattle.report.proofs.text.set_text.Goals as goal

pub joined-requires : goal.joined-requires
joined-requires c =
    subst (λ cs. All (λ x. x < length c.args.names.now) cs) (sym (c.deref.ensures.value ∙ c.in_ok-members.ensures))
    (chosen-below (has c.args.set) (length c.args.names.now))
