use Rattle.std.proofs.Common.{◌<◌, All, length, subst, sym, ◌∙◌}
use Rattle.irv_base.specs.Candidates.{is_in}
use Rattle.report.proofs.Lists.{chosen-below}
use Rattle.report.proofs.tabulations.round_text.Goals as goal

pub tallies_text-requires-clause-named : goal.tallies_text-requires-clause-named
tallies_text-requires-clause-named c =
    subst (λ cs. All (λ x. x < length c.args.names.now) cs) (sym (c.deref-2.ensures.value ∙ c.in_ok-remaining.ensures))
    (chosen-below (is_in c.args.remaining.now) (length c.args.names.now))
