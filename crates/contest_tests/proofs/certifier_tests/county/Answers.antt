use Rattle.std.proofs.Common.{sym, subst, ◌∙◌}
use Rattle.contest_tests.proofs.BestMargins.{IsBest, best-county}
use Rattle.contest_tests.proofs.certifier_tests.county.Goals as goal

pub answer-requires-clause-best : goal.answer-requires-clause-best
answer-requires-clause-best g c κs within = subst (λ records. IsBest 4 records 1) (sym (c.as_slice.ensures ∙ c.county_ballots.ensures.same)) best-county
