use Rattle.std.proofs.Common.{sym, subst, ◌∙◌}
use Rattle.contest_tests.proofs.BestMargins.{IsBest, best-two}
use Rattle.contest_tests.proofs.certifier_tests.two.Goals as goal

pub answer-requires-clause-best : goal.answer-requires-clause-best
answer-requires-clause-best g c κs within = subst (λ records. IsBest 2 records 1) (sym (c.as_slice.ensures ∙ c.three_against_two.ensures.same)) best-two
