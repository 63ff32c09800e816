use Rattle.std.proofs.Common.{sym, subst, ◌∙◌}
use Rattle.contest_tests.proofs.BestMargins.{IsBest, best-three}
use Rattle.contest_tests.proofs.certifier_tests.three.Goals as goal

pub answer-requires-clause-best : goal.answer-requires-clause-best
answer-requires-clause-best g c κs within = subst (λ records. IsBest 3 records 1) (sym (c.as_slice.ensures ∙ c.ballots_of_three.ensures.same)) best-three
