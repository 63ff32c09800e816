use Rattle.std.proofs.Common.{cond, sym, ap, ◌∙◌}
use Rattle.irv_base.specs.Candidates.{has}
use Rattle.cover_checker.specs.Indexed.{is_nen}
use Rattle.cover_checker.specs.Numbered.{under}
use Rattle.cover_checker.proofs.Indexing.{both-ok}
use Rattle.cover_checker.proofs.refuting.Refuting.put.Goals as goal

pub returns-in-Nen-clause-nens : goal.returns-in-Nen-clause-nens
returns-in-Nen-clause-nens c =
    both-ok c.put_nen.result c.put_nen.ensures c.put_nen.ensures
    (λ put _. λ w set. put w set c.in-Nen.l
    ∙ ap (λ a. cond (is_nen w set a) c.args.is_there (has (under c.args.self.now.nens set) w)) (sym c.in-Nen.is))
