use Rattle.budget.specs.declared.budget.Budget.TheVariants.{Nodes}
use Rattle.assertion_file.specs.Content.{candidate_count}
use Rattle.cover_checker.specs.Findings.{assertions_of}
use Rattle.cover_checker.specs.declared.checked.CheckFault.TheVariants.{Spent}
use Rattle.cover_checker.proofs.Enough.{nodes-enough}
use Rattle.cover_checker.proofs.Existing.{answer_never_fault}
use Rattle.cover_checker.proofs.laws.answer_is_never_spent.Goals as goal

pub returns : goal.returns
returns c = λ nodes ballots file last le h.
    answer_never_fault (Nodes nodes) ballots file (Spent last) (nodes-enough (candidate_count file) file.winner (assertions_of file) nodes le) h
