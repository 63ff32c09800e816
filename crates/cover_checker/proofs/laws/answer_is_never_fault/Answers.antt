use Rattle.std.proofs.Common.{arith}
use Rattle.assertion_file.specs.Content.{candidate_count}
use Rattle.cover_checker.specs.Findings.{assertions_of}
use Rattle.cover_checker.proofs.Enough.{never_over}
use Rattle.cover_checker.proofs.Existing.{answer_never_fault}
use Rattle.cover_checker.proofs.laws.answer_is_never_fault.Goals as goal

pub returns : goal.returns
returns c = λ budget ballots file fault sound enough h.
    answer_never_fault budget ballots file fault
    (never_over (candidate_count file) file.winner (assertions_of file) budget sound.winner (omega (arith, sound.fewest)) enough) h
