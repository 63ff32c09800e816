use Rattle.std.proofs.Common.{Some, ap}
use Rattle.std.specs.Prelude.{drop, if◌then◌else◌, nat_lt}
use Rattle.irv_base.specs.declared.limits.TheConstants.{MOST_RECORDS}
use Rattle.ballots.specs.declared.fault.BRule.TheVariants.{B10}
use Rattle.ballot_laws.specs.Breaking.{ballot_rules, first_broken}
use Rattle.ballot_laws.proofs.examples.most_ballots.Goals as goal

pub returns : goal.returns
returns c contests before row h = ap (λ n. if nat_lt n MOST_RECORDS then first_broken (drop 1 (ballot_rules contests before row)) else Some B10) h
