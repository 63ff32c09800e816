use Rattle.std.proofs.Common.{refl}
use Rattle.ballot_laws.proofs.Refused.{first_broken_rule_refuses}
use Rattle.ballot_laws.proofs.examples.contests.Goals as goal

pub returns-clause-empty : goal.returns-clause-empty
returns-clause-empty c = (first_broken_rule_refuses _ _ _ _).0 refl

pub returns-clause-no_number : goal.returns-clause-no_number
returns-clause-no_number c = (first_broken_rule_refuses _ _ _ _).0 refl

pub returns-clause-missing : goal.returns-clause-missing
returns-clause-missing c = (first_broken_rule_refuses _ _ _ _).0 refl

pub returns-clause-repeated : goal.returns-clause-repeated
returns-clause-repeated c = (first_broken_rule_refuses _ _ _ _).0 refl
