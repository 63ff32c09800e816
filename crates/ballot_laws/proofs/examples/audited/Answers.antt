use Rattle.std.proofs.Common.{refl}
use Rattle.ballot_laws.proofs.Refused.{first_broken_rule_refuses}
use Rattle.ballot_laws.proofs.examples.audited.Goals as goal

pub returns-clause-too_small : goal.returns-clause-too_small
returns-clause-too_small c = (first_broken_rule_refuses _ _ _ _).0 refl
