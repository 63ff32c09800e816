use Rattle.std.proofs.Common.{refl}
use Rattle.ballot_laws.proofs.Refused.{first_broken_rule_refuses}
use Rattle.ballot_laws.proofs.examples.ballots.Goals as goal

pub returns-clause-short : goal.returns-clause-short
returns-clause-short c = (first_broken_rule_refuses _ _ _ _).0 refl

pub returns-clause-no_id : goal.returns-clause-no_id
returns-clause-no_id c = (first_broken_rule_refuses _ _ _ _).0 refl

pub returns-clause-no_contest : goal.returns-clause-no_contest
returns-clause-no_contest c = (first_broken_rule_refuses _ _ _ _).0 refl

pub returns-clause-repeated : goal.returns-clause-repeated
returns-clause-repeated c = (first_broken_rule_refuses _ _ _ _).0 refl

pub returns-clause-unknown : goal.returns-clause-unknown
returns-clause-unknown c = (first_broken_rule_refuses _ _ _ _).0 refl

pub returns-clause-other_contest : goal.returns-clause-other_contest
returns-clause-other_contest c = (first_broken_rule_refuses _ _ _ _).0 refl
