use Rattle.std.proofs.Common.{refl}
use Rattle.ballot_laws.proofs.Spelled.{records_spell_file}
use Rattle.ballot_laws.proofs.Refused.{first_broken_rule_refuses}
use Rattle.ballot_laws.proofs.examples.two_contests_in_a_file.Goals as goal

pub returns-clause-mayor : goal.returns-clause-mayor
returns-clause-mayor c = (records_spell_file _ _ _).0 refl

pub returns-clause-board : goal.returns-clause-board
returns-clause-board c = (records_spell_file _ _ _).0 refl

pub returns-clause-none : goal.returns-clause-none
returns-clause-none c = (first_broken_rule_refuses _ _ _ _).0 refl

pub returns-clause-other : goal.returns-clause-other
returns-clause-other c = (first_broken_rule_refuses _ _ _ _).0 refl
