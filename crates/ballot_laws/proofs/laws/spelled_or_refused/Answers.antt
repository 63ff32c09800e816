use Rattle.ballot_laws.proofs.Deciding as laws
use Rattle.ballot_laws.proofs.laws.spelled_or_refused.Goals as goal

pub returns-clause-either : goal.returns-clause-either
returns-clause-either c = laws.spelled_or_refused

pub returns-clause-one_file : goal.returns-clause-one_file
returns-clause-one_file c = laws.spell_one

pub returns-clause-one_refusal : goal.returns-clause-one_refusal
returns-clause-one_refusal c = laws.refused_once

pub returns-clause-never_both : goal.returns-clause-never_both
returns-clause-never_both c = laws.never_both
