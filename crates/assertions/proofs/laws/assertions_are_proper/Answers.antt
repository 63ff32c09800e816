use Rattle.irv_base.proofs.Members.{member-from_contains, contains-from_member}
use Rattle.assertions.specs.Assertions.{assertions}
use Rattle.assertions.proofs.Listed.{assertion-proper, assertion-member}
use Rattle.assertions.proofs.laws.assertions_are_proper.Goals as goal

pub returns : goal.returns
returns c = λ n a. (λ h. assertion-proper n a (member-from_contains a (assertions n) h), λ h. contains-from_member (assertion-member n a h))
