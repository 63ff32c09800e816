use Rattle.audit_laws.proofs.FalseClaims.{some_is_untrue}
use Rattle.audit_laws.proofs.laws.some_is_untrue.Goals as goal

pub returns : goal.returns
returns c = some_is_untrue
