-- A file that one of several steps refuses.
use Rattle.std.proofs.Common.{◌≡◌, Option, Some, ap, subst, sym}
use Rattle.session_file.specs.Faults.{Refuses}
use Rattle.assertion_file.specs.Stated.{◌>>=◌}
use Rattle.session_file.specs.declared.fault.SessionFault.{SessionFault}
use Rattle.session_file.specs.declared.fault.SessionFault.TheVariants.{Refused, Memory}

pub refused_first : {A B : Type 0} (said : Option A) (more : A → Option B) (fault : SessionFault) → Refuses said fault → Refuses (said >>= more) fault
refused_first said more Refused h = ap (λ o. o >>= more) h
refused_first said more Memory h = tt

pub refused_then : {A B : Type 0} (said : Option A) (value : A) (more : A → Option B) (fault : SessionFault) → said ≡ Some value → Refuses (more value) fault →
    Refuses (said >>= more) fault
refused_then said value more fault h r = subst (λ o. Refuses (o >>= more) fault) (sym h) r

pub refused_same : {A : Type 0} (said other : Option A) (fault : SessionFault) → said ≡ other → Refuses other fault → Refuses said fault
refused_same said other fault h r = subst (λ o. Refuses o fault) (sym h) r
