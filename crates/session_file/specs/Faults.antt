-- Why a session file isn't read.
use Rattle.std.specs.Prelude.{◌≡◌, Option, None}
use Rattle.session_file.specs.declared.fault.SessionFault.{SessionFault}
use Rattle.session_file.specs.declared.fault.SessionFault.TheVariants.{Refused, Memory}

-- a session file is refused if it says nothing; memory may always run out
abbrev pub Refuses : {A : Type 0} → Option A → SessionFault → Type 0
Refuses said Refused = said ≡ None
Refuses said Memory = Unit {0}
