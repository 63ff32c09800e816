-- A poll continues, or ends before anything is seen.
use Rattle.std.proofs.Common.{◌≡◌, true, inl, inr, Option, None, Some, is_none, sym}
use Rattle.desk.specs.declared.served.Served.{Served}
use Rattle.cli_base.specs.Outcome.{Outcome, Verdict}
use Rattle.cli_base.specs.Begun.{HasCome}
use Rattle.cli_base.specs.Due.{IsOneOrMemory}
use Rattle.cli_base.specs.Script.{Readings, Script, Runs}
use Rattle.cli_base.proofs.Begun.{EndsNow, memory_now}
use Rattle.cli_base.proofs.Scripts.{some_is}
use Rattle.poll_command.specs.Poll.{unless_ended}

pub ended_by : (end : Option Verdict) (next : Script) (due : Outcome) → IsOneOrMemory (λ verdict. end ≡ Some verdict) due → EndsNow (unless_ended end next) due
ended_by end next due (inr memory) = memory_now (unless_ended end next) due memory
ended_by None next due (inl (verdict, is, ends)) = absurd (cc is)
ended_by (Some other) next due (inl (verdict, is, ends)) = inl (verdict, sym (some_is is), ends)

pub gone_on : {x y : Served} (end : Option Verdict) (next : Script) (readings : Readings) (due : Outcome) → is_none end ≡ true →
    HasCome readings x y (Runs next) due → HasCome readings x y (Runs (unless_ended end next)) due
gone_on None next readings due none come = come
gone_on (Some verdict) next readings due none come = absurd (cc none)
