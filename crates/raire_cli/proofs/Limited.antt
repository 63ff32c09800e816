-- If an audit signs its session off, the risks were within the limit.
use Rattle.std.proofs.Common.{ℕ, List, IsTrue}
use Rattle.desk.specs.Desk.{File}
use Rattle.session_state.specs.Claims.{values_of}
use Rattle.session_state.specs.Content.{Content}
use Rattle.session_state.specs.Sessions.{is_signed_off}
use Rattle.raire_cli.specs.Audits.{GoesOn, WereAllWithin, claims, recorded}
use Rattle.raire_cli.proofs.Audited.{fitting}
use Rattle.raire_cli.proofs.NextRounds.{Fitting, were_within}

pub fits : {words : List (List ℕ)} {files : List File} {next : Content} (on : GoesOn words files next) →
    Fitting on.inputs.session (recorded on.inputs) (values_of on.inputs.basis.file) (claims on.inputs)
fits on = fitting on.inputs on.bytes.session on.say.session on.of_files.facts

pub limited : {words : List (List ℕ)} {files : List File} (next : Content) (on : GoesOn words files next) → IsTrue (is_signed_off next.session) →
    WereAllWithin on
limited next on signed =
    were_within on.inputs.session (recorded on.inputs) on.inputs.entries (values_of on.inputs.basis.file) (claims on.inputs) (fits on)
    on.asks.task.draws next on.is_next signed
