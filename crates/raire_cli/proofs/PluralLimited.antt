-- If an audit of a plurality contest signs its session off, the risks were within the limit.
use Rattle.std.proofs.Common.{ℕ, List, IsTrue}
use Rattle.desk.specs.Desk.{File}
use Rattle.plurality.specs.Plural.{values_of}
use Rattle.session_state.specs.Content.{Content}
use Rattle.session_state.specs.Sessions.{is_signed_off}
use Rattle.raire_cli.specs.Pluralities.{PluralGoesOn, WerePluralWithin, claims, recorded}
use Rattle.raire_cli.proofs.Counting.{plural_fitting}
use Rattle.raire_cli.proofs.NextRounds.{Fitting, were_within}

pub fits : {words : List (List ℕ)} {files : List File} {next : Content} (on : PluralGoesOn words files next) →
    Fitting on.inputs.session (recorded on.inputs) (values_of on.inputs.basis.outcome) (claims on.inputs)
fits on = plural_fitting on.inputs on.bytes.session on.say.session on.say.basis.outcome on.of_files.facts

pub plural_limited : {words : List (List ℕ)} {files : List File} (next : Content) (on : PluralGoesOn words files next) → IsTrue (is_signed_off next.session) →
    WerePluralWithin on
plural_limited next on signed =
    were_within on.inputs.session (recorded on.inputs) on.inputs.entries (values_of on.inputs.basis.outcome) (claims on.inputs) (fits on)
    on.asks.task.draws next on.is_next signed
