-- The kind of an answer that says whether everything is confirmed.
use Rattle.std.specs.Prelude.{Bool, true, false}
use Rattle.cli_base.specs.declared.outcome.AnswerKind.{AnswerKind}
use Rattle.cli_base.specs.declared.outcome.AnswerKind.TheVariants.{Done, Unconfirmed}

abbrev pub confirmed_kind : Bool → AnswerKind
confirmed_kind true = Done
confirmed_kind false = Unconfirmed
