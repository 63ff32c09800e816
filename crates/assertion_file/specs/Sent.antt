-- What is sent to a writer.
use Rattle.std.specs.Prelude.{ℕ, List}
use Rattle.serde.specs.Event.{Log, Logs, field_key}
use Rattle.serde.specs.declared.name.Case.TheVariants.{AsIs}
use Rattle.serde_json.specs.Data.{Data}
use Rattle.serde_json.specs.Events.{SendsValue}

-- a member: its name, and then its value
abbrev pub SendsMember : List ℕ → Data → Log → Log → Type 0
SendsMember name value old new =
    (named : Log) × Logs old named (field_key name AsIs) × SendsValue value named new

abbrev pub SendsNamed : List ℕ × Data → Log → Log → Type 0
SendsNamed named = SendsMember named.0 named.1
