use Rattle.std.proofs.Common.{subst}
use Rattle.std.specs.Prelude.{option_copied}
use Rattle.ballot_reader.specs.Stages.{HasReached}
use Rattle.ballot_reader.proofs.stage.Stage.begun.Goals as goal

pub returns-in-Refused-clause-refused : goal.returns-in-Refused-clause-refused
returns-in-Refused-clause-refused c = λ rows reached.
    subst (HasReached (option_copied c.args.asked) rows) c.in-Refused.is reached c.args.records.now.left
