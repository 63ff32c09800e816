use Rattle.std.proofs.Common.{subst, codes}
use Rattle.session_file.specs.Reading.{session_of}
use Rattle.cli_base.specs.Due.{due_refusal, IsOrMemory}
use Rattle.cli_base.specs.Outcome.{Refused, outcome}
use Rattle.input_files.proofs.Judging.{refused_or}
use Rattle.session_rounds.specs.Refusals.{refused_session}
use Rattle.session_rounds.proofs.sessions.session_in.Goals as goal

pub returns-in-Err-Refused : goal.returns-in-Err-Refused
returns-in-Err-Refused c =
    refused_or (session_of c.args.bytes.now) (refused_session c.args.file.now) c.refuse.result
    (rw c.in-Err-Refused.field-0-is at c.in-Err-Refused.ensures.refused)
    (subst (λ name. IsOrMemory (outcome (Refused name (codes "S1"))) (due_refusal c.refuse.result)) c.as_str.ensures c.refuse.ensures)
