use Rattle.std.proofs.Common.{rules, ◌≡◌, Some, IfOk, IfErr, sym, subst}
use Rattle.serde_json.specs.View.{view}
use Rattle.session_file.specs.Faults.{Refuses}
use Rattle.session_file.proofs.Contents.{file-none, file-some}
use Rattle.session_file.proofs.read.read_session.Goals as goal

pub returns-in-Ok-clause-read : goal.returns-in-Ok-clause-read
returns-in-Ok-clause-read c =
    let e = c.in-Ok.ensures.ok in
    subst (λ said. IfOk c.content_of.result (λ session. said ≡ Some session))
    (sym (file-some c.args.bytes.now (view c.in-Ok.value) e.0 e.1)) c.content_of.ensures.read

pub returns-in-Ok-clause-refused : goal.returns-in-Ok-clause-refused
returns-in-Ok-clause-refused c =
    let e = c.in-Ok.ensures.ok in
    subst (λ said. IfErr c.content_of.result (Refuses said)) (sym (file-some c.args.bytes.now (view c.in-Ok.value) e.0 e.1)) c.content_of.ensures.refused

pub returns-else-is_memory-clause-refused : goal.returns-else-is_memory-clause-refused
returns-else-is_memory-clause-refused c = file-none c.args.bytes.now (c.in-Err.ensures.err (search rules))
