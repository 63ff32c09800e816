use Rattle.std.proofs.Common.{rules, ◌≡◌, Ok, IfOk, IfErr, sym, subst}
use Rattle.serde_json.specs.View.{view}
use Rattle.file_fault.specs.Refusals.{Refuses}
use Rattle.assertion_file.proofs.Headings.{file-some, file-none}
use Rattle.assertion_file.specs.Reading.{assertion_file_of}
use Rattle.assertion_file.proofs.read.read_tree.Goals as goal

pub returns-in-Ok-clause-read : goal.returns-in-Ok-clause-read
returns-in-Ok-clause-read c =
    let e = c.in-Ok.ensures.ok in
    subst (λ said. IfOk c.content_of.result (λ file. said ≡ Ok file)) (sym (file-some c.args.bytes.now (view c.in-Ok.value) e.0 e.1)) c.content_of.ensures.read

pub returns-in-Ok-clause-refused : goal.returns-in-Ok-clause-refused
returns-in-Ok-clause-refused c =
    let e = c.in-Ok.ensures.ok in
    subst (λ said. IfErr c.content_of.result (Refuses said)) (sym (file-some c.args.bytes.now (view c.in-Ok.value) e.0 e.1)) c.content_of.ensures.refused

pub returns-else-is_memory-clause-refused : goal.returns-else-is_memory-clause-refused
returns-else-is_memory-clause-refused c =
    let none = c.in-Err.ensures.err (search rules) in
    subst (Refuses (assertion_file_of c.args.bytes.now)) (sym c.refused.ensures) (file-none c.args.bytes.now none)
