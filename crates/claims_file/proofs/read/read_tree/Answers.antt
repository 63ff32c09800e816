use Rattle.std.proofs.Common.{rules, ◌≡◌, Ok, IfOk, IfErr, sym, subst}
use Rattle.serde_json.specs.View.{view}
use Rattle.file_fault.specs.Refusals.{Refuses}
use Rattle.claims_file.specs.Reading.{claims_of}
use Rattle.claims_file.proofs.Headings.{file-none, file-some}
use Rattle.claims_file.proofs.read.read_tree.Goals as goal

pub returns-in-Ok-clause-read : goal.returns-in-Ok-clause-read
returns-in-Ok-clause-read c =
    let e = c.in-Ok.ensures.ok in
    subst (λ said. IfOk c.claims_in.result (λ claims. said ≡ Ok claims))
    (sym (file-some c.args.contest.now c.args.names.now c.args.bytes.now (view c.in-Ok.value) e.0 e.1)) c.claims_in.ensures.read

pub returns-in-Ok-clause-refused : goal.returns-in-Ok-clause-refused
returns-in-Ok-clause-refused c =
    let e = c.in-Ok.ensures.ok in
    subst (λ said. IfErr c.claims_in.result (Refuses said))
    (sym (file-some c.args.contest.now c.args.names.now c.args.bytes.now (view c.in-Ok.value) e.0 e.1)) c.claims_in.ensures.refused

pub returns-else-is_memory-clause-refused : goal.returns-else-is_memory-clause-refused
returns-else-is_memory-clause-refused c =
    let none = c.in-Err.ensures.err (search rules) in
    subst (Refuses (claims_of c.args.contest.now c.args.names.now c.args.bytes.now)) (sym c.refused.ensures)
    (file-none c.args.contest.now c.args.names.now c.args.bytes.now none)
