use Rattle.std.proofs.Common.{sym, subst}
use Rattle.std.proofs.lemmas.Result.{err_from_is_err_and}
use Rattle.ballot_reader.specs.Begun.{HasBegun}
use Rattle.ballot_reader.proofs.Beginning.{read-on, refused-there}
use Rattle.ballot_reader.proofs.begun.Begun.add_lines.Goals as goal

pub returns-in_err-at-clause-refused : goal.returns-in_err-at-clause-refused
returns-in_err-at-clause-refused g c =
    let p = err_from_is_err_and c.from_residual.result c.from_residual.ensures.1 in
    rw (p.1, p.2) (λ asked rows before more.
    let (chosen, earlier, is) = subst (HasBegun asked rows) (sym c.self.view_is) before in
    refused-there asked rows c.args.lines.now _ chosen earlier is c.in_err-at.field-0.0
    ((rw c.deref.ensures.value at c.in_err-at.ensures.refused) earlier is.up_to) more)

pub returns-clause-added : goal.returns-clause-added
returns-clause-added g c = λ asked rows before.
    let (chosen, earlier, is) = subst (HasBegun asked rows) (sym c.self.view_is) before in
    let (ballots, said, up_to) = (rw c.deref.ensures.value at c.in_ok-at.ensures.read) earlier is.up_to in
    (chosen, ballots, read-on asked rows c.args.lines.now _ chosen earlier is ballots c.add_lines.new.kept c.in_ok-at.at said up_to)
