use Rattle.std.proofs.Common.{ℕ, List, [], sym, subst}
use Rattle.desk.specs.Count.{Rose}
use Rattle.cli_base.specs.Script.{Bytes, ByDesk}
use Rattle.cli_base.proofs.files.read_file.Goals as goal

pub returns-clause-read : goal.returns-clause-read
returns-clause-read g c =
    let (bytes, there, took) = c.in_ok-read_file_into.ensures.read in
    let readings = ByDesk (g.D.Desk.held c.args.desk.now) (Rose (g.D.Desk.faults c.args.desk.now) (g.D.Desk.faults c.read_file_into.new.desk)) in
    subst (λ came. readings c.args.file.now (Bytes came)) (sym {A = List ℕ} (took.taken [] c.new-bytes.ensures.items)) there
