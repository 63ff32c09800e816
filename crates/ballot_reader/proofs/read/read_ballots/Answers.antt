use Rattle.std.proofs.Common.{◌∙◌, ap, subst}
use Rattle.std.specs.Prelude.{option_copied}
use Rattle.std.proofs.lemmas.Result.{err_from_is_err_and}
use Rattle.csv_rows.specs.Fields.{numbered}
use Rattle.csv_rows.specs.Rows.{records_of}
use Rattle.file_fault.specs.Refusals.{Refuses}
use Rattle.ballots.specs.Grammar.{ballots_from}
use Rattle.ballot_reader.proofs.read.read_ballots.Goals as goal

pub returns-in_err-n-clause-refused : goal.returns-in_err-n-clause-refused
returns-in_err-n-clause-refused c =
    let p = err_from_is_err_and c.from_residual.result c.from_residual.ensures.1 in
    let asked = option_copied c.args.contest in
    let rows = c.of-records.ensures ∙ ap (λ text. numbered (records_of text)) c.without_mark.ensures in
    rw (p.1, p.2) (subst (λ left. Refuses (ballots_from asked left) c.in_err-n.field-0.0) rows (c.in_err-n.ensures.refused asked))
