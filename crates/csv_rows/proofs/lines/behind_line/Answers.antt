use Rattle.std.proofs.Common.{◌∙◌, ◌+◌, drop, length, sym, ap, add-one, le_refl}
use Rattle.std.proofs.lemmas.List.{drop_all}
use Rattle.csv_rows.proofs.Cuts.{behind-cut, behind-none, rest-from}
use Rattle.csv_rows.proofs.lines.behind_line.Goals as goal

pub returns-in-Some : goal.returns-in-Some
returns-in-Some c =
    let text = c.args.text.now in
    let end = c.in-Some.end in
    let found = c.in-Some.ensures in
    rest-from (end + 1) text ∙ ap (λ n. drop n text) (add-one end) ∙ sym (behind-cut text end found.0.high found.0.before found.1)

pub returns-in-None : goal.returns-in-None
returns-in-None c =
    let text = c.args.text.now in
    rest-from (length text) text ∙ drop_all (length text) text (le_refl (length text)) ∙ sym (behind-none text c.in-None.ensures)
