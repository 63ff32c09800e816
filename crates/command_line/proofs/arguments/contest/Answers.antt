use Rattle.std.proofs.Common.{◌≡◌, ◌∙◌, Some, sym, ap, subst}
use Rattle.clap.specs.Matches.{found_of}
use Rattle.clap.specs.Walk.{first_of, rows_of}
use Rattle.command_line.specs.OneForm.{name_in, value_text}
use Rattle.command_line.specs.declared.table.OptionName.TheVariants.{Contest}
use Rattle.command_line.proofs.Meanings.{contest-is}
use Rattle.command_line.proofs.arguments.contest.Goals as goal

pub returns : goal.returns
returns c = λ pieces fit shown.
    let rows = rows_of (found_of c.args.matches.now) in
    let text = value_text Contest pieces in
    let read = c.text-2.ensures text (subst (λ id. first_of id rows ≡ Some text) (sym c.text.ensures) shown) in
    c.name_in.ensures ∙ ap name_in read ∙ contest-is pieces fit
