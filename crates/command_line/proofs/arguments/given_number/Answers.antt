use Rattle.std.proofs.Common.{◌≡◌, ◌∙◌, Some, true, sym, ap, subst}
use Rattle.clap.specs.Matches.{found_of}
use Rattle.clap.specs.Walk.{first_of, rows_of}
use Rattle.command_line.specs.OneForm.{may_be_number, number_in, value_text}
use Rattle.command_line.proofs.Meanings.{may_be, number-is}
use Rattle.command_line.proofs.arguments.given_number.Goals as goal

pub returns : goal.returns
returns c = λ pieces fit shown.
    let option = c.args.option in
    let rows = rows_of (found_of c.args.matches.now) in
    let text = value_text option pieces in
    let read = c.text-2.ensures text (subst (λ id. first_of id rows ≡ Some text) (sym c.text.ensures) shown) in
    c.number_in.ensures (subst (λ t. may_be_number t ≡ true) (sym read) (may_be option c.requires pieces fit))
    ∙ ap number_in read ∙ number-is option c.requires pieces fit
