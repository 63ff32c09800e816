use Rattle.std.proofs.Common.{◌≡◌, ◌∙◌, Some, false, true, sym, ap, ap₂, subst}
use Rattle.std.specs.Prelude.{unwrap_or}
use Rattle.clap.specs.Matches.{found_of}
use Rattle.clap.specs.Walk.{first_of, rows_of}
use Rattle.command_line.specs.OneForm.{may_be_number, number_in, value_text}
use Rattle.command_line.specs.Table.{default_of}
use Rattle.command_line.specs.Values.{is_best}
use Rattle.command_line.specs.declared.table.OptionName.TheVariants.{EachGamma}
use Rattle.command_line.proofs.Meanings.{none_where, number_where}
use Rattle.command_line.proofs.arguments.each_gamma.Goals as goal

pub returns : goal.returns
returns c = λ pieces fit shown.
    let rows = rows_of (found_of c.args.matches.now) in
    let text = value_text EachGamma pieces in
    let read : c.text-text.result.now ≡ text = c.text-text.ensures text (subst (λ id. first_of id rows ≡ Some text) (sym c.text.ensures) shown) in
    let other : is_best text ≡ false = subst (λ t. is_best t ≡ false) read (sym c.eq.ensures ∙ c.if-eq.false) in
    let (may, is) = number_where pieces fit other in
    let number = c.number_in.ensures (subst (λ t. may_be_number t ≡ true) (sym read) may) ∙ ap number_in read in
    ap Some (c.unwrap_or.ensures ∙ ap₂ unwrap_or number (c.default.ensures ∙ ap default_of c.kind.ensures)) ∙ is

pub returns-then-eq : goal.returns-then-eq
returns-then-eq c = λ pieces fit shown.
    let rows = rows_of (found_of c.args.matches.now) in
    let text = value_text EachGamma pieces in
    let read : c.text-text.result.now ≡ text = c.text-text.ensures text (subst (λ id. first_of id rows ≡ Some text) (sym c.text.ensures) shown) in
    none_where pieces (subst (λ t. is_best t ≡ true) read (sym c.eq.ensures ∙ c.if-eq.true))
