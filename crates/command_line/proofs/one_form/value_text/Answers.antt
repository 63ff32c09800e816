use Rattle.std.proofs.Common.{rules, ◌≡◌, ◌∙◌, None, sym, ap, []}
use Rattle.std.specs.Prelude.{option_and_then, option_map, unwrap_or, find}
use Rattle.std.proofs.lemmas.Iterator.Consumers.{YieldsList-from_first}
use Rattle.std.proofs.lemmas.Iterator.Search.{find_from_yields_List}
use borrow.Author.Tests.{tests}
use Rattle.command_line.specs.Line.{value}
use Rattle.command_line.specs.Pieces.{gives, value_in}
use Rattle.command_line.specs.Views.{piece}
use Rattle.command_line.proofs.Kept.{found_first, text-or}
use Rattle.command_line.proofs.one_form.value_text.Goals as goal

pub returns-in-Some : goal.returns-in-Some
returns-in-Some c =
    let option = c.args.option in
    let found : option_map piece c.find.result ≡ find (gives option) c.args.pieces =
    find_from_yields_List (gives option) _ _ c.find.result c.find.ensures.ran (YieldsList-from_first piece (λ pieces. pieces) c.args.pieces (cc))
    (λ x b q k. search (rules, tests)) in
    let value-is : value option c.args.pieces ≡ value_in option (piece c.in-Some.piece) =
    sym (found_first (value_in option) c.args.pieces) ∙ ap (option_and_then (value_in option)) (sym found ∙ ap (option_map piece) c.in-Some.is) in
    ap (λ s. s.now) c.unwrap_or.ensures ∙ text-or c.value.result _ ∙ ap (λ t. unwrap_or t []) (c.value.ensures ∙ sym value-is)

pub returns-in-None : goal.returns-in-None
returns-in-None c =
    let option = c.args.option in
    let found : option_map piece c.find.result ≡ find (gives option) c.args.pieces =
    find_from_yields_List (gives option) _ _ c.find.result c.find.ensures.ran (YieldsList-from_first piece (λ pieces. pieces) c.args.pieces (cc))
    (λ x b q k. search (rules, tests)) in
    let value-is : value option c.args.pieces ≡ None =
    sym (found_first (value_in option) c.args.pieces) ∙ ap (option_and_then (value_in option)) (sym found ∙ ap (option_map piece) c.in-None.is) in
    ap (λ t. unwrap_or t []) (sym value-is)
