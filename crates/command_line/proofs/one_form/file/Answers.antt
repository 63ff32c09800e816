use Rattle.std.proofs.Common.{rules, ◌≡◌, ◌∙◌, None, sym, ap, filter, []}
use Rattle.std.specs.Prelude.{option_and_then, option_map, unwrap_or, slice_get}
use Rattle.std.proofs.lemmas.Iterator.Consumers.{YieldsList-from_first, YieldsList-from_filter, nth_from_yields_List}
use borrow.Author.Tests.{tests}
use Rattle.command_line.specs.Pieces.{is_file, file_in, files_in}
use Rattle.command_line.specs.Views.{piece}
use Rattle.command_line.proofs.Kept.{kept_at, text-or}
use Rattle.command_line.proofs.one_form.file.Goals as goal

pub returns-in-Some : goal.returns-in-Some
returns-in-Some c =
    let found : option_map piece c.nth.result ≡ slice_get (filter is_file c.args.pieces) c.args.i =
    nth_from_yields_List c.nth.result _ c.args.i c.nth.ensures.ran
    (YieldsList-from_filter _ is_file (YieldsList-from_first piece (λ pieces. pieces) c.args.pieces (cc)) c.filter.ensures.closure
    (λ x b q k. search (rules, tests))) in
    let file-is : slice_get (files_in c.args.pieces) c.args.i ≡ file_in (piece c.in-Some.piece) =
    sym (kept_at file_in c.args.pieces c.args.i) ∙ ap (option_and_then file_in) (sym found ∙ ap (option_map piece) c.in-Some.is) in
    ap (λ s. s.now) c.unwrap_or.ensures ∙ text-or c.file.result _ ∙ ap (λ t. unwrap_or t []) (c.file.ensures ∙ sym file-is)

pub returns-in-None : goal.returns-in-None
returns-in-None c =
    let found : option_map piece c.nth.result ≡ slice_get (filter is_file c.args.pieces) c.args.i =
    nth_from_yields_List c.nth.result _ c.args.i c.nth.ensures.ran
    (YieldsList-from_filter _ is_file (YieldsList-from_first piece (λ pieces. pieces) c.args.pieces (cc)) c.filter.ensures.closure
    (λ x b q k. search (rules, tests))) in
    let file-is : slice_get (files_in c.args.pieces) c.args.i ≡ None =
    sym (kept_at file_in c.args.pieces c.args.i) ∙ ap (option_and_then file_in) (sym found ∙ ap (option_map piece) c.in-None.is) in
    ap (λ t. unwrap_or t []) (sym file-is)
