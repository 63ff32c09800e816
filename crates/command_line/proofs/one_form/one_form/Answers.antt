use Rattle.std.proofs.Common.{◌≡◌, ◌∙◌, ◌++◌, [], ◌∷◌, length, ap, ap₂, sym, codes}
use Rattle.std.proofs.lemmas.List.{length-map}
use Rattle.command_line.specs.OneForm.{options_given, files_given}
use Rattle.command_line.specs.Pieces.{pieces}
use Rattle.command_line.specs.Table.{form_of}
use Rattle.command_line.specs.Words.{texts}
use Rattle.command_line.proofs.Texts.{assembled}
use Rattle.command_line.proofs.one_form.one_form.Goals as goal

pub returns : goal.returns
returns c =
    let words = texts c.args.words.now in
    let form = form_of c.args.command in
    let count : length c.form-form.result.files.now ≡ length form.files = sym (length-map c.form-form.result.files.now (λ name. name.now))
    ∙ ap length c.form-form.ensures.files in
    assembled c.push.new.self.items c.push_options.new.line.items c.push-2.new.self.items c.push_files.new.line.items
    c.in_ok-from_str.field-0 c.in_ok-from_str-2.field-0 form.word (codes "--")
    (options_given form.options (pieces form.options words)) (files_given (length form.files) (pieces form.options words))
    (c.in_ok-push.ensures.items ∙ ap (λ items. items ++ c.in_ok-from_str.field-0 ∷ []) c.new-line.ensures.items)
    (c.in_ok-from_str.ensures.ok ∙ c.form-form.ensures.word)
    (c.in_ok-push_options.ensures ∙ ap (λ options. texts c.push.new.self.items ++ options_given options (pieces options words)) c.form-form.ensures.options)
    c.in_ok-push-2.ensures.items
    c.in_ok-from_str-2.ensures.ok
    (c.in_ok-push_files.ensures ∙ ap₂ (λ n options. texts c.push-2.new.self.items ++ files_given n (pieces options words)) count c.form-form.ensures.options)
