use Rattle.std.proofs.Common.{◌≡◌, ◌∙◌, ◌∷◌, string_bytes, sym, ap}
use Rattle.std.specs.Prelude.{is_some}
use Rattle.command_line.specs.Line.{is_line, line_named}
use Rattle.command_line.specs.Words.{texts}
use Rattle.command_line.proofs.line.is_line.Goals as goal

pub returns-in-Some : goal.returns-in-Some
returns-in-Some c =
    let split : texts c.args.words.now ≡ string_bytes c.in-Some.word.now ∷ texts c.in-Some.words.now = ap texts c.in-Some.ensures.cases.0 in
    c.is_some.ensures
    ∙ ap is_some (c.line_named.ensures ∙ ap (λ word. line_named word (texts c.in-Some.words.now)) c.as_str.ensures.value)
    ∙ sym (ap is_line split)
