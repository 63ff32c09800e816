use Rattle.std.proofs.Common.{◌≡◌, ◌∙◌, ◌∷◌, None, Some, string_bytes, sym, ap, subst}
use Rattle.command_line.specs.Laws.{IsChecked}
use Rattle.command_line.specs.Line.{command_of, is_line, line_named}
use Rattle.command_line.specs.Words.{texts}
use Rattle.command_line.proofs.Checked.{checked-meaning, line_means, line_right, no_line_named}
use Rattle.command_line.proofs.commands.read.Goals as goal

pub read_line-requires : goal.read_line-requires
read_line-requires c =
    let words = texts c.in-Some.words.now in
    line_right (string_bytes c.in-Some.word.now) words c.in-Some-line_named.name
    (sym (c.line_named.ensures ∙ ap (λ word. line_named word words) c.as_str.ensures.value) ∙ c.in-Some-line_named.is)

pub returns-in_ok-read_line-in-Some-line_named-clause-read : goal.returns-in_ok-read_line-in-Some-line_named-clause-read
returns-in_ok-read_line-in-Some-line_named-clause-read c =
    let words = texts c.in-Some.words.now in
    let split : texts c.args.words.now ≡ string_bytes c.in-Some.word.now ∷ words = ap texts c.in-Some.ensures.cases.0 in
    let found = sym (c.line_named.ensures ∙ ap (λ word. line_named word words) c.as_str.ensures.value) ∙ c.in-Some-line_named.is in
    ap Some c.in_ok-read_line-in-Some-line_named.ensures ∙ sym (ap command_of split ∙ line_means (string_bytes c.in-Some.word.now) words _ found)

pub returns-in_ok-read_line-in-Some-line_named-clause-checked : goal.returns-in_ok-read_line-in-Some-line_named-clause-checked
returns-in_ok-read_line-in-Some-line_named-clause-checked c =
    let words = texts c.in-Some.words.now in
    let name = c.in-Some-line_named.name in
    let found = sym (c.line_named.ensures ∙ ap (λ word. line_named word words) c.as_str.ensures.value) ∙ c.in-Some-line_named.is in
    subst IsChecked (sym c.in_ok-read_line-in-Some-line_named.ensures)
    (checked-meaning name words (line_right (string_bytes c.in-Some.word.now) words name found))

pub returns-in_ok-read_line-in-Some-line_named-clause-no_line : goal.returns-in_ok-read_line-in-Some-line_named-clause-no_line
returns-in_ok-read_line-in-Some-line_named-clause-no_line c = λ none.
    let words = texts c.in-Some.words.now in
    let split : texts c.args.words.now ≡ string_bytes c.in-Some.word.now ∷ words = ap texts c.in-Some.ensures.cases.0 in
    let found = sym (c.line_named.ensures ∙ ap (λ word. line_named word words) c.as_str.ensures.value) ∙ c.in-Some-line_named.is in
    absurd (no_line_named (string_bytes c.in-Some.word.now) words c.in-Some-line_named.name found (sym (ap is_line split) ∙ none))

pub returns-in_err-read_line-in-Some-line_named-clause-no_line : goal.returns-in_err-read_line-in-Some-line_named-clause-no_line
returns-in_err-read_line-in-Some-line_named-clause-no_line c = λ none.
    let words = texts c.in-Some.words.now in
    let split : texts c.args.words.now ≡ string_bytes c.in-Some.word.now ∷ words = ap texts c.in-Some.ensures.cases.0 in
    let found = sym (c.line_named.ensures ∙ ap (λ word. line_named word words) c.as_str.ensures.value) ∙ c.in-Some-line_named.is in
    absurd (no_line_named (string_bytes c.in-Some.word.now) words c.in-Some-line_named.name found (sym (ap is_line split) ∙ none))

pub returns-in-None-line_named-clause-read : goal.returns-in-None-line_named-clause-read
returns-in-None-line_named-clause-read c =
    let words = texts c.in-Some.words.now in
    let split : texts c.args.words.now ≡ string_bytes c.in-Some.word.now ∷ words = ap texts c.in-Some.ensures.cases.0 in
    let found = sym (c.line_named.ensures ∙ ap (λ word. line_named word words) c.as_str.ensures.value) ∙ c.in-None-line_named.is in
    sym (ap command_of split ∙ line_means (string_bytes c.in-Some.word.now) words None found)
