use Rattle.std.proofs.Common.{ap, ◌∙◌}
use Rattle.assertion_file.specs.Text.{json_of}
use Rattle.session_file.proofs.PrintedText.{printed_text, text_reads_back}
use Rattle.session_file.proofs.print.print_session.Goals as goal

pub returns-clause-text : goal.returns-clause-text
returns-clause-text c =
    let of = c.in_ok-session_value.ensures in
    printed_text c.args.s.now _ c.in_ok-bytes.bytes.items _ of.sound of.forms of.value c.in_ok-bytes.ensures.text c.in_ok-push.ensures.items

pub returns-clause-json : goal.returns-clause-json
returns-clause-json c =
    let of = c.in_ok-session_value.ensures in
    ap json_of (printed_text c.args.s.now _ c.in_ok-bytes.bytes.items _ of.sound of.forms of.value c.in_ok-bytes.ensures.text c.in_ok-push.ensures.items)
    ∙ text_reads_back c.args.s.now of.sound of.forms
