use Rattle.std.proofs.Common.{ap, ◌∙◌}
use Rattle.assertion_file.specs.Reading.{assertion_file_of}
use Rattle.assertion_file.specs.Text.{json_of}
use Rattle.assertion_file.proofs.Files.{printed_text, text_reads_back}
use Rattle.assertion_file.proofs.Printed.{printed_reads_back}
use Rattle.assertion_file.proofs.print.print_file.Goals as goal

pub returns-clause-text : goal.returns-clause-text
returns-clause-text c =
    let sent = c.in-Ok.ensures.events in
    printed_text c.args.file.now sent.0 c.in-Ok.bytes.items _ sent.1.1 sent.1.2 sent.1.0 sent.2 c.in_ok-push.ensures.items

pub returns-clause-json : goal.returns-clause-json
returns-clause-json c =
    let sent = c.in-Ok.ensures.events in
    ap json_of (printed_text c.args.file.now sent.0 c.in-Ok.bytes.items _ sent.1.1 sent.1.2 sent.1.0 sent.2 c.in_ok-push.ensures.items)
    ∙ text_reads_back c.args.file.now sent.1.1 sent.1.2

pub returns-clause-reads_back : goal.returns-clause-reads_back
returns-clause-reads_back c =
    let sent = c.in-Ok.ensures.events in
    ap assertion_file_of (printed_text c.args.file.now sent.0 c.in-Ok.bytes.items _ sent.1.1 sent.1.2 sent.1.0 sent.2 c.in_ok-push.ensures.items)
    ∙ printed_reads_back c.args.file.now sent.1.1 sent.1.2
