use Rattle.std.proofs.Common.{ap, ◌∙◌}
use Rattle.claims_file.specs.Reading.{claims_of}
use Rattle.claims_file.proofs.Printed.{printed_reads_back}
use Rattle.claims_file.proofs.Values.{printed_text}
use Rattle.claims_file.proofs.print.print_claims.Goals as goal

pub returns : goal.returns
returns c =
    let sent = c.in-Ok.ensures.events in
    let contest = c.args.contest.now in
    let ids = c.args.names.now in
    let claims = c.args.claims.now in
    let names = sent.1.2 in
    ap (claims_of contest ids) (printed_text contest ids claims sent.1.1 names sent.0 c.in-Ok.bytes.items _ sent.1.0 sent.2 c.in_ok-push.ensures.items)
    ∙ printed_reads_back contest ids claims sent.1.1 names c.requires.differ c.requires.sound
