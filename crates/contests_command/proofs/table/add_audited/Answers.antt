use Rattle.std.proofs.Common.{◌≡◌, ◌++◌, List, ℕ, rules, string_bytes}
use Rattle.assertion_file.specs.Ids.{id_of}
use Rattle.report.specs.Claims.{claim_lines}
use Rattle.contests_command.specs.Table.{line_of, winner_lines}
use Rattle.contests_command.proofs.Lines.{two_added}
use Rattle.contests_command.proofs.table.add_audited.Goals as goal

pub returns : goal.returns
returns c =
    let f = c.args.f.now in
    let head : List ℕ = winner_lines f.records (id_of f.candidates f.winner) f.margin in
    let added : string_bytes c.add_winner.new.text ≡ string_bytes c.args.text.now ++ head = search rules in
    two_added (string_bytes c.args.text.now) _ _ head (claim_lines (line_of f.candidates c.args.limit) f.claims c.args.counts.now c.args.risks.now) added
    c.in_ok-add_claims.ensures
