use Rattle.std.proofs.Common.{◌≡◌, ◌∙◌, inr, [], ℕ, List, Option, Ok, ap, subst}
use Rattle.std.specs.Prelude.{option_copied}
use Rattle.irv_base.specs.Names.{Id}
use Rattle.desk.specs.Count.{Rose}
use Rattle.file_fault.specs.Refusals.{Refuses}
use Rattle.ballots.specs.Faults.{rule_name}
use Rattle.ballots.specs.Grammar.{ballots_of}
use Rattle.cli_base.specs.Script.{Bytes, ByDesk}
use Rattle.input_files.specs.Judged.{told}
use Rattle.input_files.specs.Refusals.{refused_ballots}
use Rattle.input_files.proofs.Judging.{refused_for}
use Rattle.input_files.proofs.votes.votes_of_file.Goals as goal

pub returns-in-Ok-clause-votes : goal.returns-in-Ok-clause-votes
returns-in-Ok-clause-votes g c =
    let (bytes, there, took) = c.in_ok-read_file_into.ensures.read in
    let readings = ByDesk (g.D.Desk.held c.args.desk.now) (Rose (g.D.Desk.faults c.args.desk.now) (g.D.Desk.faults c.read_file_into.new.desk)) in
    let asked : c.read_file_into.new.into.reader.asked ≡ option_copied c.args.contest = took.same ∙ c.new.ensures.asked ∙ c.copied.ensures in
    let (ballots, said, is) = c.in-Ok.ensures.read bytes (took.taken [] c.new.ensures.nothing) in (
      bytes,
      subst (λ (name : List ℕ). readings name (Bytes bytes)) c.as_str.ensures there,
      (ballots, ap (told (refused_ballots c.args.file.now)) (subst (λ (a : Option Id). ballots_of bytes a ≡ Ok ballots) asked said), is),
    )

pub returns-in-Err-clause-votes : goal.returns-in-Err-clause-votes
returns-in-Err-clause-votes g c =
    let (bytes, there, took) = c.in_ok-read_file_into.ensures.read in
    let readings = ByDesk (g.D.Desk.held c.args.desk.now) (Rose (g.D.Desk.faults c.args.desk.now) (g.D.Desk.faults c.read_file_into.new.desk)) in
    let asked : c.read_file_into.new.into.reader.asked ≡ option_copied c.args.contest = took.same ∙ c.new.ensures.asked ∙ c.copied.ensures in
    let fault = c.in-Err.fault in
    let refused = subst (λ (a : Option Id). Refuses (ballots_of bytes a) fault) asked (c.in-Err.ensures.refused bytes (took.taken [] c.new.ensures.nothing)) in
    inr (
      bytes,
      subst (λ (name : List ℕ). readings name (Bytes bytes)) c.as_str.ensures there,
      refused_for rule_name c.args.file.now (ballots_of bytes (option_copied c.args.contest)) fault c.refuse_file.result refused c.refuse_file.ensures,
    )
