use Rattle.ballots.specs.Faults.{rule_name}
use Rattle.input_files.proofs.Judging.{refused_for}
use Rattle.input_files.proofs.files.contests_in.Goals as goal

pub returns-in-Err-clause-refused : goal.returns-in-Err-clause-refused
returns-in-Err-clause-refused c =
    refused_for rule_name c.args.file.now _ c.in-Err.fault c.refuse_file.result c.in-Err.ensures.refused c.refuse_file.ensures
