use Rattle.ballots.specs.Faults.{rule_name}
use Rattle.input_files.proofs.Judging.{refused_for}
use Rattle.input_files.proofs.files.ballots_in.Goals as goal

pub returns-in-Err : goal.returns-in-Err
returns-in-Err c =
    refused_for rule_name c.args.file.now _ c.in-Err.fault c.refuse_file.result c.in-Err.ensures.refused c.refuse_file.ensures
