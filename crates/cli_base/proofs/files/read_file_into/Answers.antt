use Rattle.std.proofs.Common.{ap, Err}
use Rattle.cli_base.proofs.ReadFiles.{too_long_stops, fault_stops}
use Rattle.cli_base.proofs.files.read_file_into.Goals as goal

pub returns-in-Err-TooLong-clause-stopped : goal.returns-in-Err-TooLong-clause-stopped
returns-in-Err-TooLong-clause-stopped g c =
    too_long_stops _ _ c.args.file.now _ (rw c.in-Err-TooLong.field-0-is at c.in-Err-TooLong.ensures.unread) c.refuse-in-Err-TooLong.ensures

pub returns-in-Err-ReadFault-clause-stopped : goal.returns-in-Err-ReadFault-clause-stopped
returns-in-Err-ReadFault-clause-stopped g c =
    fault_stops _ _ c.args.file.now _ (c.in-Err-ReadFault.ensures.cause (ap Err c.in-Err-ReadFault.field-0-is)) c.refuse-in-Err-ReadFault.ensures
