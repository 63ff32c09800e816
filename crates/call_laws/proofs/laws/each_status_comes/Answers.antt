use Rattle.call_laws.proofs.EachStatus.{each_status}
use Rattle.call_laws.proofs.laws.each_status_comes.Goals as goal

pub returns : goal.returns
returns c = each_status
