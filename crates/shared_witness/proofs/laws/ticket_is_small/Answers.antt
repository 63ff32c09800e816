use Rattle.shared_witness.proofs.Allowed.{ticket_most}
use Rattle.shared_witness.proofs.laws.ticket_is_small.Goals as goal

pub returns : goal.returns
returns c t m h = ticket_most t m h
