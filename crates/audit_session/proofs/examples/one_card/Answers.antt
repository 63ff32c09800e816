use Rattle.audit_session.proofs.OneCard.{seen, goes_on, signed_off}
use Rattle.audit_session.proofs.examples.one_card.Goals as goal

pub returns : goal.returns
returns c = record { seen = seen; goes_on = goes_on; signed_off = signed_off }
