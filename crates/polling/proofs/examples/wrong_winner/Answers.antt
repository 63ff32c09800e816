use Rattle.audit_laws.proofs.TwoCards.{terms, wrong}
use Rattle.polling.proofs.TwoCards.{confirmed, counted, cover}
use Rattle.polling.proofs.examples.wrong_winner.Goals as goal

pub returns : goal.returns
returns c = record { cover = cover; terms = terms; wrong = wrong; confirmed = confirmed; counted = counted }
