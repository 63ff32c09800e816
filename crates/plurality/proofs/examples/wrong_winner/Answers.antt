use Rattle.std.proofs.Common.{refl}
use Rattle.std.specs.Fmt.{digits}
use Rattle.plurality.proofs.TwoCards.{published, terms, wrong, signed_off, counted}
use Rattle.plurality.proofs.examples.wrong_winner.Goals as goal

pub returns : goal.returns
unfolding digits
returns c = record { published = published; terms = terms; wrong = wrong; linked = refl; signed_off = signed_off; counted = counted }
