use Rattle.ballot_ids.proofs.PagesLeft.{LeftOut}
use Rattle.ballot_ids.proofs.pages.Pages.put_closed.Given as goal

abbrev pub invariant-loop-number : goal.invariant-loop-number
invariant-loop-number l = LeftOut l.fn.self l.other l.self l.number-iterator
