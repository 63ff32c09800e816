use Rattle.ballot_ids.proofs.PagesLeft.{LeftApart}
use Rattle.ballot_ids.proofs.pages.Pages.are_closed_apart.Given as goal

abbrev pub invariant-loop-number : goal.invariant-loop-number
invariant-loop-number l = LeftApart l.self l.other l.number-iterator
