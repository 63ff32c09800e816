use Rattle.std.proofs.Common.{◌≡◌, take, map}
use Rattle.certifier.proofs.InOrder.{entry_from}
use Rattle.certifier.proofs.claims.Claims.shorten.Given as goal

abbrev pub invariant-loop-claim : goal.invariant-loop-claim
invariant-loop-claim l = l.self-inside.list.items ≡ map entry_from (take l.claim-index l.claim-items)
