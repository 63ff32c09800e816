use Rattle.std.proofs.Common.{◌≡◌, take}
use Rattle.cover_checker.specs.Draws.{clean_draws_for}
use Rattle.contest_search.proofs.draws.draws_of.Given as goal

abbrev pub invariant-loop-claim : goal.invariant-loop-claim
invariant-loop-claim l = l.draws.items ≡ clean_draws_for l.cards l.gamma l.limit (take l.claim-index l.file.claims)
