use Rattle.std.proofs.Common.{◌≡◌, ◌++◌, map}
use Rattle.certifier.specs.Gathered.{claim_at}
use Rattle.certifier.proofs.certificate.listed.Given as goal

abbrev pub invariant-loop-assertion : goal.invariant-loop-assertion
invariant-loop-assertion l = l.list.items ++ map claim_at l.assertion-iterator ≡ map claim_at l.claims.entries
