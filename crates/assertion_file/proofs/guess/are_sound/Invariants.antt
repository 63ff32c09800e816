use Rattle.std.proofs.Common.{◌≡◌, true, ◌&&◌, take}
use Rattle.std.specs.List.{list_all}
use Rattle.assertions.specs.Assertions.{is_proper}
use Rattle.assertions.specs.declared.assertion.Claim.{Claim}
use Rattle.assertion_file.specs.Reading.{is_margin}
use Rattle.assertion_file.proofs.guess.are_sound.Given as goal

abbrev pub invariant-loop-claim : goal.invariant-loop-claim
invariant-loop-claim l =
    list_all (λ (claim : Claim). is_proper l.n claim.assertion && is_margin l.records claim.margin) (take l.claim-index l.claims) ≡ true
