use Rattle.std.proofs.Common.{◌≡◌, ◌<◌, ℕ, get_or}
use Rattle.assertions.specs.declared.assertion.Claim.{Claim}
use Rattle.session_state.proofs.inputs.are_margins.Given as goal

abbrev pub invariant-loop-i : goal.invariant-loop-i
invariant-loop-i l = (k : ℕ) → k < l.i → (d : Claim) → get_or l.margins k 0 ≡ (get_or l.claims k d).margin
