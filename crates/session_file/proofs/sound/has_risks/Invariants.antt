use Rattle.std.proofs.Common.{◌≡◌, ℕ, ◌<◌, get_or}
use Rattle.session_state.specs.Sessions.{risks_of}
use Rattle.session_file.proofs.sound.has_risks.Given as goal

abbrev pub invariant-loop-i : goal.invariant-loop-i
invariant-loop-i l = (k : ℕ) → k < l.i → get_or l.risks k 0 ≡ get_or (risks_of l.cards l.gamma l.margins l.counts) k 0
