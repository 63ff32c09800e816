use Rattle.std.proofs.Common.{◌≡◌, drop}
use Rattle.std.specs.List.{list_any}
use Rattle.session_state.specs.Sessions.{meets}
use Rattle.session_state.proofs.sign_off.is_confirmed.Given as goal

abbrev pub invariant-loop-round : goal.invariant-loop-round
invariant-loop-round l = list_any (meets l.limit l.claim) l.rounds ≡ list_any (meets l.limit l.claim) (drop l.round-index l.rounds)
