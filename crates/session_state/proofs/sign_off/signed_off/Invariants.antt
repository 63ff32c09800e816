use Rattle.std.proofs.Common.{◌≡◌, ◌-◌, length}
use Rattle.std.specs.List.{list_all, list_any, range_with_len}
use Rattle.session_state.specs.Sessions.{is_signed_off, meets}
use Rattle.session_state.proofs.sign_off.signed_off.Given as goal

abbrev pub invariant-loop-claim : goal.invariant-loop-claim
invariant-loop-claim l =
    is_signed_off l.s.session
    ≡ list_all (λ claim. list_any (meets l.s.session.limit claim) l.s.session.rounds) (range_with_len l.claim (length l.s.session.margins - l.claim))
