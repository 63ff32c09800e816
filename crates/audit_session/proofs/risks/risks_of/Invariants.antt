use Rattle.std.proofs.Common.{◌≡◌, take}
use Rattle.session_state.specs.Sessions.{risks_of}
use Rattle.audit_session.proofs.risks.risks_of.Given as goal

abbrev pub invariant-loop-j : goal.invariant-loop-j
invariant-loop-j l = l.risks.items ≡ take l.j (risks_of l.cards l.gamma l.margins l.counts)
