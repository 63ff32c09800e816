use Rattle.audit_report.proofs.Marks.{AreMarked}
use Rattle.audit_report.proofs.session.confirm.Given as goal

abbrev pub invariant-loop-j : goal.invariant-loop-j
invariant-loop-j l = AreMarked l.limit l.round l.initial.confirmed l.confirmed l.j
