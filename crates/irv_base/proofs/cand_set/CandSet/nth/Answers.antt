use Rattle.std.proofs.Common.{sym, slice_get, ◌∙◌}
use Rattle.irv_base.specs.Candidates.{members}
use Rattle.irv_base.specs.declared.limits.TheConstants.{ROOM}
use Rattle.irv_base.proofs.Ranges.{after_member, after_other}
use Rattle.irv_base.proofs.cand_set.CandSet.nth.Goals as goal
use Rattle.irv_base.proofs.cand_set.CandSet.nth.Goals.{then-has+else-left-eq0, else-has}

pub loop-c-preserved : goal.loop-c-preserved
loop-c-preserved c =
    let wanted = slice_get (members c.args.self) c.args.i in
    let seen = c.loop-c.invariant in
    elim c.if-has.branch [
      | then-has+else-left-eq0 w ↦
          let next = after_member c.args.self c.loop-c.c ROOM c.loop-c.left wanted c.loop-c-test.true (sym c.has.ensures
          ∙ w.if-has.true) w.if-left-eq0.false seen.same seen.there in
          rw w.left-is (record { same = next.0; there = next.1 })
      | else-has w ↦
          let next = after_other c.args.self c.loop-c.c ROOM c.loop-c.left wanted c.loop-c-test.true (sym c.has.ensures
          ∙ w.if-has.false) seen.same seen.there in
          rw w.left-is (record { same = next.0; there = next.1 })
    ]
