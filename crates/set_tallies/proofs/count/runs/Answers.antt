use Rattle.std.proofs.Common.{rules, ◌≡◌, true, get_or, arith}
use Rattle.std.specs.Result.{is_ok}
use Rattle.std.proofs.lemmas.List.{get_or_default}
use Rattle.set_tallies.specs.declared.entry.Entry.{Entry}
use Rattle.set_tallies.proofs.Runs.{run-longer, run-next, joined}
use Rattle.set_tallies.proofs.count.runs.Goals as goal
use Rattle.set_tallies.proofs.count.runs.Goals.{then-entry-run, else-entry-run+in_ok-push}

pub loop-entry-preserved : goal.loop-entry-preserved
loop-entry-preserved c =
    let entries = c.args.entries.now in
    let i = c.loop-entry.entry-index in
    let entry : Entry = get_or entries i (record { before = 0; count = 0 }) in
    let at = get_or_default entries i (record { before = 0; count = 0 }) entry c.loop-entry-test.true in
    elim c.if-entry-run.branch [
      | then-entry-run w ↦ rw w.runs-is
          (rw w.run-is (run-longer entries c.loop-entry.runs.items c.loop-entry.run i entry c.loop-entry-test.true at w.if-entry-run.true
          c.loop-entry.invariant))
      | else-entry-run+in_ok-push w ↦
          let good : is_ok w.push.result ≡ true = search rules in
          let items = rw good at w.push.ensures.items in
          rw w.runs-is (rw w.run-is (rw items (run-next entries c.loop-entry.runs.items c.loop-entry.run i entry
          c.loop-entry-test.true at c.loop-entry.invariant)))
    ]

pub returns : goal.returns
returns c =
    let good : is_ok c.push-2.result ≡ true = search rules in
    let items = rw good at c.push-2.ensures.items in
    rw items (joined c.args.entries.now c.loop-entry.runs.items c.loop-entry.run c.loop-entry.entry-index (omega (arith, c.loop-entry-test.false))
    c.loop-entry.invariant)
