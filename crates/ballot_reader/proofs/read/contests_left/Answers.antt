use Rattle.std.proofs.Common.{◌∙◌, ◌+◌, sym, ap}
use Rattle.ballots.specs.Grammar.{contest_of}
use Rattle.ballot_reader.proofs.Contests.{contests-broken, contests-missing, contests-more}
use Rattle.ballot_reader.proofs.read.contests_left.Goals as goal

pub returns-then-not-branch-clause-refused : goal.returns-then-not-branch-clause-refused
returns-then-not-branch-clause-refused c =
    let none = rw c.if-not-branch.true at c.in_ok-read.ensures in
    rw c.at_record.ensures
    (contests-missing c.args.n c.args.records.now.left c.loop-i.contests.items c.loop-i.i (rw none at c.loop-i.invariant) c.loop-i-test.true)

pub returns-in-Err-clause-refused : goal.returns-in-Err-clause-refused
returns-in-Err-clause-refused c =
    let next = rw c.if-not-branch.false at c.in_ok-read.ensures in
    let row = c.read.new.self.row in
    let h = sym (ap (λ cs. contest_of cs (2 + c.loop-i.i) row) c.deref.ensures.value) ∙ ap (contest_of c.deref.result.now (2 + c.loop-i.i)) (sym c.fields.ensures)
    ∙ sym c.in_ok-contest.ensures ∙ c.in-Err.is in
    rw c.at_record-in-Err.ensures
    (contests-broken c.args.n c.args.records.now.left c.loop-i.contests.items c.loop-i.i row c.read.new.self.left c.in-Err.rule
    (rw next at c.loop-i.invariant) c.loop-i-test.true h)

pub loop-i-preserved : goal.loop-i-preserved
loop-i-preserved c =
    let next = rw c.if-not-branch.false at c.in_ok-read.ensures in
    let row = c.read.new.self.row in
    let h = sym (ap (λ cs. contest_of cs (2 + c.loop-i.i) row) c.deref.ensures.value) ∙ ap (contest_of c.deref.result.now (2 + c.loop-i.i)) (sym c.fields.ensures)
    ∙ sym c.in_ok-contest.ensures ∙ c.in-Ok.is in
    rw c.in_ok-push-in-Ok.ensures.items
    (contests-more c.args.n c.args.records.now.left c.loop-i.contests.items c.loop-i.i row c.read.new.self.left c.in-Ok.contest
    (rw next at c.loop-i.invariant) c.loop-i-test.true h)
