use Rattle.std.proofs.Common.{◌≡◌, ◌<◌, ◌^◌, map, length, get_or, if◌then◌else◌, ap, subst, ◌∙◌}
use Rattle.std.proofs.lemmas.List.FromFn.{length-map-range_with_len}
use Rattle.irv_base.specs.Candidates.{candidates, has}
use Rattle.set_tallies.specs.Bags.{HasTallies, tallies}
use Rattle.set_tallies.specs.Rows.{votes_of}
use Rattle.set_tallies.proofs.Filled.{tallied, row-tallies, row-long}
use Rattle.set_tallies.proofs.Halving.{halves-row}
use Rattle.set_tallies.proofs.tallies.Tallies.tally.Goals as goal
use Rattle.set_tallies.proofs.tallies.Tallies.tally.Goals.{In_ok-answer, In_ok-row}

pub returns-in-Some-clause-tallies : goal.returns-in-Some-clause-tallies
returns-in-Some-clause-tallies c = λ records h.
    let row = c.in-Some.row.now in
    let s = c.args.s in
    let same = ap (λ t. t.bag) c.go_on.ensures in
    let n = c.candidates.ensures.same ∙ ap (λ t. t.bag.n) (c.self.view_is ∙ c.go_on.ensures) in
    c.in_ok-copied.ensures ∙ ap (λ k. map (λ d. if has s d then get_or row d 0 else 0) (candidates k)) n
    ∙ tallied records c.args.self.now.bag.n s row
    (subst (λ b. HasTallies records b.n s row) same (c.in-Some.ensures.tallies records (rw same h)))

pub returns-in-Some-clause-one_each : goal.returns-in-Some-clause-one_each
returns-in-Some-clause-one_each c =
    let n = c.candidates.ensures.same ∙ ap (λ t. t.bag.n) (c.self.view_is ∙ c.go_on.ensures) in
    ap length c.in_ok-copied.ensures
    ∙ length-map-range_with_len (λ d. if has c.args.s d then get_or c.in-Some.row.now d 0 else 0) 0 c.candidates.result ∙ n

-- the row that was read from halves
read : (c : In_ok-row) → c.in_ok-row.row.items ≡ votes_of c.self.inside.bag.now c.args.s
read c =
    let same = c.with_sums.ensures in
    let own = ap (λ t. t.bag.n) (c.self.view_is ∙ c.go_on.ensures) in
    let n = ap (λ b. b.n) same in
    let below : c.args.s < 2 ^ c.self.inside.bag.now.n = rw own c.requires in
    c.in_ok-row.ensures ∙ halves-row c.with_sums.result.now c.in-Some-halves_in.halves.now c.args.s c.in-Some-halves_in.ensures (rw n below)
    ∙ ap (λ b. votes_of b c.args.s) same

pub returns-in-Some-halves_in-clause-tallies : goal.returns-in-Some-halves_in-clause-tallies
returns-in-Some-halves_in-clause-tallies c = λ records h.
    let same = ap (λ t. t.bag) (c.self.view_is ∙ c.go_on.ensures) in
    read (goal.at.returns-in-Some-halves_in-clause-tallies c).In_ok-row
    ∙ row-tallies c.self.inside.bag.now records c.args.s (rw same c.requires) (rw same h) ∙ ap (λ b. tallies records b.n c.args.s) same

pub returns-in-Some-halves_in-clause-one_each : goal.returns-in-Some-halves_in-clause-one_each
returns-in-Some-halves_in-clause-one_each c =
    ap length (read (goal.at.returns-in-Some-halves_in-clause-one_each c).In_ok-row) ∙ row-long c.self.inside.bag.now c.args.s
    ∙ ap (λ t. t.bag.n) (c.self.view_is ∙ c.go_on.ensures)

-- the row that was counted
counted : (c : In_ok-answer) → c.in_ok-answer.answer.items ≡ votes_of c.self.inside.bag.now c.number-set.result
counted c = c.in_ok-answer.ensures.items ∙ c.deref.ensures.value ∙ c.in_ok-votes.ensures

pub returns-clause-tallies : goal.returns-clause-tallies
returns-clause-tallies c = λ records h.
    let same = ap (λ t. t.bag) (c.self.view_is ∙ c.go_on.ensures) in
    counted (goal.at.returns-clause-tallies c).In_ok-answer ∙ ap (votes_of c.self.inside.bag.now) c.number-set.ensures
    ∙ row-tallies c.self.inside.bag.now records c.args.s (rw same c.requires) (rw same h) ∙ ap (λ b. tallies records b.n c.args.s) same

pub returns-clause-one_each : goal.returns-clause-one_each
returns-clause-one_each c =
    ap length (counted (goal.at.returns-clause-one_each c).In_ok-answer) ∙ row-long c.self.inside.bag.now c.number-set.result ∙ ap (λ t. t.bag.n) (c.self.view_is ∙ c.go_on.ensures)
