use Rattle.std.proofs.Common.{◌≡◌, ◌<◌, false, length, get_or, sym, subst, arith, ◌∙◌}
use Rattle.std.proofs.lemmas.List.{get_or_read}
use Rattle.set_flow.specs.Seen.{IsReached}
use Rattle.set_flow.proofs.Places.{longer-length}
use Rattle.set_flow.proofs.ways.find_way.Goals as goal
use Rattle.set_flow.proofs.ways.find_way.Goals.{then-len-many+else-many, else-len-many+in_ok-map_err+else-place-eq0}

pub returns-then-branch-clause-links : goal.returns-then-branch-clause-links
returns-then-branch-clause-links g c = λ rooms by.
    c.in_ok-go_on.ensures.links rooms (subst (λ s. g.T.Steps.is_by s rooms) (sym c.loop-turn.invariant.steps) by) (c.loop-turn.invariant.links rooms by)

pub loop-turn-preserved : goal.loop-turn-preserved
loop-turn-preserved g c =
    let i = c.loop-turn.invariant in
    let old = c.loop-turn.seen.sets.keys in
    let new = c.go_on.new.seen in
    let place = c.loop-turn.place in
    let there : place < length new.sets.keys = longer-length old new.sets.keys place c.in_ok-go_on.ensures.longer i.within in
    let linked = c.in_ok-go_on.ensures.linked in
    record {
      steps = c.go_on.ensures.same ∙ i.steps;
      linked = linked;
      links = λ rooms by. c.in_ok-go_on.ensures.links rooms (subst (λ s. g.T.Steps.is_by s rooms) (sym i.steps) by) (i.links rooms by);
      none = subst (IsReached new.sets.keys c.args.all) c.if-branch.false c.in_ok-go_on.ensures.all;
      within = elim c.if-len-many.branch [
        | then-len-many+else-many w ↦ let is = w.place-is in let len = c.len.ensures in let many = c.len-many.ensures in let more = w.if-len-many.true in omega (arith, is, len, many, more)
        | else-len-many+in_ok-map_err+else-place-eq0 w ↦
            let each = linked.from_each in
            let e : w.index-place.result.now ≡ get_or new.from.items place 0 = get_or_read new.from.items _ _ (omega (arith, there, each)) w.index-place.ensures 0 in
            let some : 0 < place = let apart = w.if-place-eq0.false in omega (arith, apart) in
            let l : get_or new.from.items place 0 < place = linked.earlier place some there in
            let is = w.place-is in
            omega (arith, e, l, is, there)
      ];
    }
