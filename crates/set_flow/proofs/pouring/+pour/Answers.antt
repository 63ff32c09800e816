use Rattle.std.proofs.Common.{◌≡◌, ◌<◌, ◌+◌, ◌^◌, false, true, arith, eqb-true, sym, ap, subst, rules, ◌∙◌}
use Rattle.std.proofs.lemmas.Nat.{pow_pos}
use Rattle.irv_base.specs.Candidates.{has}
use Rattle.fewest.specs.Growth.{Draws}
use Rattle.set_flow.specs.Rooms.{room_of, is_free}
use Rattle.set_flow.specs.Kept.{carried}
use Rattle.set_flow.proofs.Poured.{begins-at, flows-on, next-below}
use Rattle.set_flow.proofs.pouring.+pour.Goals as goal

pub returns-then-eq-clause-flows : goal.returns-then-eq-clause-flows
returns-then-eq-clause-flows g t c = λ winner floor records rooms by are _.
    begins-at c.args.n winner records floor (carried c.args.flow.now.kept) c.args.set c.args.all
    (eqb-true c.args.set c.args.all (sym c.eq.ensures ∙ c.if-eq.true)) c.requires.all

pub pour-requires : goal.pour-requires
pour-requires g t c κs within =
    let out : has c.args.set c.loop-c.c ≡ false = sym c.has.ensures ∙ c.if-not-has.true in
    let number : c.with-next.result ≡ c.args.set + 2 ^ c.loop-c.c = c.with-next.ensures.number out in
    let below : c.with-next.result < 2 ^ c.args.n = next-below c.args.n c.args.set c.loop-c.c c.with-next.result c.requires.set c.loop-c-test.true out number in
    let some : 0 < 2 ^ c.loop-c.c = pow_pos c.loop-c.c in (
      omega (arith, number, below, some),
      (
        search rules,
        (
          c.requires.size ∙ sym (ap g.T.Steps.size (c.room.ensures.same ∙ c.loop-c.invariant.steps)),
          (c.requires.room, (c.requires.all, below)),
        ),
      ),
    )

pub returns-then-branch-clause-flows : goal.returns-then-branch-clause-flows
returns-then-branch-clause-flows g t c = λ winner floor records rooms by are _.
    let n = c.args.n in
    let set = c.args.set in
    let front = c.loop-c.c in
    let steps = c.loop-c.invariant.steps in
    let flow = c.loop-c.invariant.flow in
    let out : has set front ≡ false = sym c.has.ensures ∙ c.if-not-has.true in
    let number : c.with-next.result ≡ set + 2 ^ front = c.with-next.ensures.number out in
    let some : 0 < 2 ^ front = pow_pos front in
    let room : c.in_ok-room.room ≡ room_of n winner records floor set front =
    c.in_ok-room.ensures.room rooms (subst (λ s. g.T.Steps.is_by s rooms) (sym steps) by) ∙ are.each set front c.requires.set c.loop-c-test.true out in
    let here : c.over.result ≡ carried c.args.flow.now.kept set front = c.over.ensures ∙ ap (λ f. carried f.kept set front) flow in
    let free : is_free (room_of n winner records floor set front) (carried c.args.flow.now.kept set front) ≡ true =
    ap (λ r. is_free r (carried c.args.flow.now.kept set front)) (sym room) ∙ ap (is_free c.in_ok-room.room) (sym here) ∙ sym c.is_free.ensures
    ∙ c.if-is_free.true in
    let stays : carried c.pour.new.flow.kept set front ≡ carried c.args.flow.now.kept set front =
    c.in_ok-pour.ensures.before set front (omega (arith, number, some)) ∙ ap (λ f. carried f.kept set front) flow in
    let before : Draws n winner records floor (carried c.loop-c.flow.kept) (carried c.pour.new.flow.kept) c.with-next.result =
    c.in_ok-pour.ensures.flows winner floor records rooms (subst (λ s. g.T.Steps.is_by s rooms) (sym (c.room.ensures.same ∙ steps)) by) are c.if-branch.true in
    flows-on n winner records floor (carried c.args.flow.now.kept) (carried c.pour.new.flow.kept) (carried c.put.new.self.kept) set front c.with-next.result
    free stays number
    (subst (λ f. Draws n winner records floor (carried f.kept) (carried c.pour.new.flow.kept) c.with-next.result) flow before) c.in_ok-put.ensures
