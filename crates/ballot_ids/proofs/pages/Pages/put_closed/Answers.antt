use Rattle.std.proofs.Common.{◌≡◌, ◌∷◌, subst}
use Rattle.ballot_ids.proofs.PagesLeft.{LeftOut, one-put, one-skipped}
use Rattle.ballot_ids.proofs.pages.Pages.put_closed.Goals as goal

pub loop-number-preserved-in-Continue-1 : goal.loop-number-preserved-in-Continue-1
loop-number-preserved-in-Continue-1 c =
    let old = c.args.self.now in
    let its = c.args.other.now in
    let number = c.in-Some.number.now in
    let page = c.in-Some.page.now in
    let left : c.loop-number.number-iterator ≡ (number, page) ∷ c.next.new.self = c.in-Some.ensures.steps in
    let told = c.in_ok-put.ensures in
    one-put old its c.loop-number.self c.put.new.self number page c.next.new.self c.if-number-other.true told.put told.others
    (subst (LeftOut old its c.loop-number.self) left c.loop-number.invariant)

pub loop-number-preserved : goal.loop-number-preserved
loop-number-preserved c =
    let old = c.args.self.now in
    let its = c.args.other.now in
    let number = c.in-Some.number.now in
    let page = c.in-Some.page.now in
    let left : c.loop-number.number-iterator ≡ (number, page) ∷ c.next.new.self = c.in-Some.ensures.steps in
    one-skipped old its c.loop-number.self number page c.next.new.self c.if-number-other.false
    (subst (LeftOut old its c.loop-number.self) left c.loop-number.invariant)
