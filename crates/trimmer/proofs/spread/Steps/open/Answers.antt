use Rattle.std.proofs.Common.{◌≡◌, true, sym, subst, ◌∙◌}
use Rattle.std.proofs.lemmas.Result.{on_ok_weaker}
use Rattle.assertions.specs.Assertions.{is_proper}
use Rattle.trimmer.specs.Remaining.{assertions_in}
use Rattle.trimmer.specs.Spreading.{AreOpenedFollowed}
use Rattle.trimmer.proofs.Spreads.{neb-twice, opened-by, opened-into}
use Rattle.trimmer.proofs.spread.Steps.open.Goals as goal

pub returns-then-has_neb-clause-opened : goal.returns-then-has_neb-clause-opened
returns-then-has_neb-clause-opened c =
    let s = c.args.self.now in
    let list = assertions_in s.claims.now in
    let old = c.args.reached.now in
    subst (λ a. AreOpenedFollowed s.n s.winner a list old old) (sym c.in-Neb.is)
    (neb-twice s.n s.winner s.budget list c.in-Neb.w c.in-Neb.l old old (sym c.has_neb.ensures ∙ c.if-has_neb.true))

pub returns-else-has_neb-clause-opened : goal.returns-else-has_neb-clause-opened
returns-else-has_neb-clause-opened c =
    let s = c.args.self.now in
    let list = assertions_in s.claims.now in
    let old = c.args.reached.now in
    let new = c.follow_by.new.reached in
    on_ok_weaker c.follow_by.result (λ followed.
    subst (λ a. AreOpenedFollowed s.n s.winner a list old new) (sym c.in-Neb.is)
    (opened-by s.n s.winner s.budget list c.in-Neb.w c.in-Neb.l old new followed)) c.follow_by.ensures.followed

pub returns-in-Nen-clause-opened : goal.returns-in-Nen-clause-opened
returns-in-Nen-clause-opened c =
    let s = c.args.self.now in
    let list = assertions_in s.claims.now in
    let old = c.args.reached.now in
    let new = c.follow_into.new.reached in
    on_ok_weaker c.follow_into.result (λ followed.
    subst (λ a. AreOpenedFollowed s.n s.winner a list old new) (sym c.in-Nen.is)
    (opened-into s.n s.winner s.budget list c.in-Nen.w c.in-Nen.l c.in-Nen.rest old new
    (subst (λ a. is_proper s.n a ≡ true) c.in-Nen.is c.requires.proper) followed)) c.follow_into.ensures.followed
