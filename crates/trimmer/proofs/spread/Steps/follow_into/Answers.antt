use Rattle.std.proofs.Common.{◌≡◌, inl, false, true, sym, ap, subst, ◌∙◌}
use Rattle.std.proofs.lemmas.Result.{on_ok_weaker}
use Rattle.set_walk.specs.Dives.{is_seen}
use Rattle.trimmer.specs.Remaining.{assertions_in}
use Rattle.trimmer.specs.Spreading.{IsFollowed}
use Rattle.trimmer.proofs.Spreads.{behind-is, contains-seen, seen-contains}
use Rattle.trimmer.proofs.spread.Steps.follow_into.Goals as goal

pub follow-requires-clause-start : goal.follow-requires-clause-start
follow-requires-clause-start c =
    inl (c.requires.stand c.without-tail.result (seen-contains c.args.reached.now c.without-tail.result (sym c.contains.ensures ∙ c.if-contains.true)))

pub returns-then-contains-clause-followed : goal.returns-then-contains-clause-followed
returns-then-contains-clause-followed c =
    let s = c.args.self.now in
    let list = assertions_in s.claims.now in
    on_ok_weaker c.follow.result (λ followed tail there out same.
    subst (λ set. IsFollowed list c.follow.new.reached set c.args.c)
    (behind-is s.n s.winner s.budget list c.args.set c.args.c tail c.without-tail.result c.without-tail.ensures out (c.requires.stand tail there) same
    c.requires.below) followed) c.follow.ensures.followed

pub returns-else-contains-clause-followed : goal.returns-else-contains-clause-followed
returns-else-contains-clause-followed c = λ tail there out same passing.
    let s = c.args.self.now in
    let is : c.without-tail.result ≡ tail =
    behind-is s.n s.winner s.budget (assertions_in s.claims.now) c.args.set c.args.c tail c.without-tail.result c.without-tail.ensures out
    (c.requires.stand tail there) same c.requires.below in
    let seen : is_seen c.args.reached.now c.without-tail.result ≡ true =
    ap (is_seen c.args.reached.now) is ∙ contains-seen c.args.reached.now tail there in
    let never : true ≡ false = sym seen ∙ sym c.contains.ensures ∙ c.if-contains.false in
    absurd cc
