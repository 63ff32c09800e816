use Rattle.std.proofs.Common.{◌≡◌, ◌+◌, ◌^◌, ◌<◌, ◌≤◌, ◌∷◌, ◌++◌, length, map, take, get_or, leb-true, sym, ap, subst, arith, ◌∙◌}
use Rattle.assertion_file.specs.Content.{candidate_count}
use Rattle.cover_checker.specs.declared.walk.SetWalk.TheVariants.{Ended}
use Rattle.trimmer.specs.Remaining.{assertions_in}
use Rattle.trimmer.specs.Spreading.{AreReached, IsHalt, assertions_with}
use Rattle.trimmer.proofs.Lefts.{assertion_in}
use Rattle.trimmer.proofs.Parted.{take-midst}
use Rattle.trimmer.proofs.SetTrials.{goes-at, reached-at, stands-at}
use Rattle.trimmer.proofs.by_sets.can_go_by_sets.Goals as goal

pub leave_out-requires-clause-with : goal.leave_out-requires-clause-with
leave_out-requires-clause-with c =
    let file = c.args.f.now in
    let d = c.index-claims-place.result in
    let left = c.args.others.now in
    let its : get_or file.claims c.args.place d ≡ d =
    ap (λ claims. get_or claims c.args.place d) (sym c.claims.ensures.same) ∙ sym c.index-claims-place.is in
    let with : map assertion_in (take (c.args.place + 1) file.claims ++ left.kept) ≡ assertions_with d left =
    ap (map assertion_in) (take-midst file.claims c.args.place d left.kept c.requires.place
    ∙ ap (λ claim. take c.args.place file.claims ++ claim ∷ left.kept) its ∙ ap (λ untried. untried ++ d ∷ left.kept) (sym c.requires.others)) in
    subst (λ n. AreReached n c.winner.result c.args.budget (assertions_with d left) c.args.reached.now) (sym (ap length c.candidates.ensures.same))
    (subst (λ winner. AreReached (candidate_count file) winner c.args.budget (assertions_with d left) c.args.reached.now) (sym c.winner.ensures.same)
    (subst (λ list. AreReached (candidate_count file) file.winner c.args.budget list c.args.reached.now) with c.requires.reached))

pub returns-in-Ok-clause-goes : goal.returns-in-Ok-clause-goes
returns-in-Ok-clause-goes c = λ _.
    let file = c.args.f.now in
    let later = c.args.others.now.kept in
    let claims = take c.args.place file.claims ++ later in
    let list = assertions_in c.args.others.now in
    let listed : list ≡ map assertion_in claims = ap (λ untried. map assertion_in (untried ++ later)) c.requires.others in
    goes-at file claims (c.args.place + 1) (length c.candidates.result.now) c.winner.result c.args.budget list (ap length c.candidates.ensures.same) c.winner.ensures.same listed (Ended c.leave_out.new.reached) c.in-Ok.ensures.without

pub returns-in-Ok-clause-reached : goal.returns-in-Ok-clause-reached
returns-in-Ok-clause-reached c =
    let file = c.args.f.now in
    let later = c.args.others.now.kept in
    let claims = take c.args.place file.claims ++ later in
    let list = assertions_in c.args.others.now in
    let listed : list ≡ map assertion_in claims = ap (λ untried. map assertion_in (untried ++ later)) c.requires.others in
    reached-at file claims (c.args.place + 1) (length c.candidates.result.now) c.winner.result c.args.budget list (ap length c.candidates.ensures.same) c.winner.ensures.same listed c.leave_out.new.reached c.in-Ok.ensures.without

pub returns-then-has_all_sets-clause-goes : goal.returns-then-has_all_sets-clause-goes
returns-then-has_all_sets-clause-goes c = λ _.
    let file = c.args.f.now in
    let later = c.args.others.now.kept in
    let claims = take c.args.place file.claims ++ later in
    let list = assertions_in c.args.others.now in
    let listed : list ≡ map assertion_in claims = ap (λ untried. map assertion_in (untried ++ later)) c.requires.others in
    let n = length c.candidates.result.now in
    let (order, stands) = subst (IsHalt n c.winner.result list) c.in-Err-Stands.field-0-is c.in-Err-Stands.ensures.halt in
    let below : c.winner.result < n = subst (λ k. c.winner.result < k) (sym (ap length c.candidates.ensures.same)) c.winner.ensures.below in
    let all : 2 ^ n ≤ c.args.budget + 3 = leb-true (2 ^ n) (c.args.budget + 3) (sym c.has_all_sets.ensures ∙ c.if-has_all_sets.true) in
    stands-at file claims (c.args.place + 1) (length c.candidates.result.now) c.winner.result c.args.budget list (ap length c.candidates.ensures.same) c.winner.ensures.same listed order
    stands below (omega (arith, c.candidates.ensures.fewest)) all
