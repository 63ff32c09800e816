use Rattle.std.proofs.Common.{◌≡◌, map, length, Ok, Err, ap, subst, ◌∙◌}
use Rattle.std.proofs.lemmas.List.{append-nil}
use Rattle.set_walk.specs.Walks.{passes}
use Rattle.cover_checker.specs.Findings.{assertions_of}
use Rattle.cover_checker.specs.Reaching.{IsReach}
use Rattle.trimmer.specs.Remaining.{assertions_in}
use Rattle.trimmer.proofs.Lefts.{assertion_in}
use Rattle.trimmer.proofs.SetTrials.{never-found, never-spent, reached-at}
use Rattle.trimmer.proofs.by_sets.first_reached.Goals as goal

pub returns-in-Ok-Ended : goal.returns-in-Ok-Ended
returns-in-Ok-Ended c =
    let file = c.args.f.now in
    let list = assertions_in c.args.all.now in
    let listed : list ≡ assertions_of file = ap assertions_in c.requires.all ∙ ap (map assertion_in) (append-nil file.claims) in
    reached-at file file.claims 0 (length c.candidates.result.now) c.winner.result c.args.budget list (ap length c.candidates.ensures.same)
    c.winner.ensures.same listed c.in-Ok-Ended.reached
    (subst (λ e. IsReach (length c.candidates.result.now) c.winner.result c.args.budget (passes list) (Ok e)) c.in-Ok-Ended.field-0-is
    (subst (IsReach (length c.candidates.result.now) c.winner.result c.args.budget (passes list)) c.in-Ok-Ended.is (c.reach.ensures list c.refuting.ensures)))

pub unreachable-requires : goal.unreachable-requires
unreachable-requires c =
    let file = c.args.f.now in
    let n = length c.candidates.result.now in
    let list = assertions_in c.args.all.now in
    let listed : list ≡ assertions_of file = ap assertions_in c.requires.all ∙ ap (map assertion_in) (append-nil file.claims) in
    never-found file file.claims n c.winner.result c.args.budget list (ap length c.candidates.ensures.same) c.winner.ensures.same listed c.requires.covered
    c.in-Ok-Found.field-0-0
    (subst (λ e. IsReach n c.winner.result c.args.budget (passes list) (Ok e)) c.in-Ok-Found.field-0-is
    (subst (IsReach n c.winner.result c.args.budget (passes list)) c.in-Ok-Found.is (c.reach.ensures list c.refuting.ensures)))

pub unreachable-requires-in-Err-Spent : goal.unreachable-requires-in-Err-Spent
unreachable-requires-in-Err-Spent c =
    let list = assertions_in c.args.all.now in
    let n = length c.candidates.result.now in
    subst (λ fault. IsReach n c.winner.result c.args.budget (passes list) (Err fault)) c.in-Err-Spent.field-0-is
    (subst (IsReach n c.winner.result c.args.budget (passes list)) c.in-Err-Spent.is (c.reach.ensures list c.refuting.ensures))

pub unreachable-requires-in-Err-SpentSets : goal.unreachable-requires-in-Err-SpentSets
unreachable-requires-in-Err-SpentSets c =
    let file = c.args.f.now in
    let n = length c.candidates.result.now in
    let list = assertions_in c.args.all.now in
    let listed : list ≡ assertions_of file = ap assertions_in c.requires.all ∙ ap (map assertion_in) (append-nil file.claims) in
    never-spent file file.claims n c.winner.result c.args.budget list (ap length c.candidates.ensures.same) c.winner.ensures.same listed c.requires.covered
    c.in-Err-SpentSets.field-0-0
    (subst (λ fault. IsReach n c.winner.result c.args.budget (passes list) (Err fault)) c.in-Err-SpentSets.field-0-is
    (subst (IsReach n c.winner.result c.args.budget (passes list)) c.in-Err-SpentSets.is (c.reach.ensures list c.refuting.ensures)))
