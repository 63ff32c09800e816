use Rattle.std.proofs.Common.{subst}
use Rattle.fewest_search.specs.Answers.{IsEnd, IsFault}
use Rattle.contest_search.proofs.FewestFound.{fewest-found, fewest-printable, fewest-spent}
use Rattle.contest_search.proofs.Findings.{told_by_sets, undecided_by_sets}
use Rattle.contest_search.proofs.fewest_found.fewest_of.Goals as goal

pub find_fewest-requires-clause-records : goal.find_fewest-requires-clause-records
find_fewest-requires-clause-records c = (c.args.votes.now.rankings, c.requires.counted.records)

pub file_of-requires : goal.file_of-requires
file_of-requires c =
    let bag = c.args.counted.now.bag in
    let t = c.args.tabulated.now in
    fewest-printable c.args.votes.now bag t c.requires.counted c.args.sets c.args.gap c.in-Found.found
    (λ records h. subst (IsEnd bag.n records t c.args.sets c.args.gap) c.in-Found.is (c.in-Ok.ensures.end records h))

pub tie_of-requires-clause-undecided : goal.tie_of-requires-clause-undecided
tie_of-requires-clause-undecided c =
    let bag = c.args.counted.now.bag in
    let t = c.args.tabulated.now in
    undecided_by_sets c.args.votes.now bag t c.requires.counted c.args.sets
    (λ records h. subst (IsEnd bag.n records t c.args.sets c.args.gap) c.in-Undecided.is (c.in-Ok.ensures.end records h))

pub returns-in_ok-file-in-Found : goal.returns-in_ok-file-in-Found
returns-in_ok-file-in-Found c =
    let bag = c.args.counted.now.bag in
    let t = c.args.tabulated.now in
    fewest-found c.args.votes.now bag t c.requires.counted c.args.sets c.args.gap c.in-Found.found
    (λ records h. subst (IsEnd bag.n records t c.args.sets c.args.gap) c.in-Found.is (c.in-Ok.ensures.end records h)) _ c.in_ok-file-in-Found.ensures

pub returns-in-Undecided : goal.returns-in-Undecided
returns-in-Undecided c =
    let bag = c.args.counted.now.bag in
    let t = c.args.tabulated.now in
    c.tie_of.ensures.fewest _ c.args.gap
    (told_by_sets c.args.votes.now bag t c.requires.counted c.args.sets
    (λ records h. subst (IsEnd bag.n records t c.args.sets c.args.gap) c.in-Undecided.is (c.in-Ok.ensures.end records h)))

pub returns-in-Spent : goal.returns-in-Spent
returns-in-Spent c =
    let bag = c.args.counted.now.bag in
    let t = c.args.tabulated.now in
    fewest-spent c.args.votes.now bag t c.requires.counted c.args.sets c.args.gap _ _
    (λ records h. subst (IsFault bag.n records t c.args.sets) c.in-Spent.is (c.in-Err.ensures.fault records h))
