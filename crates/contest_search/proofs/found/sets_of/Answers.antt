use Rattle.std.proofs.Common.{subst}
use Rattle.set_search.specs.Answers.{IsEnd, IsFault}
use Rattle.contest_search.proofs.Findings.{is_found_by_sets, is_printable_by_sets, spent_by_sets, told_by_sets, undecided_by_sets}
use Rattle.contest_search.proofs.found.sets_of.Goals as goal

pub file_of-requires : goal.file_of-requires
file_of-requires c =
    let bag = c.args.counted.now.bag in
    let t = c.args.tabulated.now in
    is_printable_by_sets c.args.votes.now bag t c.requires.counted c.args.sets c.in-Certificate.certificate
    (λ records h. subst (IsEnd bag.n records t c.args.sets) c.in-Certificate.is (c.in-Ok.ensures.end records h))

pub tie_of-requires-clause-undecided : goal.tie_of-requires-clause-undecided
tie_of-requires-clause-undecided c =
    let bag = c.args.counted.now.bag in
    let t = c.args.tabulated.now in
    undecided_by_sets c.args.votes.now bag t c.requires.counted c.args.sets
    (λ records h. subst (IsEnd bag.n records t c.args.sets) c.in-Undecided.is (c.in-Ok.ensures.end records h))

pub returns-in_ok-file-in-Certificate : goal.returns-in_ok-file-in-Certificate
returns-in_ok-file-in-Certificate c =
    let bag = c.args.counted.now.bag in
    let t = c.args.tabulated.now in
    is_found_by_sets c.args.votes.now bag t c.requires.counted c.args.sets c.in-Certificate.certificate _
    (λ records h. subst (IsEnd bag.n records t c.args.sets) c.in-Certificate.is (c.in-Ok.ensures.end records h)) c.in_ok-file-in-Certificate.ensures

pub returns-in-Undecided : goal.returns-in-Undecided
returns-in-Undecided c =
    let bag = c.args.counted.now.bag in
    let t = c.args.tabulated.now in
    c.tie_of.ensures.found _
    (told_by_sets c.args.votes.now bag t c.requires.counted c.args.sets
    (λ records h. subst (IsEnd bag.n records t c.args.sets) c.in-Undecided.is (c.in-Ok.ensures.end records h)))

pub returns-in-Spent : goal.returns-in-Spent
returns-in-Spent c =
    let bag = c.args.counted.now.bag in
    let t = c.args.tabulated.now in
    spent_by_sets c.args.votes.now bag t c.requires.counted c.args.sets _ _
    (λ records h. subst (IsFault bag.n records t c.args.sets) c.in-Spent.is (c.in-Err.ensures.fault records h))
