use Rattle.std.proofs.Common.{◌≡◌, ◌<◌, ◌≤◌, ◌∙◌, false, List, ℕ, length, refl, sym, ap, subst, eq-eqb}
use Rattle.std.specs.Prelude.{All, IfSome}
use Rattle.std.proofs.lemmas.Result.{IfOk-weaker}
use Rattle.irv_base.specs.declared.limits.TheConstants.{MOST_RECORDS}
use Rattle.ballots.specs.Ballots.{votes_of, votes_with}
use Rattle.ballots.specs.Grammar.{Contest, file_of}
use Rattle.ballot_reader.specs.Kept.{KeptPart}
use Rattle.ballot_reader.specs.declared.wanted.Wanted.TheVariants.{VotesOf}
use Rattle.ballot_reader.proofs.Adding.{own_counted, same_at}
use Rattle.ballot_reader.proofs.Ended.{are_ballots}
use Rattle.ballot_reader.proofs.read.votes_kept.Goals as goal

pub votes_of-requires-clause-sized : goal.votes_of-requires-clause-sized
votes_of-requires-clause-sized c =
    let audited = c.args.audited in
    c.requires.sized audited c.taken-contest.result.0 c.taken-contest.ensures.there (eq-eqb audited audited refl)

pub votes_of-requires-clause-own : goal.votes_of-requires-clause-own
votes_of-requires-clause-own c =
    let audited = c.args.audited in
    let (ballots, kept) = c.requires.kept in
    let contest = c.taken-contest.result.0 in
    let own = c.taken-contest.ensures.own (VotesOf audited) ballots kept (eq-eqb audited audited refl) in
    subst (λ counted. IfSome counted (λ n. n ≡ length contest.candidates)) (sym (ap (λ (p : KeptPart). p.counted) (c.part.view_is ∙ own)))
    (own_counted false contest)

pub votes_of-requires-clause-most : goal.votes_of-requires-clause-most
votes_of-requires-clause-most c =
    let audited = c.args.audited in
    let (ballots, kept) = c.requires.kept in
    let own = c.taken-contest.ensures.own (VotesOf audited) ballots kept (eq-eqb audited audited refl) in
    let are = are_ballots c.args.contests.items (VotesOf audited) ballots c.args.kept audited c.taken-contest.result.0 kept c.taken-contest.ensures.there in
    subst (λ (rankings : List (List ℕ)). length rankings ≤ MOST_RECORDS) (sym (ap (λ (p : KeptPart). p.rankings) (c.part.view_is ∙ own))) are.most

pub votes_of-requires-clause-below : goal.votes_of-requires-clause-below
votes_of-requires-clause-below c =
    let audited = c.args.audited in
    let (ballots, kept) = c.requires.kept in
    let contest = c.taken-contest.result.0 in
    let own = c.taken-contest.ensures.own (VotesOf audited) ballots kept (eq-eqb audited audited refl) in
    let are = are_ballots c.args.contests.items (VotesOf audited) ballots c.args.kept audited contest kept c.taken-contest.ensures.there in
    subst (All (λ ranking. All (λ x. x < length contest.candidates) ranking)) (sym (ap (λ (p : KeptPart). p.rankings) (c.part.view_is ∙ own))) are.below

pub returns : goal.returns
returns c = IfOk-weaker c.votes_of.result _ _ (λ votes is chosen ballots at kept.
    let audited = c.args.audited in
    let contest = c.taken-contest.result.0 in
    let own = c.taken-contest.ensures.own (VotesOf audited) ballots kept (eq-eqb audited audited refl) in
    is ∙ ap (votes_with contest.id contest.candidates) (ap (λ (p : KeptPart). p.rankings) (c.part.view_is ∙ own))
    ∙ ap (λ (x : Contest). votes_of (file_of x ballots)) (same_at c.args.contests.items audited contest chosen c.taken-contest.ensures.there at))
    c.votes_of.ensures
