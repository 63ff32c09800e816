use Rattle.std.proofs.Common.{◌≡◌, [], true, refl, sym, ap, subst, arith}
use Rattle.std.specs.Vec.Iter.{into_iter_items}
use Rattle.std.proofs.lemmas.List.{nil_from_length}
use Rattle.ballots.specs.Grammar.{file_of}
use Rattle.ballot_reader.specs.Kept.{IsKept, KeptPart}
use Rattle.ballot_reader.specs.declared.wanted.Wanted.TheVariants.{All as EachContest}
use Rattle.ballot_reader.proofs.Ended.{are_ballots, file-is}
use Rattle.ballot_reader.proofs.Filed.{FiledSoFar, all_taken, filed-end, filed-none, next_taken}
use Rattle.ballot_reader.proofs.read.files_of.Goals as goal

pub loop-contest-init : goal.loop-contest-init
loop-contest-init c = λ ballots before.
    let contests = c.args.contests.items in
    let kept = subst (IsKept contests EachContest ballots) (sym c.kept.view_is) before in
    rw (c.into_iter-contest-iterator.ensures.into_iter_gives.0, c.into_iter-parts.ensures.rest, c.in_ok-files.ensures.items)
    (filed-none contests ballots _ kept)

pub ballots_with-requires-clause-sized : goal.ballots_with-requires-clause-sized
ballots_with-requires-clause-sized c =
    let (ballots, before) = c.requires.kept in
    let part = rw c.in-Some-Some.field-0-is at c.in-Some-Some.ensures.items in
    let next = next_taken c.args.contests.items ballots c.in-Some.contest _ _ _ _ (c.loop-contest.invariant ballots before) c.in-Some.ensures.steps.0
    c.in-Some-Some.part _ part in
    c.requires.sized next.place c.in-Some.contest next.there (refl {a = true})

pub ballots_with-requires-clause-listed : goal.ballots_with-requires-clause-listed
ballots_with-requires-clause-listed c =
    let (ballots, before) = c.requires.kept in
    let part = rw c.in-Some-Some.field-0-is at c.in-Some-Some.ensures.items in
    let next = next_taken c.args.contests.items ballots c.in-Some.contest _ _ _ _ (c.loop-contest.invariant ballots before) c.in-Some.ensures.steps.0
    c.in-Some-Some.part _ part in
    ap (λ (p : KeptPart). p.counted) next.parted

pub ballots_with-requires-clause-kept : goal.ballots_with-requires-clause-kept
ballots_with-requires-clause-kept c =
    let (ballots, before) = c.requires.kept in
    let contests = c.args.contests.items in
    let contest = c.in-Some.contest in
    let part = rw c.in-Some-Some.field-0-is at c.in-Some-Some.ensures.items in
    let next = next_taken contests ballots contest _ _ _ _ (c.loop-contest.invariant ballots before) c.in-Some.ensures.steps.0
    c.in-Some-Some.part _ part in (
      file_of contest ballots,
      file-is contest ballots c.in-Some-Some.part next.parted,
      are_ballots contests EachContest ballots c.args.kept next.place contest before next.there,
    )

pub loop-contest-preserved : goal.loop-contest-preserved
loop-contest-preserved c = λ ballots before.
    let part = rw c.in-Some-Some.field-0-is at c.in-Some-Some.ensures.items in
    all_taken c.args.contests.items ballots c.in-Some.contest _ _ _ _ (c.loop-contest.invariant ballots before) c.in-Some.ensures.steps.0
    c.in-Some-Some.part _ part c.in_ok-ballots_with.field-0 _ c.in_ok-push.ensures.items c.in_ok-ballots_with.ensures

pub returns : goal.returns
returns c = λ ballots before.
    let contests = c.args.contests.items in
    let none : into_iter_items c.loop-contest.contest-iterator ≡ [] =
    nil_from_length (into_iter_items c.loop-contest.contest-iterator) (omega (arith, c.in-None.ensures.steps.0)) in
    let end = subst (λ left. FiledSoFar contests ballots left (into_iter_items c.loop-contest.parts)
    c.loop-contest.files.items) none (c.loop-contest.invariant ballots before) in
    filed-end contests ballots _ _ end
