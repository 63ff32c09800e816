use Rattle.std.proofs.Common.{◌<◌, ◌∙◌, Some, None, length, refl, sym, ap, subst, arith}
use Rattle.std.specs.List.{slice_get}
use Rattle.std.proofs.lemmas.Bool.{not-true}
use Rattle.std.proofs.lemmas.Option.{slice_get_read}
use Rattle.irv_base.specs.declared.limits.TheConstants.{MOST_RECORDS}
use Rattle.ballots.specs.Grammar.{Ballot, ballot_ids, ranking_of}
use Rattle.ballot_reader.specs.Kept.{IsKept, KeptBallots}
use Rattle.ballot_reader.proofs.Adding.{IsNew, Meets, again, kept-more, met-at, none_of, not-false, ranked, some_of}
use Rattle.ballot_ids.proofs.IdBytes.{got}
use Rattle.ballots.proofs.Firsts.{is_ranking}
use Rattle.ballot_reader.proofs.kept.Kept.add.Goals as goal

pub returns-clause-kept : goal.returns-clause-kept
returns-clause-kept c = λ wanted ballots before.
    let contests = c.args.contests.now in
    let kept = subst (IsKept contests wanted ballots) (sym c.self.view_is) before in
    let room : length ballots < MOST_RECORDS = omega (arith, kept.counted, c.if-self-ge-MOST_RECORDS.false) in
    let row = c.args.fields in
    let head = c.in-Ok.head in
    let contest = c.index-contests-head.result in
    let there = slice_get_read contests (length contests) head.contest contest refl c.in-Ok.ensures.within c.index-contests-head.is in
    let (noted, at, met) = met-at ballots contests _ head.contest contest kept.noted there in
    let ids = ballot_ids contest.id ballots in
    let absent = not-true _ (sym (c.in_ok-note.ensures.new ids noted at met) ∙ c.if-not-branch.false) in
    let (more, put, are_noted) = c.in_ok-note.ensures.noted ids noted at met c.if-not-branch.false in
    let known = sym c.in_ok-keep.ensures.known ∙ c.if-not-branch-2.false in
    let (ranking, e) = some_of (ranking_of contest.candidates c.head_of.new.fields) known in
    let valid = is_ranking contest.candidates c.head_of.new.fields ranking e in
    let meets : Meets contests ballots c.args.at row head.contest head.id.now c.head_of.new.fields contest =
    record { room = room; follows = c.in-Ok.ensures.follows ballots c.args.at; there = there }
    in
    let ballot : Ballot = record { at = c.args.at; contest = contest.id; id = head.id.now; ranking = ranking } in
    let new : IsNew contests ballots head.contest contest ballot = record { there = there; of = refl; fresh = absent; valid = valid } in
    let (part, has) = got c.self.inside.parts.items head.contest (omega (
      arith,
      c.in-Ok.ensures.within,
      c.requires.parted,
      ap (λ (k : KeptBallots). length k.parts) c.self.view_is,
    )) in (
      ballot,
      ranked contests ballots c.args.at row head.contest head.id.now c.head_of.new.fields contest meets absent (Some ranking) e,
      kept-more contests wanted ballots _ _ head.contest contest ballot part more c.requires.differ kept c.if-self-ge-MOST_RECORDS.false new has
          put are_noted (c.in_ok-keep.ensures.kept ranking e part has) refl,
    )

pub keep-requires-clause-sized : goal.keep-requires-clause-sized
keep-requires-clause-sized c = λ part at.
    let contests = c.args.contests.now in
    let place = c.in-Ok.head.contest in
    let contest = c.index-contests-head.result in
    let there = slice_get_read contests (length contests) place contest refl c.in-Ok.ensures.within c.index-contests-head.is in
    c.requires.sized place contest part there (sym (ap (λ (k : KeptBallots). slice_get k.parts place) c.self.view_is) ∙ at)

pub keep-requires-clause-own : goal.keep-requires-clause-own
keep-requires-clause-own c = λ part at.
    let contests = c.args.contests.now in
    let place = c.in-Ok.head.contest in
    let contest = c.index-contests-head.result in
    let there = slice_get_read contests (length contests) place contest refl c.in-Ok.ensures.within c.index-contests-head.is in
    c.requires.own place contest part there (sym (ap (λ (k : KeptBallots). slice_get k.parts place) c.self.view_is) ∙ at)

pub returns-then-not-branch-clause-refused : goal.returns-then-not-branch-clause-refused
returns-then-not-branch-clause-refused c = rw c.at_record-then-not-branch.ensures (λ wanted ballots before.
    let contests = c.args.contests.now in
    let kept = subst (IsKept contests wanted ballots) (sym c.self.view_is) before in
    let head = c.in-Ok.head in
    let (contest, there) = got contests head.contest c.in-Ok.ensures.within in
    let (noted, at, met) = met-at ballots contests _ head.contest contest kept.noted there in
    let old = c.in_ok-note.ensures.new (ballot_ids contest.id ballots) noted at met in
    let meets : Meets contests ballots c.args.at c.args.fields head.contest head.id.now c.head_of.new.fields contest =
    record {
      room = omega (arith, kept.counted, c.if-self-ge-MOST_RECORDS.false);
      follows = c.in-Ok.ensures.follows ballots c.args.at;
      there = there;
    }
    in
    let among = not-false _ (sym old ∙ c.if-not-branch.true) in
    (again contests ballots c.args.at c.args.fields head.contest head.id.now c.head_of.new.fields contest meets among, refl))

pub returns-then-not-branch-2-clause-refused : goal.returns-then-not-branch-2-clause-refused
returns-then-not-branch-2-clause-refused c = rw c.at_record-then-not-branch-2.ensures (λ wanted ballots before.
    let contests = c.args.contests.now in
    let kept = subst (IsKept contests wanted ballots) (sym c.self.view_is) before in
    let head = c.in-Ok.head in
    let contest = c.index-contests-head.result in
    let there = slice_get_read contests (length contests) head.contest contest refl c.in-Ok.ensures.within c.index-contests-head.is in
    let (noted, at, met) = met-at ballots contests _ head.contest contest kept.noted there in
    let old = c.in_ok-note.ensures.new (ballot_ids contest.id ballots) noted at met in
    let meets : Meets contests ballots c.args.at c.args.fields head.contest head.id.now c.head_of.new.fields contest =
    record {
      room = omega (arith, kept.counted, c.if-self-ge-MOST_RECORDS.false);
      follows = c.in-Ok.ensures.follows ballots c.args.at;
      there = there;
    }
    in
    let absent = not-true _ (sym old ∙ c.if-not-branch.false) in
    let none = none_of (ranking_of contest.candidates c.head_of.new.fields) (sym c.in_ok-keep.ensures.known ∙ c.if-not-branch-2.true) in
    (ranked contests ballots c.args.at c.args.fields head.contest head.id.now c.head_of.new.fields contest meets absent None none, refl))
