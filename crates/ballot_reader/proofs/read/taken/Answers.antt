use Rattle.std.proofs.Common.{◌∙◌, Some, length, get_or, refl, sym, ap, subst, arith}
use Rattle.std.proofs.lemmas.Option.{slice_get_read}
use Rattle.ballot_reader.specs.Kept.{IsKept, keeps_origins, part_of}
use Rattle.ballot_reader.proofs.Adding.{same_at}
use Rattle.ballot_reader.proofs.Ended.{own-part, within-parts}
use Rattle.ballot_reader.proofs.read.taken.Goals as goal

pub swap_remove-requires : goal.swap_remove-requires
swap_remove-requires c =
    let (wanted, w, some) = c.requires.kept in
    let (ballots, before) = some in
    let kept = subst (IsKept c.args.contests.items wanted ballots) (sym c.kept.view_is) before in
    omega (
      arith,
      c.kept.inside.parts.ok,
      within-parts c.kept.inside.parts.items c.args.contests.items wanted ballots c.args.place kept.parted c.requires.within,
    )

pub unreachable-requires : goal.unreachable-requires
unreachable-requires c =
    let contests = c.args.contests.items in
    let place = c.args.place in
    let (wanted, w, some) = c.requires.kept in
    let (ballots, before) = some in
    let kept = subst (IsKept contests wanted ballots) (sym c.kept.view_is) before in
    let contest = c.swap_remove-contest.result in
    let there = slice_get_read contests (length contests) place contest refl c.requires.within c.swap_remove-contest.ensures.value in
    let parts = c.kept.inside.parts.items in
    let within = within-parts parts contests wanted ballots place kept.parted c.requires.within in
    let part = slice_get_read parts (length parts) place c.swap_remove.result refl within c.swap_remove.ensures.value in
    let own = own-part contests wanted place ballots _ contest kept w there in
    c.in_default.not-Some (part_of (keeps_origins wanted) ballots contest) (same_at parts place _ _ part own)

pub returns-clause-there : goal.returns-clause-there
returns-clause-there c =
    let contests = c.args.contests.items in
    slice_get_read contests (length contests) c.args.place c.swap_remove-contest.result refl c.requires.within c.swap_remove-contest.ensures.value

pub returns-clause-own : goal.returns-clause-own
returns-clause-own c = λ wanted ballots before w.
    let contests = c.args.contests.items in
    let place = c.args.place in
    let kept = subst (IsKept contests wanted ballots) (sym c.kept.view_is) before in
    let contest = c.swap_remove-contest.result in
    let there = slice_get_read contests (length contests) place contest refl c.requires.within c.swap_remove-contest.ensures.value in
    let parts = c.kept.inside.parts.items in
    let within = within-parts parts contests wanted ballots place kept.parted c.requires.within in
    let part = slice_get_read parts (length parts) place (Some c.in-Some.part) refl within
    (sym c.in-Some.is ∙ c.swap_remove.ensures.value ∙ ap (get_or parts place) c.in-Some.is) in
    let own = same_at parts place _ _ part (own-part contests wanted place ballots _ contest kept w there) in
    cc
