use Rattle.std.proofs.Common.{◌∙◌, Err, length, not, refl, sym, ap}
use Rattle.std.proofs.lemmas.Option.{slice_get_read}
use Rattle.irv_base.proofs.Positions.{found_at, found_none}
use Rattle.ballots.specs.Grammar.{Contest, has_audited_size, unless_unsized}
use Rattle.ballots.specs.declared.fault.BRule.TheVariants.{B3}
use Rattle.ballot_reader.proofs.read.see_all_audited.Goals as goal

pub returns-in_default-clause-audited : goal.returns-in_default-clause-audited
returns-in_default-clause-audited c =
    ap (unless_unsized c.args.contests.now)
    (found_none (λ (contest : Contest). not (has_audited_size contest.candidates)) c.args.contests.now (sym c.in_default.ensures.place))

pub returns-clause-refused : goal.returns-clause-refused
returns-clause-refused c =
    let contests = c.args.contests.now in
    let place = c.in-Some.place in
    let contest = c.index-contests-place.result in
    let there = slice_get_read contests (length contests) place contest refl c.in-Some.ensures.within c.index-contests-place.is in
    rw c.at_record.ensures
    (ap (unless_unsized contests) (found_at (λ (x : Contest). not (has_audited_size x.candidates)) contests place (sym c.in-Some.ensures.place) ∙ there)
    ∙ ap (λ (x : Contest). Err (record { rule = B3; at = x.at })) (sym c.contest.view_is))
