use Rattle.std.proofs.Common.{◌∙◌, refl, ap, eq-eqb}
use Rattle.std.proofs.lemmas.Result.{IfOk-weaker}
use Rattle.ballot_reader.proofs.Adding.{same_at, same_some}
use Rattle.ballots.specs.Grammar.{Contest, file_of}
use Rattle.ballot_reader.specs.declared.wanted.Wanted.TheVariants.{One}
use Rattle.ballot_reader.specs.Kept.{KeptPart, file_with}
use Rattle.ballot_reader.proofs.Ended.{are_ballots, file-is}
use Rattle.ballot_reader.proofs.read.file_of.Goals as goal

pub ballots_with-requires-clause-kept : goal.ballots_with-requires-clause-kept
ballots_with-requires-clause-kept c =
    let audited = c.args.audited in
    let (ballots, kept) = c.requires.kept in
    let (contest, part) = c.taken-contest.result in
    let own = c.taken-contest.ensures.own (One audited) ballots kept (eq-eqb audited audited refl) in (
      file_of contest ballots,
      file-is contest ballots part own,
      are_ballots c.args.contests.items (One audited) ballots c.args.kept audited contest kept c.taken-contest.ensures.there,
    )

pub ballots_with-requires-clause-listed : goal.ballots_with-requires-clause-listed
ballots_with-requires-clause-listed c =
    let audited = c.args.audited in
    let (ballots, kept) = c.requires.kept in
    ap (λ (p : KeptPart). p.counted) (c.taken-contest.ensures.own (One audited) ballots kept (eq-eqb audited audited refl))

pub returns : goal.returns
returns c = IfOk-weaker c.ballots_with.result _ _ (λ file is chosen ballots at kept.
    let audited = c.args.audited in
    let (contest, part) = c.taken-contest.result in
    let own = c.taken-contest.ensures.own (One audited) ballots kept (eq-eqb audited audited refl) in
    same_some (file_with contest part) file (file_of contest ballots) is (file-is contest ballots part own)
    ∙ ap (λ (x : Contest). file_of x ballots) (same_at c.args.contests.items audited contest chosen c.taken-contest.ensures.there at))
    c.ballots_with.ensures
