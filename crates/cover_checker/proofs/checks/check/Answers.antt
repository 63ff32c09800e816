use Rattle.std.proofs.Common.{◌≡◌, true, sym, subst, ◌∙◌}
use Rattle.std.proofs.lemmas.Result.{err_from_is_err_and}
use Rattle.set_tallies.specs.Bags.{IsOf}
use Rattle.cover_checker.specs.Findings.{is_about}
use Rattle.cover_checker.proofs.Answered.{want-fault, checked-answer, fault-answer}
use Rattle.cover_checker.proofs.checks.check.Goals as goal

pub returns-in_err-winner-clause-fault : goal.returns-in_err-winner-clause-fault
returns-in_err-winner-clause-fault c =
    let p = err_from_is_err_and c.from_residual.result c.from_residual.ensures.1 in
    let about : is_about c.args.votes.now c.args.file.now ≡ true = sym c.is_about.ensures ∙ c.if-not-is_about.false in
    rw (p.1, p.2)
    (want-fault c.args.budget c.args.votes.now c.args.file.now about c.in_err-winner.field-0.0 c.in_err-winner.ensures.fault)

pub returns-clause-checked : goal.returns-clause-checked
returns-clause-checked c =
    let about : is_about c.args.votes.now c.args.file.now ≡ true = sym c.is_about.ensures ∙ c.if-not-is_about.false in
    let own : IsOf c.winner_of.new.tallies.bag c.args.votes.now.rankings =
    subst (λ t. IsOf t.bag c.args.votes.now.rankings) (sym c.winner_of.ensures.same) c.requires.records in
    checked-answer c.args.budget c.args.votes.now c.args.file.now about c.args.tallies.now.bag.n c.in_ok-winner.winner c.requires.candidates
    (c.in_ok-winner.ensures.winner c.args.votes.now.rankings c.requires.records) c.judge.result (c.judge.ensures.checked c.args.votes.now.rankings own)

pub returns-clause-fault : goal.returns-clause-fault
returns-clause-fault c =
    let about : is_about c.args.votes.now c.args.file.now ≡ true = sym c.is_about.ensures ∙ c.if-not-is_about.false in
    let own : IsOf c.winner_of.new.tallies.bag c.args.votes.now.rankings =
    subst (λ t. IsOf t.bag c.args.votes.now.rankings) (sym c.winner_of.ensures.same) c.requires.records in
    fault-answer c.args.budget c.args.votes.now c.args.file.now about c.args.tallies.now.bag.n c.in_ok-winner.winner c.requires.candidates
    (c.in_ok-winner.ensures.winner c.args.votes.now.rankings c.requires.records) c.judge.result (c.judge.ensures.fault c.args.votes.now.rankings own)
