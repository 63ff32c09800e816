use Rattle.std.proofs.Common.{◌∙◌, ◌++◌, [], sym, ap}
use Rattle.std.specs.Prelude.{option_copied}
use Rattle.std.proofs.lemmas.List.{append-nil}
use Rattle.std.proofs.lemmas.Result.{err_from_is_err_and}
use Rattle.ballots.specs.Grammar.{ballots_from}
use Rattle.ballot_reader.proofs.Behind.{same-refusal}
use Rattle.ballot_reader.proofs.stage.Stage.votes.Goals as goal

pub returns-in_err-begun-2-clause-refused : goal.returns-in_err-begun-2-clause-refused
returns-in_err-begun-2-clause-refused c =
    let p = err_from_is_err_and c.from_residual-in_err-begun-2.result c.from_residual-in_err-begun-2.ensures.1 in
    let asked = option_copied c.args.asked in
    let left = c.begun.new.records.left in
    rw (p.1, p.2) (λ rows reached.
    let (first, split, begun) = c.in_ok-begun.ensures.begun rows reached in
    same-refusal _ _ c.in_err-begun-2.field-0.0 (ap (ballots_from asked) (split ∙ sym (append-nil (first ++ left))))
    (c.in_err-begun-2.ensures.refused asked first begun []))

pub returns-clause-read : goal.returns-clause-read
returns-clause-read c = λ rows reached.
    let asked = option_copied c.args.asked in
    let left = c.begun.new.records.left in
    let (first, split, begun) = c.in_ok-begun.ensures.begun rows reached in
    let (file, said, is) = c.in_ok-into_votes.ensures asked (first ++ left) (c.in_ok-begun-2.ensures.added asked first begun) in
    (file, ap (ballots_from asked) split ∙ said, is)
