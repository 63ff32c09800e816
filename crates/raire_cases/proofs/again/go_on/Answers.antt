-- The session is as it was before the first try, so the answer to the second try is its own.
use Rattle.std.proofs.Common.{subst}
use Rattle.raire_cases.specs.Going.{GoesOn}
use Rattle.raire_cases.proofs.again.go_on.Goals as goal

pub returns-in-Err-Memory-clause-gone : goal.returns-in-Err-Memory-clause-gone
returns-in-Err-Memory-clause-gone c =
    let again = c.try_once-in-Err-Memory in
    subst (λ session. GoesOn session c.args.file.now c.args.linked.now c.args.seen.now c.args.draws again.result again.new.self.session)
    c.in-Err-Memory.ensures.gone.kept
    again.ensures.gone
