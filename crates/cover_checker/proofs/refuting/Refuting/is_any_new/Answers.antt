use Rattle.std.proofs.Common.{◌||◌, sym, ap, ◌∙◌}
use Rattle.irv_base.specs.Candidates.{has}
use Rattle.cover_checker.specs.Numbered.{under}
use Rattle.cover_checker.proofs.Indexing.{answers, or-first}
use Rattle.cover_checker.proofs.refuting.Refuting.is_any_new.Goals as goal

pub returns-then-is_beaten : goal.returns-then-is_beaten
returns-then-is_beaten c = λ list h.
    let r = c.args.self.now in
    or-first c.is_beaten.result (has (under r.nens c.args.set) c.args.first) c.if-is_beaten.true
    ∙ ap (λ b. b || has (under r.nens c.args.set) c.args.first) c.is_beaten.ensures.beaten
    ∙ answers list r c.args.first c.args.set c.is_beaten.ensures.fits h

pub returns-else-is_beaten : goal.returns-else-is_beaten
returns-else-is_beaten c = λ list h.
    let r = c.args.self.now in
    c.has.ensures ∙ ap (λ winners. has winners c.args.first) (c.get.ensures ∙ ap (under r.nens) c.number.ensures)
    ∙ ap (λ b. b || has (under r.nens c.args.set) c.args.first) (sym c.if-is_beaten.false ∙ c.is_beaten.ensures.beaten)
    ∙ answers list r c.args.first c.args.set c.is_beaten.ensures.fits h
