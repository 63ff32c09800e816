use Rattle.std.proofs.Common.{◌≡◌, ◌||◌, false, drop, get_or, sym, ap, ap₂, ◌∙◌}
use Rattle.irv_base.specs.Candidates.{set_of}
use Rattle.assertions.specs.Refutation.{refutes}
use Rattle.cover_checker.specs.Indexed.{is_new}
use Rattle.trimmer.specs.Opened.{is_open}
use Rattle.trimmer.proofs.Below.{open-step}
use Rattle.trimmer.proofs.opened.Without.is_open.Goals as goal

pub returns-else-is_parent_open : goal.returns-else-is_parent_open
returns-else-is_parent_open c =
    let suffix = c.args.suffix.now in
    let claim = c.in-Some.claim in
    let parent : refutes claim (drop 1 suffix) ≡ false =
    ap (λ o. is_open o (drop 1 suffix)) (sym c.in-Some.is) ∙ sym c.requires.parent ∙ c.if-is_parent_open.false in
    c.is_new.ensures ∙ ap₂ (is_new claim) c.first.ensures c.set.ensures
    ∙ ap (λ b. b || is_new claim (get_or suffix 0 0) (set_of suffix)) (sym parent)
    ∙ open-step c.args.self.now.n claim suffix c.requires.proper c.requires.some ∙ ap (λ o. is_open o suffix) (sym c.in-Some.is)
