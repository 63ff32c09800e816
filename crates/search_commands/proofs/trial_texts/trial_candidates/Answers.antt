use Rattle.std.proofs.Common.{rules, ◌≡◌, ◌++◌, ◌∷◌, [], true, sym, ap₂, ◌∙◌}
use Rattle.std.specs.Result.{is_ok}
use Rattle.search_commands.proofs.TrialCandidates.{trial_candidates-more}
use Rattle.search_commands.proofs.trial_texts.trial_candidates.Goals as goal

pub loop-c-preserved : goal.loop-c-preserved
loop-c-preserved c =
    let good : is_ok c.push.result ≡ true = search rules in
    let items = rw good at c.push.ensures.items in
    items ∙ ap₂ (λ names id. names ++ id ∷ []) c.loop-c.invariant c.in_ok-numeral.ensures ∙ sym (trial_candidates-more c.loop-c.c)
