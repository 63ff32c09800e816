-- A trial has one end, unless its budget runs out.
use Rattle.std.proofs.Common.{◌≡◌, inl, inr, ℕ, List, refl, sym, ap, ◌∙◌}
use Rattle.cli_base.specs.Outcome.{Verdict, outcome}
use Rattle.cli_base.specs.Script.{Agree, AreOfKind, IsOfKind, SameButBudget}
use Rattle.cli_base.specs.declared.outcome.AnswerKind.TheVariants.{Done, Tie, Spent}
use Rattle.cli_base.proofs.Ended.{one-same, of_answers, one-kind}
use Rattle.command.specs.declared.trial.TrialTask.{TrialTask}
use Rattle.contest_search.proofs.Certificates.{certificate-one}
use Rattle.search_commands.specs.Ends.{HasTieIn, HasSpent}
use Rattle.search_commands.specs.Trial.{contest_of, trial_text, HasLines, Tries, kinds, script}
use Rattle.search_commands.proofs.Ties.{tie-one, never_both}

lines-one : (task : TrialTask) (text other : List ℕ) → HasLines task text → HasLines task other → text ≡ other
lines-one task text other a b =
    a.shown ∙ ap (trial_text task.number) (certificate-one (contest_of task) a.file b.file a.found.is b.found.is) ∙ sym b.shown

tried-one : (task : TrialTask) (v w : Verdict) → Tries task v → Tries task w → SameButBudget (outcome v) (outcome w)
tried-one task v w (inl a) (inl b) = inl (ap outcome (one-same (HasLines task) Done (lines-one task) v w a b))
tried-one task v w (inl (text, a, i)) (inr (inl (other, b, j))) = absurd (never_both (contest_of task) a.found.is.winner other a.found.is.decided b.0)
tried-one task v w (inl (text, a, i)) (inr (inr (other, b, j))) = of_answers Done Spent text other v w i j (inr (inl refl, inr (inr (inl refl)), inr refl))
tried-one task v w (inr (inl (text, a, i))) (inl (other, b, j)) = absurd (never_both (contest_of task) b.found.is.winner text b.found.is.decided a.0)
tried-one task v w (inr (inl a)) (inr (inl b)) = inl (ap outcome (one-same (HasTieIn task.budget (contest_of task)) Tie (λ t o x y. tie-one (contest_of task) t o x.0 y.0) v w a b))
tried-one task v w (inr (inl (text, a, i))) (inr (inr (other, b, j))) =
    of_answers Tie Spent text other v w i j (inr (inr (inl refl), inr (inr (inl refl)), inr refl))
tried-one task v w (inr (inr (text, a, i))) (inl (other, b, j)) = of_answers Spent Done text other v w i j (inr (inr (inr (inl refl)), inl refl, inl refl))
tried-one task v w (inr (inr (text, a, i))) (inr (inl (other, b, j))) =
    of_answers Spent Tie text other v w i j (inr (inr (inr (inl refl)), inr (inl refl), inl refl))
tried-one task v w (inr (inr (text, a, i))) (inr (inr (other, b, j))) =
    of_answers Spent Spent text other v w i j (inr (inr (inr (inl refl)), inr (inr (inl refl)), inl refl))

pub agrees : (task : TrialTask) → Agree SameButBudget (script task)
agrees task = tried-one task

tried-kind : (task : TrialTask) (v : Verdict) → Tries task v → IsOfKind kinds v
tried-kind task v (inl a) = one-kind kinds (HasLines task) Done refl v a
tried-kind task v (inr (inl a)) = one-kind kinds (HasTieIn task.budget (contest_of task)) Tie refl v a
tried-kind task v (inr (inr a)) = one-kind kinds (HasSpent task.budget (contest_of task)) Spent refl v a

pub kinds_are : (task : TrialTask) → AreOfKind kinds (script task)
kinds_are task = tried-kind task
