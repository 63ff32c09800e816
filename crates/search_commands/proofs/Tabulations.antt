-- A tabulation has one end, unless its budget runs out.
use Rattle.std.proofs.Common.{◌≡◌, inl, inr, ℕ, List, refl, sym, ap, ◌∙◌}
use Rattle.ballots.specs.Ballots.{BallotFile}
use Rattle.ballots.specs.Grammar.{ballots_of}
use Rattle.report.specs.Tabulations.{tabulation_text}
use Rattle.cli_base.specs.Outcome.{Verdict, outcome}
use Rattle.cli_base.specs.Script.{Agree, AreOfKind, IsOfKind, SameButBudget}
use Rattle.cli_base.specs.declared.outcome.AnswerKind.TheVariants.{Done, Tie, Spent}
use Rattle.cli_base.proofs.Ended.{one-same, of_answers, one-kind}
use Rattle.command.specs.declared.tabulate.TabulateTask.{TabulateTask}
use Rattle.input_files.specs.Judged.{told}
use Rattle.input_files.specs.Refusals.{refused_ballots}
use Rattle.input_files.proofs.Going.{go_on-kinds, told-only}
use Rattle.contest_search.proofs.Contests.{same_tabulated, winner-one}
use Rattle.search_commands.specs.Ends.{HasTie}
use Rattle.search_commands.specs.Tabulate.{HasRounds, HasStopped, Tabulates, kinds, script}
use Rattle.search_commands.proofs.Going.{go_on-agrees}
use Rattle.search_commands.proofs.Ties.{tie-one, never_both}

rounds-one : (ballots : BallotFile) (text other : List ℕ) → HasRounds ballots text → HasRounds ballots other → text ≡ other
rounds-one ballots text other a b =
    let same = same_tabulated ballots a.winner b.winner a.won b.won in
    a.shown ∙ ap (λ order. tabulation_text ballots order a.winner) same
    ∙ ap (tabulation_text ballots b.won.order) (winner-one ballots a.winner b.winner a.won b.won) ∙ sym b.shown

tabulated-one : (nodes : ℕ) (ballots : BallotFile) (v w : Verdict) → Tabulates nodes ballots v → Tabulates nodes ballots w →
    SameButBudget (outcome v) (outcome w)
tabulated-one nodes ballots v w (inl a) (inl b) = inl (ap outcome (one-same (HasRounds ballots) Done (rounds-one ballots) v w a b))
tabulated-one nodes ballots v w (inl (text, a, i)) (inr (inl (other, b, j))) = absurd (never_both ballots a.winner other a.decided b)
tabulated-one nodes ballots v w (inl (text, a, i)) (inr (inr (other, b, j))) =
    of_answers Done Spent text other v w i j (inr (inl refl, inr (inr (inl refl)), inr refl))
tabulated-one nodes ballots v w (inr (inl (text, a, i))) (inl (other, b, j)) = absurd (never_both ballots b.winner text b.decided a)
tabulated-one nodes ballots v w (inr (inl a)) (inr (inl b)) = inl (ap outcome (one-same (HasTie ballots) Tie (tie-one ballots) v w a b))
tabulated-one nodes ballots v w (inr (inl (text, a, i))) (inr (inr (other, b, j))) =
    of_answers Tie Spent text other v w i j (inr (inr (inl refl), inr (inr (inl refl)), inr refl))
tabulated-one nodes ballots v w (inr (inr (text, a, i))) (inl (other, b, j)) =
    of_answers Spent Done text other v w i j (inr (inr (inr (inl refl)), inl refl, inl refl))
tabulated-one nodes ballots v w (inr (inr (text, a, i))) (inr (inl (other, b, j))) =
    of_answers Spent Tie text other v w i j (inr (inr (inr (inl refl)), inr (inl refl), inl refl))
tabulated-one nodes ballots v w (inr (inr (text, a, i))) (inr (inr (other, b, j))) =
    of_answers Spent Spent text other v w i j (inr (inr (inr (inl refl)), inr (inr (inl refl)), inl refl))

pub agrees : (task : TabulateTask) → Agree SameButBudget (script task)
agrees task = λ bytes. go_on-agrees (told (refused_ballots task.ballots) (ballots_of bytes task.contest)) _
    (λ ballots. tabulated-one task.nodes ballots)

tabulated-kind : (nodes : ℕ) (ballots : BallotFile) (v : Verdict) → Tabulates nodes ballots v → IsOfKind kinds v
tabulated-kind nodes ballots v (inl a) = one-kind kinds (HasRounds ballots) Done refl v a
tabulated-kind nodes ballots v (inr (inl a)) = one-kind kinds (HasTie ballots) Tie refl v a
tabulated-kind nodes ballots v (inr (inr a)) = one-kind kinds (HasStopped nodes ballots) Spent refl v a

pub kinds_are : (task : TabulateTask) → AreOfKind kinds (script task)
kinds_are task = λ bytes. go_on-kinds kinds (told (refused_ballots task.ballots) (ballots_of bytes task.contest)) _
    (told-only (refused_ballots task.ballots) (ballots_of bytes task.contest) (λ why. tt)) (λ ballots. tabulated-kind task.nodes ballots)
