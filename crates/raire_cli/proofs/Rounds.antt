-- A tabulation of a contest that is decided has its rounds, and doesn't run out of budget if its budget is large enough.
use Rattle.std.proofs.Common.{◌≡◌, ◌⊎◌, inl, inr, ◌≤◌, ◌<◌, ℕ, List, refl, sym, ap, subst, arith}
use Rattle.desk.specs.Desk.{File}
use Rattle.irv_base.specs.Tabulation.{HasNoTie}
use Rattle.bound_search.specs.Race.{work_for}
use Rattle.cli_base.specs.Outcome.{Answered}
use Rattle.cli_base.specs.Script.{AsHeld, ComesTo}
use Rattle.cli_base.specs.Statuses.{HasAnswer}
use Rattle.cli_base.specs.declared.outcome.AnswerKind.TheVariants.{Done, Spent}
use Rattle.report.specs.Tabulations.{tabulation_text}
use Rattle.contest_search.specs.Contest.{candidate_count, IsOther}
use Rattle.contest_search.proofs.Contests.{winner-one, same_tabulated}
use Rattle.search_commands.specs.Tabulate.{HasRounds, HasStopped, Tabulates}
use Rattle.raire_cli.specs.Answers.{asked, asked_by}
use Rattle.raire_cli.specs.Promises.{IsTabulable}
use Rattle.raire_cli.proofs.Undecided.{comes_of, ends_there}

module _ (words : List (List ℕ)) (files : List File) (ok : IsTabulable words files) where
  not_stopped : (text : List ℕ) → HasStopped ok.asks.task.nodes ok.ballots text → ⊥
  not_stopped text stopped = by ok.budget where
    same : stopped.is.won.order ≡ ok.won.order
    same = same_tabulated ok.ballots stopped.is.winner ok.winner stopped.is.won ok.won

    work : List ℕ → ℕ
    work order = work_for (candidate_count ok.ballots) ok.ballots.rankings order stopped.last

    by : HasNoTie ok.ballots.rankings ok.won.order
        ⊎ ((c : ℕ) → IsOther ok.ballots ok.winner c → work_for (candidate_count ok.ballots) ok.ballots.rankings ok.won.order c ≤ ok.asks.task.nodes) → ⊥
    by (inl free) = stopped.is.tied (subst (HasNoTie ok.ballots.rankings) (sym same) free)
    by (inr budget) =
        let one = winner-one ok.ballots stopped.is.winner ok.winner stopped.is.won ok.won in
        let enough : work ok.won.order ≤ ok.asks.task.nodes = budget stopped.last (subst (λ v. IsOther ok.ballots v stopped.last) one stopped.is.named) in
        let above : ok.asks.task.nodes < work stopped.is.won.order = stopped.is.cause.above in
        let alike : work stopped.is.won.order ≡ work ok.won.order = ap work same in
        omega (arith, enough, above, alike)

  pub never_stopped : HasAnswer (asked words) files Spent → ⊥
  never_stopped (text, comes) =
      by (ends_there files ok.asks.task.ballots ok.asks.task.contest (Tabulates ok.asks.task.nodes) ok.ballots ok.are Spent text
      (subst (λ command. ComesTo (AsHeld files) (asked_by command) (Answered Spent text)) ok.asks.asked comes))
    where
      by : Tabulates ok.asks.task.nodes ok.ballots (Answered Spent text) → ⊥
      by (inl (other, has, e)) = cc e
      by (inr (inl (other, has, e))) = cc e
      by (inr (inr (other, has, e))) = not_stopped other has

  pub has_rounds : HasAnswer (asked words) files Done
  has_rounds =
      let text = tabulation_text ok.ballots ok.won.order ok.winner in
      let has : HasRounds ok.ballots text = record { winner = ok.winner; won = ok.won; decided = ok.decided; shown = refl } in (
        text,
        subst (λ command. ComesTo (AsHeld files) (asked_by command) (Answered Done text)) (sym ok.asks.asked)
            (comes_of files ok.asks.task.ballots ok.asks.task.contest (Tabulates ok.asks.task.nodes) ok.ballots ok.are (Answered Done text) (inl (text, has, refl))),
      )
