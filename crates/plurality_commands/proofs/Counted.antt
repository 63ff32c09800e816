-- A contest is counted, and then the command continues with the outcome, or ends with the tie.
use Rattle.std.proofs.Common.{◌≡◌, ◌∙◌, ◌≤◌, inl, inr, true, List, All, Contains, length, None, Result, Ok, Err, sym, ap, subst, arith}
use Rattle.irv_base.specs.Names.{all_differ}
use Rattle.manifest.specs.Cards.{Batches, cards_of}
use Rattle.manifest.specs.Linked.{first_without_card}
use Rattle.plurality.proofs.Margins.{margins_fit}
use Rattle.manifest.proofs.FewBallots.{few_ballots}
use Rattle.ballots.specs.Ballots.{BallotFile}
use Rattle.desk.specs.declared.served.Served.{Served}
use Rattle.cli_base.specs.Begun.{HasCome}
use Rattle.cli_base.specs.Due.{IsOneOrMemory}
use Rattle.cli_base.specs.Outcome.{Outcome as Due, outcome}
use Rattle.cli_base.specs.Script.{Readings, Runs, Script, Agree, AreOfKind, IsOfKind, Same}
use Rattle.cli_base.specs.declared.outcome.AnswerKind.{AnswerKind}
use Rattle.cli_base.specs.declared.outcome.AnswerKind.TheVariants.{Tie as TieKind}
use Rattle.cli_base.proofs.Begun.{EndsNow, memory_now}
use Rattle.input_files.specs.Judged.{told, go_on}
use Rattle.input_files.proofs.Going.{judged_on}
use Rattle.plurality.specs.Plural.{Outcome, Tie}
use Rattle.plurality_commands.specs.Outcome.{TellsOfTie, if_won, outcome_in, tied}

-- ---- one end

pub won-agrees : (ballots : BallotFile) (next : Outcome → Script) → ((won : Outcome) → Agree Same (next won)) → Agree Same (if_won ballots next)
won-agrees ballots next each = by (outcome_in ballots) where
  by : (counted : Result Outcome Tie) → Agree Same (go_on (told (tied ballots) counted) next)
  by (Ok won) = each won
  by (Err tie) = λ v w p q. ap outcome (p ∙ sym q)

pub won-kinds : (kinds : List AnswerKind) (ballots : BallotFile) (next : Outcome → Script) → Contains kinds TieKind →
    ((won : Outcome) → AreOfKind kinds (next won)) → AreOfKind kinds (if_won ballots next)
won-kinds kinds ballots next tie-there each = by (outcome_in ballots) where
  by : (counted : Result Outcome Tie) → AreOfKind kinds (go_on (told (tied ballots) counted) next)
  by (Ok won) = each won
  by (Err tie) = λ v is. subst (IsOfKind kinds) (sym is) tie-there

-- ---- how it ends

pub won_on : {x y : Served} (readings : Readings) (ballots : BallotFile) (next : Outcome → Script) (won : Outcome) (due : Due) →
    outcome_in ballots ≡ Ok won → HasCome readings x y (Runs (next won)) due → HasCome readings x y (Runs (if_won ballots next)) due
won_on readings ballots next won due is come = judged_on readings _ next won due (ap (told (tied ballots)) is) come

-- its tie is reported
pub tied_now : (ballots : BallotFile) (next : Outcome → Script) (due : Due) → IsOneOrMemory (TellsOfTie ballots) due → EndsNow (if_won ballots next) due
tied_now ballots next due (inl (verdict, (tie, is, tells), ends)) =
    subst (λ counted. EndsNow (go_on (told (tied ballots) counted) next) due) (sym is) (inl (verdict, tells, ends))
tied_now ballots next due (inr memory) = memory_now (if_won ballots next) due memory

-- ---- the margins

-- a margin is at least one vote, and at most the number of cards
pub margins_within : (batches : Batches) (ballots : BallotFile) (won : Outcome) → outcome_in ballots ≡ Ok won → all_differ ballots.ids ≡ true →
    length ballots.ids ≡ length ballots.rankings → first_without_card batches ballots ≡ None →
    All (λ votes. (1 ≤ votes) × (votes ≤ length (cards_of batches))) won.margins
margins_within batches ballots won is differ long placed = λ k d below.
    let (some, most) = margins_fit (length ballots.candidates) ballots.rankings won is k d below in
    let few = few_ballots batches ballots differ long placed in
    (some, omega (arith, most, few))
