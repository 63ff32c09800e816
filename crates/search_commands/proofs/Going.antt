-- A command on a contest continues with its ballots, or they are refused.
use Rattle.std.proofs.Common.{◌≡◌, inl, ℕ, List, Option, Result, Ok, Err, refl, sym, ap, subst, ◌∙◌}
use Rattle.desk.specs.Count.{Rose, one_more}
use Rattle.desk.specs.Desk.{File}
use Rattle.desk.specs.declared.served.Served.{Served}
use Rattle.cli_base.specs.Begun.{HasCome}
use Rattle.cli_base.proofs.Begun.{EndsNow}
use Rattle.irv_base.specs.Names.{Id}
use Rattle.ballots.specs.Ballots.{BallotFile}
use Rattle.cli_base.specs.Outcome.{Outcome, Verdict, outcome}
use Rattle.cli_base.specs.Script.{Script, Read, Runs, Bytes, Agree, ByDesk, SameButBudget, SameStatus}
use Rattle.input_files.specs.Judged.{go_on, told}
use Rattle.input_files.specs.Votes.{ballots_said}
use Rattle.input_files.proofs.Going.{read_last}

pub go_on-agrees : {A : Type 0} (judged : Result A Verdict) (next : A → Script) → ((value : A) → Agree SameButBudget (next value)) →
    Agree SameButBudget (go_on judged next)
go_on-agrees (Ok value) next each = each value
go_on-agrees (Err verdict) next each = λ v w p q. inl (ap outcome (p ∙ sym q))

-- what is read leads to one status
pub go_on-agrees_of : {A Why : Type 0} (words : Why → Verdict) (read : Result A Why) (next : A → Script) →
    ((value : A) → read ≡ Ok value → Agree SameStatus (next value)) → Agree SameStatus (go_on (told words read) next)
go_on-agrees_of words (Ok value) next each = each value refl
go_on-agrees_of words (Err why) next each = λ v w p q. ap (λ v. (outcome v).status) (p ∙ sym q)

-- the ballots of the contest are read and nothing else, by another name for the same contest
pub ballots_read : {x y : Served} (held : Option (List File)) (a b : ℕ) (file bytes : List ℕ) (contest asked : Option Id) (ballots : BallotFile)
    (next : BallotFile → Script) (due : Outcome) → contest ≡ asked → y.begins ≡ one_more x.begins →
    ByDesk held (Rose a b) file (Bytes bytes) → ballots_said file contest bytes ≡ Ok ballots → EndsNow (next ballots) due →
    HasCome (ByDesk held (Rose a b)) x y (Runs (Read file (λ bytes. go_on (ballots_said file asked bytes) next))) due
ballots_read {x} {y} held a b file bytes contest asked ballots next due of begun there is ends =
    let whole = λ (asked : Option Id). HasCome (ByDesk held (Rose a b)) x y (Runs (Read file (λ bytes. go_on (ballots_said file asked bytes) next))) due in
    subst whole of (read_last held a b file bytes (ballots_said file contest) (λ bytes. next) begun there ballots due is ends)
