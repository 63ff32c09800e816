-- What a settled call can end with.
use Rattle.std.proofs.Common.{◌≢◌, ℕ, List, refl, ap}
use Rattle.desk.specs.Desk.{File}
use Rattle.cli_base.specs.Outcome.{Outcome}
use Rattle.cli_base.specs.Script.{AsHeld, MayCome}
use Rattle.command_line.specs.Line.{command_of}
use Rattle.raire_cli.specs.Answers.{asked}
use Rattle.call_laws.specs.Agreement.{MayBeSpent}
use Rattle.call_laws.specs.EachStatus.{EndsWith}
use Rattle.call_laws.proofs.Agreement.{one_end}

-- what is defined is all that a settled call can end with
pub ends_with : (words : List (List ℕ)) (files : List File) (due : Outcome) → MayCome (AsHeld files) (asked words) due → (MayBeSpent words → due.status ≢ 4) →
    EndsWith due.status words files
ends_with words files due defined unspent = record {
  due = due;
  defined = defined;
  status_is = refl;
  alone = λ call settled.
      let (out, err, may, took_out, took_err) = settled.answer.quiet settled.quiet settled.memory in
      let ended : Outcome = record { status = call.status; out = out; err = err } in
      ap (λ (o : Outcome). o.status) (one_end words files files (λ name. refl) ended due settled.unspent unspent settled.suffice settled.no_choice (command_of words) refl may defined);
}
