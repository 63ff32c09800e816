-- The files that a call begins, by its command, and a call that begins none.
use Rattle.std.proofs.Common.{◌≡◌, inl, inr, ℕ, Option, None, Some, refl, sym, subst, arith}
use Rattle.desk.specs.declared.served.Served.{Served}
use Rattle.cli_base.specs.Accounts.{IsAccountedFor}
use Rattle.cli_base.specs.Begun.{HasCome}
use Rattle.cli_base.specs.Outcome.{Outcome, bad_words}
use Rattle.cli_base.specs.Script.{Readings, Runs}
use Rattle.command_line.specs.declared.commands.Command.{Command}
use Rattle.raire_cli.specs.Answers.{asked_by, script_of}

pub nothing_begun : (files : ℕ) (served : Served) (status : ℕ) → status ≡ 9 → IsAccountedFor files served served status
nothing_begun files served status nine = record {
  begins = omega arith;
  all_begun = λ zero. absurd (omega (arith, zero, nine));
  missing = λ twelve. absurd (omega (arith, twelve, nine));
  found = λ other sound. refl;
  too_long = λ eleven. absurd (omega (arith, eleven, nine));
  over = λ eleven. absurd (omega (arith, eleven, nine));
  short = λ other sound. absurd (sound (inr nine));
  within = λ other sound. refl;
}

-- the words aren't a line
pub no_line_come : (readings : Readings) (served : Served) (command : Option Command) → command ≡ None → HasCome readings served served (asked_by command) bad_words
no_line_come readings served command none =
    subst (λ c. HasCome readings served served (asked_by c) bad_words) (sym none) (record { files = 0; begun = refl; is_due = inl (refl, refl) })

-- they ask for this command
pub command_come : {x y : Served} (readings : Readings) (command : Option Command) (one : Command) (due : Outcome) → command ≡ Some one →
    HasCome readings x y (Runs (script_of one)) due → HasCome readings x y (asked_by command) due
command_come {x} {y} readings command one due is come = subst (λ c. HasCome readings x y (asked_by c) due) (sym is) come
