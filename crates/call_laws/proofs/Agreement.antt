-- Two calls with the same words, or with words that differ only in the number of workers, over desks that hold the same files, end in the same
-- way.
use Rattle.std.proofs.Common.{◌≡◌, ◌≢◌, inl, inr, ℕ, Bool, true, false, List, Option, None, Some, refl, sym, ◌∙◌, ap, subst}
use Rattle.std.proofs.lemmas.Bool.{false≢true}
use Rattle.desk.specs.Desk.{File}
use Rattle.cli_base.specs.Ends.{Took}
use Rattle.cli_base.specs.Outcome.{Outcome}
use Rattle.cli_base.specs.Script.{Script, Read, Ends, AsHeld, May, MayCome, Same, SameButBudget, reading_of}
use Rattle.cli_base.proofs.Scripts.{determined, some_is}
use Rattle.command_line.specs.Line.{command_of}
use Rattle.command_line.specs.declared.commands.Command.{Command}
use Rattle.command_line.specs.declared.commands.Command.TheVariants.{Contests}
use Rattle.raire_cli.specs.Asks.{Asks}
use Rattle.call_laws.specs.Agreement.{HoldTheSame, MayBeSpent, MayChoose, SameFilesSameAnswer, WorkersSameAnswer}
use Rattle.raire_cli.specs.Answers.{script_of, asked_by, has_choice, is_open}
use Rattle.raire_cli.specs.Contests.{HaveNodes}
use Rattle.call_laws.proofs.ContestsOnce.{contests_once}
use Rattle.call_laws.proofs.SameWorkers.{come_the_same, own_workers, spent_the_same}
use Rattle.raire_cli.proofs.EachCommand.{agrees_exactly, agrees_in_full}

-- what a script may come to, over files with the same bytes
moved : (files others : List File) → HoldTheSame files others → (script : Script) (due : Outcome) → May (AsHeld others) script due →
    May (AsHeld files) script due
moved files others same (Ends verdicts) due may = may
moved files others same (Read name next) due (inl (reading, there, stop)) = inl (reading, there ∙ ap reading_of (sym (same name)), stop)
moved files others same (Read name next) due (inr (bytes, there, rest)) =
    inr (bytes, there ∙ ap reading_of (sym (same name)), moved files others same (next bytes) due rest)

-- what isn't left open
pub not_spent : (words : List (List ℕ)) (command : Command) → command_of words ≡ Some command → is_open command ≡ false → MayBeSpent words → ⊥
not_spent words command is closed spent =
    let same : command ≡ spent.command = some_is (sym is ∙ spent.asked_for) in
    false≢true (sym closed ∙ ap is_open same ∙ spent.is_open)

unspent_same : (d e : Outcome) → d.status ≢ 4 → e.status ≢ 4 → SameButBudget d e → d ≡ e
unspent_same d e first second (inl same) = same
unspent_same d e first second (inr (budgeted, other, inl four)) = absurd (first four)
unspent_same d e first second (inr (budgeted, other, inr four)) = absurd (second four)

module _ (words : List (List ℕ)) (files others : List File) (same : HoldTheSame files others) (d e : Outcome) (first : MayBeSpent words → d.status ≢ 4)
    (second : MayBeSpent words → e.status ≢ 4) (suffice : (asks : Asks Contests words) → HaveNodes asks.task files) (none : MayChoose words → ⊥) where
  -- the command has no choice
  no_choice : (command : Command) → command_of words ≡ Some command → has_choice command ≡ false
  no_choice command is = by (has_choice command) refl where
    by : (b : Bool) → has_choice command ≡ b → b ≡ false
    by false e = refl
    by true e = absurd (none (record { command = command; asked_for = is; has_choice = e }))

  one_open : (command : Command) → command_of words ≡ Some command → is_open command ≡ true → May (AsHeld files) (script_of command) d →
      May (AsHeld files) (script_of command) e → d ≡ e
  one_open (Contests task) is searched may_d may_e = contests_once files task (suffice (record { task = task; asked = is })) d e may_d may_e
  one_open command is searched may_d may_e =
      let asks : MayBeSpent words = record { command = command; asked_for = is; is_open = searched } in
      unspent_same d e (first asks) (second asks) (determined SameButBudget (λ o. inl refl) files (script_of command) d e
      (agrees_in_full command refl (no_choice command is)) may_d may_e)

  one_command : (command : Command) → command_of words ≡ Some command → May (AsHeld files) (script_of command) d → May (AsHeld files) (script_of command) e →
      d ≡ e
  one_command command is may_d may_e = by (is_open command) refl where
    by : (b : Bool) → is_open command ≡ b → d ≡ e
    by false closed = determined Same (λ o. refl) files (script_of command) d e (agrees_exactly command closed (no_choice command is)) may_d may_e
    by true searched = one_open command is searched may_d may_e

  pub one_end : (command : Option Command) → command_of words ≡ command → MayCome (AsHeld files) (asked_by command) d →
      MayCome (AsHeld others) (asked_by command) e → d ≡ e
  one_end None is bad_d bad_e = bad_d ∙ sym bad_e
  one_end (Some command) is may_d may_e = one_command command is may_d (moved files others same (script_of command) e may_e)

pub workers_same_answer : WorkersSameAnswer
workers_same_answer words others files more first second (workers, other) same settled settled' =
    let (out, err, may, took_out, took_err) = settled.answer.quiet settled.quiet settled.memory in
    let (out', err', may', took_out', took_err') = settled'.answer.quiet settled'.quiet settled'.memory in
    let d : Outcome = record { status = first.status; out = out; err = err } in
    let e : Outcome = record { status = second.status; out = out'; err = err' } in
    let its : MayCome (AsHeld files) (asked_by (command_of others)) d =
    subst (λ command. MayCome (AsHeld files) (asked_by command) d) (sym other) (come_the_same workers (AsHeld files) d (command_of words) may) in
    let unspent : MayBeSpent others → d.status ≢ 4 = λ spent.
    settled.unspent (spent_the_same workers words others (command_of words) refl other spent) in
    let suffice : (asks : Asks Contests others) → HaveNodes asks.task files = λ asks bytes list held said.
    settled'.suffice asks bytes list (sym (same asks.task.ballots) ∙ held) said in
    let is : d ≡ e = one_end others files more same d e unspent settled'.unspent suffice settled'.no_choice (command_of others) refl its may' in
    record {
      status = ap (λ (o : Outcome). o.status) is;
      to_out = out;
      to_err = err;
      first_out = took_out;
      first_err = took_err;
      second_out = subst (Took second.out) (sym (ap (λ (o : Outcome). o.out) is)) took_out';
      second_err = subst (Took second.err) (sym (ap (λ (o : Outcome). o.err) is)) took_err';
    }

pub same_files_same_answer : SameFilesSameAnswer
same_files_same_answer words files others first second same settled settled' =
    workers_same_answer words words files others first second (own_workers (command_of words)) same settled settled'
