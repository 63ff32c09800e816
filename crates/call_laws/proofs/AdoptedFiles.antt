-- A later call accepts what an adoption printed.
use Rattle.std.proofs.Common.{◌≡◌, ◌∙◌, inl, inr, ℕ, List, Ok, refl, sym, ap, subst, arith}
use Rattle.desk.specs.Desk.{File}
use Rattle.assertion_file.specs.Reading.{assertion_file_of}
use Rattle.cli_base.specs.Outcome.{Outcome, Answered, outcome}
use Rattle.cli_base.specs.Script.{AsHeld, ComesTo, Concludes, MayCome}
use Rattle.cli_base.specs.declared.outcome.AnswerKind.TheVariants.{Done}
use Rattle.cli_base.proofs.Scripts.{ended}
use Rattle.cli_base.proofs.Statuses.{answer_verdict, stopped}
use Rattle.command_line.specs.declared.commands.Command.TheVariants.{Adopt}
use Rattle.adopt_command.specs.Adopt.{script}
use Rattle.raire_cli.specs.Asks.{Asks}
use Rattle.raire_cli.specs.Answers.{asked, asked_by}
use Rattle.call_laws.specs.Agreement.{Call}
use Rattle.call_laws.specs.PrintedFiles.{AdoptedIsAccepted, AdoptedIsOpened, HasPrinted}
use Rattle.call_laws.proofs.PrintedFiles.{WasPrinted, accepted_later, one_text, opened_later}
use Rattle.raire_cli.proofs.Adoptions.{Adoption, adoption_by}

-- ---- what was printed

module _ {words : List (List ℕ)} (files : List File) (adopt : Asks Adopt words) where
  adopted_in : (d : Outcome) → d.status ≡ 0 → MayCome (AsHeld files) (asked words) d → Adoption words files adopt d.out
  adopted_in d zero may = elim (ended (AsHeld files) (script adopt.task) d (subst (λ command. MayCome (AsHeld files) (asked_by command) d) adopt.asked may)) [
    | inl (v, concludes, is) ↦
        let (text, answered) = answer_verdict Done v d is zero in
        let shown : d.out ≡ text = ap (λ (o : Outcome). o.out) is ∙ ap (λ v. (outcome v).out) answered in
        adoption_by words files adopt d.out (subst (λ command. ComesTo (AsHeld files) (asked_by command) (Answered Done d.out)) (sym adopt.asked)
        (subst (Concludes (AsHeld files) (script adopt.task)) (answered ∙ ap (Answered Done) (sym shown)) concludes))
    | inr (name, reading, reaches, there, stops) ↦ absurd (stopped 0 name reading d stops zero refl refl refl)
  ]

  adopted_of_call : (call : Call) (text : List ℕ) → HasPrinted words files call text → Adoption words files adopt text
  adopted_of_call call text printed = elim printed.answer.otherwise [
    | inl undone ↦ absurd (let zero = printed.done in omega (arith, undone, zero))
    | inr (to_out, to_err, may, took, took_err) ↦
        let ended : Outcome = record { status = call.status; out = to_out; err = to_err } in
        let may' : MayCome (AsHeld files) (asked words) ended = may in
        subst (Adoption words files adopt) (sym (one_text call.out printed.before text to_out printed.told_before printed.told_after took))
        (adopted_in ended printed.done may')
  ]

  abbrev was_printed : (call : Call) (text : List ℕ) → HasPrinted words files call text →
      WasPrinted files adopt.task.ballots adopt.task.contest adopt.task.budget text
  was_printed call text printed =
      let a = adopted_of_call call text printed in
      record {
        bytes = a.are.of_ballots.bytes;
        held = a.are.of_ballots.held;
        is_short = a.are.of_ballots.is_short;
        ballots = a.ballots;
        read = a.are.of_ballots.is;
        file = a.file;
        reads = subst (λ t. assertion_file_of t ≡ Ok a.file) (sym a.shown) a.reads_back;
        accepted = a.accepted;
      }

-- ---- a later call

pub adopted_is_accepted : AdoptedIsAccepted
adopted_is_accepted words others adopt check files more first second text printed holds settled =
    accepted_later others adopt.task.ballots adopt.task.contest adopt.task.budget check files more second text
    (was_printed files adopt first text printed) holds settled

pub adopted_is_opened : AdoptedIsOpened
adopted_is_opened words others adopt opening files more first second text printed holds cards settled =
    let a = adopted_of_call files adopt first text printed in
    opened_later words others adopt.task.ballots adopt.task.contest adopt.task.budget opening files more second text
    (was_printed files adopt first text printed) holds cards (cards.placed_adopted a.ballots (record { adopt = adopt; are = a.are.of_ballots }))
    settled
