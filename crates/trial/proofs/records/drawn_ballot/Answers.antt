use Rattle.std.proofs.Common.{◌≡◌, ◌+◌, ◌*◌, ◌%◌, ◌-◌, min, fold, sym, ap, ap₂, ◌∙◌}
use Rattle.trial.specs.Records.{drawn, next, after, chosen, with_choice}
use Rattle.trial.proofs.Ballots.{chosen-step, after-step, pushed}
use Rattle.trial.proofs.records.drawn_ballot.Goals as goal

pub loop-preserved : goal.loop-preserved
loop-preserved c =
    let n = c.args.n in
    let places = 1 + c.next.result % n in
    let i = c.loop.counter in
    let state = c.loop.draws in
    let choice = min (drawn state % n) (drawn (next state) % n) in
    let grown : c.push.new.self ≡ with_choice c.loop.ranking choice =
    pushed c.loop.ranking c.push.new.self c.choice.result c.push.ensures.added c.push.ensures.kept
    ∙ ap (with_choice c.loop.ranking) c.choice.ensures.candidate in
    record {
      ranking =
          ap₂ (λ r s. fold with_choice r (chosen n (places - (i + 1)) s)) grown c.choice.ensures.state
          ∙ ap (fold with_choice c.loop.ranking) (sym (chosen-step n places i state c.loop-test.true))
          ∙ c.loop.invariant.ranking;
      state =
          ap (after (2 * (places - (i + 1)))) c.choice.ensures.state
          ∙ sym (after-step places i state c.loop-test.true)
          ∙ c.loop.invariant.state;
    }
