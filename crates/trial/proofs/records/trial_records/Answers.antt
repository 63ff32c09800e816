use Rattle.std.proofs.Common.{◌≡◌, ◌+◌, ◌*◌, ◌-◌, ◌<◌, ◌++◌, ◌∷◌, [], List, ℕ, All, true, length, sym, ap, ap₂, subst, arith, append_assoc, ◌∙◌}
use Rattle.std.proofs.lemmas.List.{append-nil}
use Rattle.trial.specs.Records.{after, places_of, ballot, ballots_from}
use Rattle.trial.proofs.Ballots.{ballots-step, ballots-below, length-ballots}
use Rattle.trial.proofs.records.trial_records.Goals as goal

pub loop-preserved : goal.loop-preserved
loop-preserved c =
    let n = c.args.n in
    let left = c.args.ballots - (c.loop.counter + 1) in
    let b : List ℕ = ballot n c.loop.draws in
    let later : List (List ℕ) = ballots_from n left (after (1 + 2 * places_of n c.loop.draws) c.loop.draws) in
    let next : (c.loop.records ++ b ∷ []) ++ later ≡ c.loop.records ++ (b ∷ later) = append_assoc c.loop.records (b ∷ []) later in
    ap₂ (λ records state. records ++ ballots_from n left state) (c.in_ok-push.ensures.pushed ∙ ap (λ b. c.loop.records ++ b ∷ []) c.drawn_ballot.ensures.ballot)
    c.drawn_ballot.ensures.state
    ∙ next
    ∙ ap (λ rest. c.loop.records ++ rest) (sym (ballots-step n c.args.ballots c.loop.counter c.loop.draws c.loop-test.true))
    ∙ c.loop.invariant

pub returns-clause-records : goal.returns-clause-records
returns-clause-records c =
    let none : c.args.ballots - c.loop.counter ≡ 0 = omega arith in
    sym (ap (λ k. c.loop.records ++ ballots_from c.args.n k c.loop.draws) none ∙ append-nil c.loop.records) ∙ c.loop.invariant

pub returns-clause-number : goal.returns-clause-number
returns-clause-number c =
    ap length (returns-clause-records c) ∙ length-ballots c.args.n c.args.ballots c.args.number

pub returns-clause-below : goal.returns-clause-below
returns-clause-below c =
    subst (λ records. All (λ ranking. All (λ d. d < c.args.n) ranking) records) (sym (returns-clause-records c))
    (ballots-below c.args.n c.requires.some c.args.ballots c.args.number)
