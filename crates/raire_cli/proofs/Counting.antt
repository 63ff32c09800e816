-- A plurality contest that was counted has an outcome or a tie.
use Rattle.std.proofs.Common.{◌≡◌, inl, inr, ℕ, List, length, Option, Some, Result, Ok, Err, refl, sym, ap, subst, ◌∙◌, arith}
use Rattle.std.proofs.lemmas.List.{length-map}
use Rattle.irv_base.specs.Names.{Id}
use Rattle.ballots.specs.Ballots.{BallotFile}
use Rattle.ballots.specs.Grammar.{ballots_of}
use Rattle.manifest.specs.Cards.{cards_of}
use Rattle.manifest.specs.Linked.{recorded_of}
use Rattle.session_state.specs.Claims.{audited_by}
use Rattle.session_state.specs.Inputs.{HasFacts}
use Rattle.session_file.specs.Reading.{session_of}
use Rattle.session_file.proofs.SoundFiles.{read_is_sound}
use Rattle.contest_search.proofs.ReadBallots.{ballots_fit}
use Rattle.plurality.specs.Ties.{AreTied}
use Rattle.plurality.specs.Plural.{Outcome, Tie, lead, values_of}
use Rattle.plurality.specs.Plurality.{WinsPlurality, leaders}
use Rattle.plurality.proofs.Leads.{each-assorter}
use Rattle.plurality.proofs.Margins.{margin_each}
use Rattle.plurality.proofs.Winners.{alone-wins, from_won, tie_law}
use Rattle.cli_base.specs.Outcome.{Answered}
use Rattle.cli_base.specs.Script.{Script, Readings, Concludes}
use Rattle.cli_base.specs.declared.outcome.AnswerKind.{AnswerKind}
use Rattle.cli_base.specs.declared.outcome.AnswerKind.TheVariants.{Tie as TieKind}
use Rattle.input_files.specs.Judged.{told, go_on}
use Rattle.report.specs.Ends.{tie_text}
use Rattle.plurality_commands.specs.Outcome.{if_won, outcome_in, tied}
use Rattle.raire_cli.specs.Pluralities.{Counted, claims, recorded}
use Rattle.raire_cli.specs.RoundFiles.{RoundInputs}
use Rattle.raire_cli.proofs.Audited.{IsKind}
use Rattle.raire_cli.proofs.NextRounds.{Fitting}

-- ---- the outcome

-- the winner has strictly more first preferences than each other candidate
pub wins_of : (ballots : BallotFile) (outcome : Outcome) → outcome_in ballots ≡ Ok outcome →
    WinsPlurality (length ballots.candidates) ballots.rankings outcome.winner
wins_of ballots outcome is =
    let n = length ballots.candidates in
    let (winner, alone, same) = from_won n ballots.rankings (leaders n ballots.rankings) outcome is in
    subst (λ (o : Outcome). WinsPlurality n ballots.rankings o.winner) (sym same) (alone-wins n ballots.rankings winner alone)

-- the candidates of a tie share the greatest number
pub tied_in : (bytes : List ℕ) (contest : Option Id) (ballots : BallotFile) (tie : Tie) → ballots_of bytes contest ≡ Ok ballots → outcome_in ballots ≡ Err tie →
    AreTied (length ballots.candidates) ballots.rankings tie
tied_in bytes contest ballots tie read is =
    let fewest = (ballots_fit bytes contest ballots read).fewest in
    (tie_law (length ballots.candidates) ballots.rankings tie (omega (arith, fewest))).0 is

module _ (inputs : RoundInputs Counted) (bytes : List ℕ) (read : session_of bytes ≡ Some inputs.session)
    (counted : outcome_in inputs.basis.ballots ≡ Ok inputs.basis.outcome)
    (facts : HasFacts inputs.session (length (cards_of inputs.basis.batches)) inputs.basis.ballots.contest inputs.basis.outcome.margins) where
  -- the session fits the claims of the outcome and what is recorded for the cards
  pub plural_fitting : Fitting inputs.session (recorded inputs) (values_of inputs.basis.outcome) (claims inputs)
  plural_fitting =
      let outcome = inputs.basis.outcome in
      let n = length inputs.basis.ballots.candidates in
      record {
        sound = (read_is_sound bytes inputs.session read).0;
        same_cards = facts.cards_are ∙ sym (length-map (cards_of inputs.basis.batches) (recorded_of inputs.basis.ballots));
        each = ap length facts.margins_are ∙ margin_each n inputs.basis.ballots.rankings outcome counted
            ∙ sym (length-map outcome.losers (lead outcome.winner));
        assorters = each-assorter outcome;
        same_claims = ap (audited_by (values_of outcome)) facts.margins_are;
      }

-- ---- a command that counts

module _ (readings : Readings) (ballots : BallotFile) (next : Outcome → Script) (text : List ℕ) where
  abbrev Counts : AnswerKind → Result Outcome Tie → Type 0
  Counts kind counted = Concludes readings (go_on (told (tied ballots) counted) next) (Answered kind text)

  -- if it answers with a session, it continues with the outcome
  pub won_on : (kind : AnswerKind) → IsKind kind → Concludes readings (if_won ballots next) (Answered kind text) →
      (outcome : Outcome) × (outcome_in ballots ≡ Ok outcome) × Concludes readings (next outcome) (Answered kind text)
  won_on kind of comes = by (outcome_in ballots) refl of comes where
    by : (counted : Result Outcome Tie) → outcome_in ballots ≡ counted → IsKind kind → Counts kind counted →
        (outcome : Outcome) × (outcome_in ballots ≡ Ok outcome) × Concludes readings (next outcome) (Answered kind text)
    by (Ok outcome) is of comes = (outcome, is, comes)
    by (Err tie) is (inl done) comes = absurd (cc (comes, done))
    by (Err tie) is (inr unconfirmed) comes = absurd (cc (comes, unconfirmed))

  -- a tie that it prints is the tie of the ballots, if what follows prints no tie
  pub tied_on : ((outcome : Outcome) → Concludes readings (next outcome) (Answered TieKind text) → ⊥) →
      Concludes readings (if_won ballots next) (Answered TieKind text) →
      (tie : Tie) × (outcome_in ballots ≡ Err tie) × (text ≡ tie_text ballots.candidates 1 tie.tied tie.tally)
  tied_on never comes = by (outcome_in ballots) refl comes where
    by : (counted : Result Outcome Tie) → outcome_in ballots ≡ counted → Counts TieKind counted →
        (tie : Tie) × (outcome_in ballots ≡ Err tie) × (text ≡ tie_text ballots.candidates 1 tie.tied tie.tally)
    by (Ok outcome) is comes = absurd (never outcome comes)
    by (Err tie) is comes = (tie, is, cc comes)
