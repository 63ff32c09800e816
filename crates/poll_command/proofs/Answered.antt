-- The answer of a poll, from what `poll` promises.
use Rattle.std.proofs.Common.{◌≡◌, inl, inr, ℕ, Bool, ◌&&◌, List, [], ◌∷◌, length, map, None, option_map, unwrap_or, refl, sym, ap, ◌∙◌}
use Rattle.std.specs.List.{list_all}
use Rattle.sampler.specs.Draws.{drawn_card}
use Rattle.manifest.specs.Cards.{Batches, cards_of}
use Rattle.assertion_file.specs.Content.{Content}
use Rattle.assorters.specs.declared.seen.Seen.{Seen}
use Rattle.seen_file.specs.Seen.{Entry}
use Rattle.session_state.specs.Claims.{values_of}
use Rattle.audit_session.specs.Going.{all_seen, drawn_cards}
use Rattle.audit_session.specs.Refusals.{unseen_draw}
use Rattle.polling.specs.Polls.{is_confirmed, is_risk_within, poll_counts, poll_risk}
use Rattle.polling.specs.declared.counts.PollCounts.{PollCounts}
use Rattle.cli_base.specs.Confirmed.{confirmed_kind}
use Rattle.cli_base.specs.Due.{IsOneOrMemory}
use Rattle.cli_base.specs.Outcome.{Outcome, Verdict, Answered, Refused}
use Rattle.command.specs.declared.poll.PollTask.{PollTask}
use Rattle.input_files.specs.Refusals.{no_record_text}
use Rattle.poll_command.specs.Poll.{Polls, answered, counts, is_yes, risks, unseen}
use Rattle.poll_command.specs.Table.{poll_table}

-- each risk is within the limit exactly if the claims are confirmed
all-within : (limit gamma : ℕ) (seen : List Seen) (drawn : List ℕ) (values : List (List ℕ → ℕ)) →
    list_all (is_risk_within limit) (map (poll_risk gamma) (map (λ value. poll_counts value seen drawn) values)) ≡ is_confirmed limit gamma values seen drawn
all-within limit gamma seen drawn [] = refl
all-within limit gamma seen drawn (value ∷ values) =
    ap (λ b. is_risk_within limit (poll_risk gamma (poll_counts value seen drawn)) && b) (all-within limit gamma seen drawn values)

module _ (task : PollTask) (batches : Batches) (file : Content) (entries : List Entry) where
  abbrev told : ℕ → List PollCounts → List ℕ → Bool → Verdict
  told cards list printed confirmed =
      Answered (confirmed_kind confirmed) (poll_table file cards task.draws task.limit task.gamma list printed confirmed)

  or-answered : unseen_draw task.seed (length (cards_of batches)) entries task.draws ≡ None →
      answered task batches file entries ≡ unwrap_or (unseen task batches file entries) (answered task batches file entries)
  or-answered none =
      sym (ap (λ first. unwrap_or (option_map (λ k. Refused task.seen (no_record_text (drawn_card task.seed k (length (cards_of batches))) k)) first)
      (answered task batches file entries)) none)

  pub polled_as : (cards : ℕ) (list : List PollCounts) (printed : List ℕ) (confirmed : Bool) (due : Outcome) → cards ≡ length (cards_of batches) →
      list ≡ counts task batches file entries → printed ≡ map (poll_risk task.gamma) list → confirmed ≡ list_all (is_risk_within task.limit) printed →
      unseen_draw task.seed (length (cards_of batches)) entries task.draws ≡ None →
      IsOneOrMemory (λ verdict. verdict ≡ told cards list printed confirmed) due → IsOneOrMemory (Polls task batches file entries) due
  polled_as cards list printed confirmed due all each risk of-risks none (inr memory) = inr memory
  polled_as cards list printed confirmed due all each risk of-risks none (inl (verdict, is, ends)) =
      let printed-are : printed ≡ risks task batches file entries = risk ∙ ap (map (poll_risk task.gamma)) each in
      let seen : List Seen = all_seen entries (length (cards_of batches)) in
      let drawn : List ℕ = drawn_cards task.seed (length (cards_of batches)) task.draws in
      let are : confirmed ≡ is_yes task batches file entries =
      of-risks ∙ ap (list_all (is_risk_within task.limit)) printed-are ∙ all-within task.limit task.gamma seen drawn (values_of file) in
      let same : told cards list printed confirmed ≡ answered task batches file entries = λ i. told (all i) (each i) (printed-are i) (are i) in
      inl (verdict, is ∙ same ∙ or-answered none, ends)
