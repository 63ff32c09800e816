-- The answer of a poll with a look after each draw, from what `poll_each` promises.
use Rattle.std.proofs.Common.{◌≡◌, inl, inr, ℕ, Bool, List, length, None, Option, Some, IfSome, option_map, unwrap_or, sym, ap, ◌∙◌}
use Rattle.std.proofs.lemmas.List.{length-map}
use Rattle.sampler.specs.Draws.{drawn_card}
use Rattle.manifest.specs.Cards.{Batches, cards_of}
use Rattle.assertion_file.specs.Content.{Content}
use Rattle.seen_file.specs.Seen.{Entry}
use Rattle.audit_session.specs.Refusals.{unseen_draw}
use Rattle.km_risk.specs.declared.limits.TheConstants.{GREATEST_EACH_GAMMA}
use Rattle.polling.specs.Each.{IsGamma, end_of, polled_claim, polled_of, values_of}
use Rattle.polling.specs.declared.each.ClaimEnd.{ClaimEnd}
use Rattle.cli_base.specs.Confirmed.{confirmed_kind}
use Rattle.cli_base.specs.Due.{IsOneOrMemory}
use Rattle.cli_base.specs.Outcome.{Outcome, Verdict, Answered, Refused}
use Rattle.command.specs.Limits.{IsUpTo}
use Rattle.command.specs.declared.poll_each.PollEachTask.{PollEachTask}
use Rattle.input_files.specs.Refusals.{no_record_text}
use Rattle.poll_command.specs.Each.{PollsEach, answered, draws_asked, drawn, ends, is_yes, seen, unseen}
use Rattle.poll_command.specs.EachLines.{each_table}

pub gamma_is : (gamma : Option ℕ) → IfSome gamma (IsUpTo GREATEST_EACH_GAMMA) → IfSome gamma IsGamma
gamma_is None within = tt
gamma_is (Some gamma) within = record { some = within.0; most = within.1 }

module _ (task : PollEachTask) (batches : Batches) (file : Content) (entries : List Entry) where
  -- one end per claim
  pub as_many_ends : length (ends task batches file entries) ≡ length file.claims
  as_many_ends =
      let cards : ℕ = length (cards_of batches) in
      length-map (polled_of task.gamma cards file)
      (λ claim. end_of task.limit claim.gamma (values_of (seen task batches file entries) (drawn task batches file entries) claim))
      ∙ length-map file.claims (polled_claim task.gamma cards)

  abbrev told : ℕ → List ClaimEnd → Bool → Verdict
  told cards list confirmed = Answered (confirmed_kind confirmed) (each_table file cards task list confirmed)

  or-answered : unseen_draw task.seed (length (cards_of batches)) entries (draws_asked task batches file entries) ≡ None →
      answered task batches file entries ≡ unwrap_or (unseen task batches file entries) (answered task batches file entries)
  or-answered none =
      sym (ap (λ first. unwrap_or (option_map (λ k. Refused task.seen (no_record_text (drawn_card task.seed k (length (cards_of batches))) k)) first)
      (answered task batches file entries)) none)

  pub polled_as : (cards : ℕ) (list : List ClaimEnd) (confirmed : Bool) (due : Outcome) → cards ≡ length (cards_of batches) →
      list ≡ ends task batches file entries → confirmed ≡ is_yes task batches file entries →
      unseen_draw task.seed (length (cards_of batches)) entries (draws_asked task batches file entries) ≡ None →
      IsOneOrMemory (λ verdict. verdict ≡ told cards list confirmed) due → IsOneOrMemory (PollsEach task batches file entries) due
  polled_as cards list confirmed due all each are none (inr memory) = inr memory
  polled_as cards list confirmed due all each are none (inl (verdict, is, ends-now)) =
      let same : told cards list confirmed ≡ answered task batches file entries = λ i. told (all i) (each i) (are i) in
      inl (verdict, is ∙ same ∙ or-answered none, ends-now)
