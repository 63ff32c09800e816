-- What is said about a round.
use Rattle.std.proofs.Common.{◌≡◌, ℕ, List, Option, None, Some, ap, ◌∙◌}
use Rattle.serde_json.specs.Data.{Data}
use Rattle.km_risk.specs.declared.draws.Counts.{Counts}
use Rattle.session_state.specs.Sessions.{Round}
use Rattle.session_file.specs.Faults.{Refuses}
use Rattle.assertion_file.specs.Stated.{◌>>=◌}
use Rattle.session_file.specs.Stated.{Entry, counts, each, entry_in, risk, round}
use Rattle.session_file.specs.declared.fault.SessionFault.{SessionFault}
use Rattle.session_file.proofs.Refused.{refused_first, refused_same, refused_then}

abbrev round_with : Entry → List Counts → List ℕ → Round
round_with entry counts risks = record { draws = entry.draws; counts = counts; risks = risks }

abbrev with_entry : Entry → Option Round
with_entry entry = each counts entry.counts >>= λ counts. each risk entry.risks >>= λ risks. Some (round_with entry counts risks)

pub no_entry : (value : Data) → entry_in value ≡ None → round value ≡ None
unfolding round
no_entry value h = ap (λ o. o >>= with_entry) h

is-with : (value : Data) (entry : Entry) → entry_in value ≡ Some entry → round value ≡ with_entry entry
unfolding round
is-with value entry h = ap (λ o. o >>= with_entry) h

module _ (value : Data) (entry : Entry) (there : entry_in value ≡ Some entry) where
  pub no_counts : (fault : SessionFault) → Refuses (each counts entry.counts) fault → Refuses (round value) fault
  no_counts fault r =
      refused_same (round value) (with_entry entry) fault (is-with value entry there)
      (refused_first (each counts entry.counts) (λ counts. each risk entry.risks >>= λ risks. Some (round_with entry counts risks)) fault r)

  pub no_risks : (found : List Counts) (fault : SessionFault) → each counts entry.counts ≡ Some found → Refuses (each risk entry.risks) fault →
      Refuses (round value) fault
  no_risks found fault c r =
      refused_same (round value) (with_entry entry) fault (is-with value entry there)
      (refused_then (each counts entry.counts) found (λ counts. each risk entry.risks >>= λ risks. Some (round_with entry counts risks)) fault c
      (refused_first (each risk entry.risks) (λ risks. Some (round_with entry found risks)) fault r))

  pub a_round : (found : List Counts) (risks : List ℕ) → each counts entry.counts ≡ Some found → each risk entry.risks ≡ Some risks →
      round value ≡ Some (record { draws = entry.draws; counts = found; risks = risks })
  a_round found risks c r =
      is-with value entry there ∙ ap (λ o. o >>= λ counts. each risk entry.risks >>= λ risks. Some (round_with entry counts risks)) c
      ∙ ap (λ o. o >>= λ risks. Some (round_with entry found risks)) r
