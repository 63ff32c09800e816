-- Each contest has its own risk limit.
use Rattle.std.proofs.Common.{◌≡◌, ◌∙◌, ℕ, suc, ◌≤◌, ◌+◌, ◌*◌, ◌&&◌, ◌||◌, true, Bool, false, ◌∷◌, [], List, length, map, nat_le, refl, sym, ap, arith}
use Rattle.std.specs.List.{list_all, range_with_len, slice_get}
use Rattle.std.proofs.lemmas.Bool.{and_parts}
use Rattle.std.proofs.lemmas.List.{length-map}
use Rattle.std.proofs.lemmas.List.Elements.{All-nil, All-cons}
use Rattle.std.proofs.lemmas.List.FromFn.{length-map-range_with_len}
use Rattle.budget.specs.declared.budget.Budget.TheVariants.{Nodes}
use Rattle.assertion_file.proofs.SoundFiles.{read_is_sound}
use Rattle.assertion_file.specs.Text.{assertion_file_text}
use Rattle.manifest.specs.Cards.{cards_of}
use Rattle.manifest.specs.Linked.{linked_of, recorded_of}
use Rattle.manifest.specs.declared.recorded.Recorded.{Recorded}
use Rattle.assorters.specs.declared.seen.Seen.{Seen}
use Rattle.km_risk.specs.declared.limits.TheConstants.{MILLIONTH}
use Rattle.sampler.specs.Draws.{drawn_card}
use Rattle.session_state.specs.Claims.{audited}
use Rattle.session_state.specs.Draws.{Audited, IsSessionOf, risk_after, session_to}
use Rattle.session_state.specs.Sessions.{is_at_most, is_signed_off}
use Rattle.audit_session.specs.Going.{all_seen, drawn_cards}
use Rattle.audit_session.proofs.IsCounted.{advanced_is_counted}
use Rattle.audit_laws.proofs.Published.{risk_limit}
use Rattle.contest_search.proofs.Accepted.{found_is_accepted}
use Rattle.contest_set.specs.Ends.{are_confirmed}
use Rattle.contest_set.specs.Laws.{EachRiskLimit, EndIsCounted}

-- ---- a round that confirms each claim

-- risks within the limit are within it at each place
at-place : (limit : ℕ) (risks : List ℕ) (from : ℕ) (found : ℕ → Bool) →
    ((i : ℕ) → found (from + i) ≡ is_at_most limit (slice_get risks i)) → are_confirmed limit risks ≡ true →
    list_all found (range_with_len from (length risks)) ≡ true
at-place limit [] from found is h = refl
at-place limit (risk ∷ risks) from found is h =
    let (first, rest) = and_parts (nat_le risk (limit * MILLIONTH)) (are_confirmed limit risks) h in
    let start : from ≡ from + 0 = omega arith in
    let here : found from ≡ true = ap found start ∙ is 0 ∙ first in
    ap (λ b. b && list_all found (range_with_len (from + 1) (length risks))) here
    ∙ at-place limit risks (from + 1) found (λ i. let next : (from + 1) + i ≡ from + suc i = omega arith in ap found next ∙ is (suc i)) rest

module _ (limit gamma : ℕ) (claims : List Audited) (recorded : List Recorded) (seen : List Seen) (draws : List ℕ) (end : ℕ) where
  -- the session of one round is signed off
  signed : are_confirmed limit (map (risk_after gamma claims recorded seen draws end) claims) ≡ true →
      is_signed_off (session_to limit gamma claims recorded seen draws (end ∷ [])) ≡ true
  signed h =
      let risks = map (risk_after gamma claims recorded seen draws end) claims in
      let found : ℕ → Bool = λ claim. is_at_most limit (slice_get risks claim) || false in
      let long : length (map (λ (claim : Audited). claim.margin) claims) ≡ length risks =
      length-map claims (λ (claim : Audited). claim.margin) ∙ sym (length-map claims (risk_after gamma claims recorded seen draws end)) in
      ap (λ n. list_all found (range_with_len 0 n)) long
      ∙ at-place limit risks 0 found (λ i. let same : 0 + i ≡ i = omega arith in ap found same ∙ or_false (is_at_most limit (slice_get risks i))) h
    where
      or_false : (b : Bool) → (b || false) ≡ b
      or_false true = refl
      or_false false = refl

  of-one : 1 ≤ end → end ≤ length draws → IsSessionOf limit gamma claims recorded seen draws (session_to limit gamma claims recorded seen draws (end ∷ []))
  of-one some within = record {
    ends = end ∷ [];
    are = record {
      rising = λ i j d before below. absurd (omega arith);
      some = All-cons (λ e. 1 ≤ e) end [] some (All-nil (λ e. 1 ≤ e));
      drawn = All-cons (λ e. e ≤ length draws) end [] within (All-nil (λ e. e ≤ length draws));
    };
    is = refl;
  }

pub end_is_counted : EndIsCounted
end_is_counted batches terms most ballots seen file counts risks actual limits few some long is true-entries =
    let recorded = linked_of batches ballots in
    let cards = length-map (cards_of batches) (recorded_of ballots) in
    let claims = audited file in
    let drawn = drawn_cards terms.seed (length recorded) terms.draws in
    let every = all_seen seen (length recorded) in
    let end = terms.draws in
    let confirmed = sym is.signed_off in
    let off = signed terms.limit terms.gamma claims recorded every drawn end (ap (are_confirmed terms.limit) (sym is.risks_are) ∙ confirmed) in
    let all = length-map-range_with_len (λ k. drawn_card terms.seed k (length recorded)) 1 terms.draws in
    rw (← cards) (advanced_is_counted terms.limit terms.gamma terms.draws most terms.seed claims recorded seen actual
    (session_to terms.limit terms.gamma claims recorded every drawn (end ∷ []))
    (omega (arith, some, cards)) few (long ∙ sym cards) (rw cards true-entries)
    (of-one terms.limit terms.gamma claims recorded every drawn end limits.some_draws (omega (arith, all))) off)

pub each_risk_limit : EachRiskLimit
each_risk_limit terms n bytes asked batches ballots file actual signed sound are_sound read linked found at wrong off =
    let (certificate, back, accepted) = found_is_accepted (Nodes terms.nodes) bytes asked ballots file read found in
    risk_limit (Nodes terms.nodes) terms.limit terms.gamma n batches ballots file actual signed (record {
      manifest_sound = sound;
      ballots_sound = are_sound;
      file_sound = read_is_sound (assertion_file_text file) file back;
      linked = linked;
      accepted = accepted;
    }) at wrong off
