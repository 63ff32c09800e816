-- What a signed-off session says about the draws.
use Rattle.std.proofs.Common.{◌≡◌, ◌↔◌, ℕ, zero, suc, ◌+◌, ◌<◌, ◌≤◌, Bool, true, nat_le, Some, List, [], ◌∷◌, map, length, take, slice_get, option_map, refl, sym, ◌∙◌, ap, subst, arith}
use Rattle.std.specs.List.{list_all, range_with_len}
use Rattle.std.proofs.lemmas.Bool.{true≢false, and_parts, and_from, le-leb}
use Rattle.std.proofs.lemmas.List.{take_all, length-map}
use Rattle.std.proofs.lemmas.List.FromFn.{length-range_with_len, get_or-range_with_len}
use Rattle.std.proofs.lemmas.List.Elements.{All-contains, All-head}
use Rattle.std.proofs.lemmas.Option.{slice_get-map}
use Rattle.irv_base.proofs.Members.{Member, contains-from_member, member-map, from_map, from_list_any, list_any-member, from_list_all, list_all-each, from_range, range-member}
use Rattle.manifest.specs.declared.recorded.Recorded.{Recorded}
use Rattle.km_risk.specs.Printed.{is_printed_within}
use Rattle.assorters.specs.declared.seen.Seen.{Seen}
use Rattle.assorters.specs.Cards.{discrepancy_of}
use Rattle.session_state.specs.Sessions.{is_at_most, meets, is_confirmed_at, is_signed_off}
use Rattle.session_state.specs.Draws.{Audited, AreRoundEnds, IsSignedOffOn, is_signed_off_on, risk_after, round_to, session_to}
use Rattle.session_state.specs.Laws.{EveryDrawLaw}

slice_get_some : {X : Type 0} (xs : List X) (j : ℕ) → j < length xs → (x : X) × (slice_get xs j ≡ Some x)
slice_get_some [] j below = absurd (omega arith)
slice_get_some (x ∷ xs) zero below = (x, refl)
slice_get_some (x ∷ xs) (suc j) below = slice_get_some xs j (omega arith)

-- each number of draws is the end of a round
every_end : (n : ℕ) → AreRoundEnds n (range_with_len 1 n)
every_end n = record {
  rising = λ i j d before within.
      let long = length-range_with_len 1 n in
      rw (get_or-range_with_len 1 n i d (omega arith), get_or-range_with_len 1 n j d (omega arith)) (omega arith);
  some = λ k d within.
      let long = length-range_with_len 1 n in
      rw (get_or-range_with_len 1 n k d (omega arith)) (omega arith);
  drawn = λ k d within.
      let long = length-range_with_len 1 n in
      rw (get_or-range_with_len 1 n k d (omega arith)) (omega arith);
}

module _ (limit gamma : ℕ) (claims : List Audited) (recorded : List Recorded) (seen : List Seen) (draws : List ℕ) where
  -- after k draws the printed risk of a claim is within the limit
  abbrev pub is_met_after : ℕ → Audited → Bool
  is_met_after k claim = is_printed_within (length recorded) claim.margin gamma limit (map (discrepancy_of claim.value recorded seen) (take k draws))

  -- the round says so
  meets-is : (end j : ℕ) (claim : Audited) → slice_get claims j ≡ Some claim →
      meets limit j (round_to gamma claims recorded seen draws end) ≡ is_met_after end claim
  meets-is end j claim at =
      ap (is_at_most limit) (slice_get-map (risk_after gamma claims recorded seen draws end) claims j
      ∙ ap (option_map (risk_after gamma claims recorded seen draws end)) at)

  -- each claim of a session that is signed off met the limit at the end of a round
  pub met_at : (ends : List ℕ) → is_signed_off (session_to limit gamma claims recorded seen draws ends) ≡ true →
      (j : ℕ) (claim : Audited) → j < length claims → slice_get claims j ≡ Some claim →
      (end : ℕ) × Member end ends × (is_met_after end claim ≡ true)
  met_at ends signed j claim below at =
      let session = session_to limit gamma claims recorded seen draws ends in
      let each = (and_parts (nat_le 1 (length session.rounds))
      (list_all (is_confirmed_at session (length session.rounds)) (range_with_len 0 (length session.margins))) signed).1 in
      let within : j < 0 + length session.margins = rw (length-map claims (λ claim. claim.margin)) (omega arith) in
      let confirmed = from_list_all (is_confirmed_at session (length session.rounds)) {x = j} {xs = range_with_len 0 (length session.margins)}
      (range-member j 0 (length session.margins) (omega arith) within) each in
      let (round, member, met) = from_list_any (meets limit j) session.rounds
      (rw (take_all (length session.rounds) session.rounds (omega arith)) at confirmed) in
      let (end, among, same) = from_map (round_to gamma claims recorded seen draws) round ends member in
      (end, among, sym (meets-is end j claim at) ∙ subst (λ r. meets limit j r ≡ true) (sym same) met)

  -- if each claim met the limit at the end of some round, the session is signed off
  signed_from : (ends : List ℕ) → 1 ≤ length ends →
      ((j : ℕ) (claim : Audited) → j < length claims → slice_get claims j ≡ Some claim → (end : ℕ) × Member end ends × (is_met_after end claim ≡ true)) →
      is_signed_off (session_to limit gamma claims recorded seen draws ends) ≡ true
  signed_from ends some each =
      let session = session_to limit gamma claims recorded seen draws ends in
      and_from (nat_le 1 (length session.rounds)) (list_all (is_confirmed_at session (length session.rounds)) (range_with_len 0 (length session.margins)))
      (le-leb 1 (length session.rounds) (rw (length-map ends (round_to gamma claims recorded seen draws)) some))
      (list_all-each (is_confirmed_at session (length session.rounds)) (range_with_len 0 (length session.margins))
      (λ j member.
      let below : j < 0 + length claims = rw (length-map claims (λ claim. claim.margin)) at ((from_range j 0 (length session.margins) member).1) in
      let (claim, at) = slice_get_some claims j (omega arith) in
      let (end, among, met) = each j claim (omega arith) at in
      rw (take_all (length session.rounds) session.rounds (omega arith))
      (list_any-member (meets limit j) {x = round_to gamma claims recorded seen draws end} {xs = session.rounds}
      (member-map (round_to gamma claims recorded seen draws) among) (meets-is end j claim at ∙ met))))

  -- there is a round, so there is a draw
  some_draw : (ends : List ℕ) → AreRoundEnds (length draws) ends → is_signed_off (session_to limit gamma claims recorded seen draws ends) ≡ true →
      1 ≤ length draws
  some_draw [] are signed = absurd (true≢false (sym signed))
  some_draw (end ∷ ends) are signed =
      let first = All-head (λ e. 1 ≤ e) end ends are.some in
      let last = All-head (λ e. e ≤ length draws) end ends are.drawn in
      omega arith

  pub every_draw : IsSignedOffOn limit gamma claims recorded seen draws ↔ (is_signed_off_on limit gamma claims recorded seen draws ≡ true)
  every_draw = (there, back) where
    there : IsSignedOffOn limit gamma claims recorded seen draws → is_signed_off_on limit gamma claims recorded seen draws ≡ true
    there (session, of', signed) =
        let signed_to : is_signed_off (session_to limit gamma claims recorded seen draws of'.ends) ≡ true = subst (λ s. is_signed_off s ≡ true) of'.is signed in
        signed_from (range_with_len 1 (length draws)) (rw (length-range_with_len 1 (length draws)) (some_draw of'.ends of'.are signed_to))
        (λ j claim below at.
        let (end, among, met) = met_at of'.ends signed_to j claim below at in
        let first = All-contains (λ e. 1 ≤ e) of'.ends end of'.are.some (contains-from_member among) in
        let last = All-contains (λ e. e ≤ length draws) of'.ends end of'.are.drawn (contains-from_member among) in
        (end, range-member end 1 (length draws) first (omega arith), met))

    back : is_signed_off_on limit gamma claims recorded seen draws ≡ true → IsSignedOffOn limit gamma claims recorded seen draws
    back signed = (
      session_to limit gamma claims recorded seen draws (range_with_len 1 (length draws)),
      record { ends = range_with_len 1 (length draws); are = every_end (length draws); is = refl },
      signed,
    )

pub every_draw_law : EveryDrawLaw
every_draw_law = every_draw
