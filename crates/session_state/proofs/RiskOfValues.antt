-- If a claim isn't true of the actual rankings, the audit confirms it on few sequences.
use Rattle.std.proofs.Common.{◌≡◌, ℕ, ◌+◌, ◌*◌, ◌^◌, ◌<◌, ◌≤◌, Bool, true, cond, List, map, length, take, get_or, sum, sum_by, count_by, All, Contains, pos, ◌-ℤ◌, ◌∙◌, arith}
use Rattle.std.specs.List.{range_with_len}
use Rattle.std.proofs.lemmas.Int.{ints}
use Rattle.std.proofs.lemmas.List.{length-map, take-map}
use Rattle.std.proofs.lemmas.List.Elements.{All-contains, Contains-get_or}
use Rattle.std.proofs.lemmas.List.Folds.{fold-map}
use Rattle.std.proofs.lemmas.List.FromFn.{length-range_with_len}
use Rattle.std.proofs.lemmas.List.Sums.{sum_by-le}
use Rattle.irv_base.proofs.Members.{list_any-member, contains-from_member, range-member}
use Rattle.assertions.proofs.Tallies.{count_by-le}
use Rattle.manifest.specs.declared.recorded.Recorded.{Recorded}
use Rattle.km_risk.specs.Factor.{threshold}
use Rattle.km_risk.specs.Exact.{is_within, millionths_in_one}
use Rattle.km_risk.specs.Reach.{IsSequence, sequences, prefixes, some_prefix}
use Rattle.km_risk.proofs.Counting.{counting_law}
use Rattle.km_risk.proofs.LargerDiscrepancies.{within_grows}
use Rattle.km_risk.proofs.Listed.{sequence-member, prefix-member}
use Rattle.km_risk.proofs.Sequences.{reach_law, sequences_law}
use Rattle.assorters.specs.declared.seen.Seen.{Seen}
use Rattle.assorters.specs.declared.seen.Seen.TheVariants.{Found}
use Rattle.assorters.specs.Cards.{IsAssorter, recorded_value, margin_over, discrepancies, discrepancy_of}
use Rattle.assorters.proofs.Comparison.{recorded-within, discrepancies-sum}
use Rattle.assorters.proofs.Numbered.{numbered}
use Rattle.session_state.specs.Readings.{AreReadings}
use Rattle.session_state.specs.Draws.{Audited, IsSignedOffOn, is_signed_off_on}
use Rattle.session_state.specs.RiskOfValues.{AreClaims, IsUntrue, MayBeSignedOff, ValuesRiskLimit, CountedValuesRiskLimit}
use Rattle.session_state.proofs.Different.{different-counted}
use Rattle.session_state.proofs.Found.{all_found, found-le, found-sum}
use Rattle.session_state.proofs.Rounds.{every_draw}
use Rattle.session_state.proofs.SignedOff.{signed_off_law}

margin-is : (m s n : ℕ) → pos m ≡ pos s -ℤ pos n → m + n ≡ s
margin-is m s n h = omega (arith, ints)

module _ (claims : List Audited) (recorded : List Recorded) (actual : List (List ℕ)) (are : AreClaims claims recorded)
    (long : length actual ≡ length recorded) where
  module _ (claim : Audited) (among : Contains claims claim) where
    is_assorter : IsAssorter claim.value
    is_assorter = All-contains (λ c. IsAssorter c.value) claims claim are.assorters among

    recorded-sum : claim.margin + length recorded ≡ sum_by (recorded_value claim.value) recorded
    recorded-sum =
        margin-is claim.margin (sum_by (recorded_value claim.value) recorded) (length recorded)
        (All-contains (λ c. pos c.margin ≡ margin_over c.value recorded) claims claim are.margins among)

    margin-within : claim.margin ≤ length recorded
    margin-within =
        let most = sum_by-le (recorded_value claim.value) 2 recorded (λ k r below. recorded-within claim.value is_assorter (get_or recorded k r)) in
        omega (arith, most, recorded-sum)

    some_card : 1 ≤ length recorded
    some_card = let positive = All-contains (λ c. 1 ≤ c.margin) claims claim are.positive among in omega (arith, positive, margin-within)

  every_margin : All (λ claim. claim.margin ≤ length recorded) claims
  every_margin j claim below = margin-within (get_or claims j claim) (Contains-get_or claims j claim below)

  module _ (claim : Audited) (among : Contains claims claim) (fails : IsUntrue claim actual) where
    abbrev found_discrepancy : ℕ → ℕ
    found_discrepancy = discrepancy_of claim.value recorded (all_found actual)

    -- after some of these draws the exact risk of the claim is within the limit, if all cards are found
    abbrev is_ever_within : ℕ → ℕ → List ℕ → Bool
    is_ever_within limit gamma draws = some_prefix (is_within (length recorded) claim.margin gamma limit) (map found_discrepancy draws)

    -- found cards with the actual rankings don't make the claim true
    found-within : sum (discrepancies claim.value recorded (all_found actual)) ≤ threshold (length recorded) claim.margin
    found-within =
        let all = discrepancies-sum claim.value (is_assorter claim among) recorded (all_found actual) (length-map actual (λ r. Found r) ∙ long) in
        omega (arith, fails, all, long, found-sum claim.value actual, recorded-sum claim among, margin-within claim among)

    -- so few sequences ever have an exact risk within the limit
    few : (limit gamma k : ℕ) →
        count_by (is_ever_within limit gamma) (sequences (range_with_len 1 (length recorded)) k) * millionths_in_one ≤ limit * length recorded ^ k
    few limit gamma k =
        let cards = range_with_len 1 (length recorded) in
        let test : List ℕ → Bool = some_prefix (is_within (length recorded) claim.margin gamma limit) in
        let ds = numbered claim.value recorded (all_found actual) (length-map actual (λ r. Found r) ∙ long) in
        let many : length (map found_discrepancy cards) ≡ length recorded = length-map cards found_discrepancy ∙ length-range_with_len 1 (length recorded) in
        let reached = counting_law (length recorded) claim.margin gamma limit (map found_discrepancy cards) (some_card claim among)
        (margin-within claim among) many (rw ds found-within) k in
        rw (← fold-map (λ a x. a + cond (test x) 1 0) (λ draws. map found_discrepancy draws) 0 (sequences cards k), (sequences_law cards found_discrepancy k).1)
        (rw (reach_law (length recorded) claim.margin gamma limit (map found_discrepancy cards) many k) at reached)

    -- and a session that is signed off needs one of them
    signs : (limit gamma : ℕ) → 1 ≤ gamma → limit < millionths_in_one → (seen : List Seen) → AreReadings actual seen → (draws : List ℕ) →
        IsSignedOffOn limit gamma claims recorded seen draws → is_ever_within limit gamma draws ≡ true
    signs limit gamma positive part seen readings draws (session, of', signed) =
        let test : List ℕ → Bool = is_within (length recorded) claim.margin gamma limit in
        let each = signed_off_law limit gamma claims recorded seen draws session (some_card claim among) positive part are.assorters every_margin of' signed in
        let (k, few', within) = All-contains
        (λ c. (k : ℕ) × (k ≤ length draws) × (is_within (length recorded) c.margin gamma limit (map (discrepancy_of c.value recorded seen) (take k draws))
        ≡ true))
        claims claim each among in
        let found = within_grows (length recorded) claim.margin gamma limit (discrepancy_of claim.value recorded seen) found_discrepancy
        (found-le claim.value recorded actual seen readings) (take k draws) within in
        list_any-member test {x = take k (map found_discrepancy draws)} {xs = prefixes (map found_discrepancy draws)}
        (prefix-member k (map found_discrepancy draws)) (rw (take-map found_discrepancy k draws) found)

pub values_risk_limit : ValuesRiskLimit
values_risk_limit limit gamma k claims recorded actual signed claim terms are long among fails off =
    let test : List ℕ → Bool = is_ever_within claims recorded actual are long claim among fails limit gamma in
    let most = few claims recorded actual are long claim among fails limit gamma k in
    let least : length signed ≤ count_by test (sequences (range_with_len 1 (length recorded)) k) =
    different-counted test signed (sequences (range_with_len 1 (length recorded)) k) off.differ (λ draws m.
    let sequence = All-contains (IsSequence (length recorded) k) signed draws off.drawn (contains-from_member m) in
    let one = All-contains (MayBeSignedOff limit gamma claims recorded actual) signed draws off.each (contains-from_member m) in (
      sequence-member (range_with_len 1 (length recorded)) k draws sequence.long (λ c among'.
          let first = All-contains (λ e. 1 ≤ e) draws c sequence.some (contains-from_member among') in
          let last = All-contains (λ e. e ≤ length recorded) draws c sequence.within (contains-from_member among') in
          range-member c 1 (length recorded) first (omega arith)),
      signs claims recorded actual are long claim among fails limit gamma terms.positive terms.below_one one.seen one.readings draws
          (one.session, one.drawn, one.signed_off),
    )) in
    omega arith

pub counted_values_risk_limit : CountedValuesRiskLimit
counted_values_risk_limit limit gamma k claims recorded actual seen claim terms are long among fails readings =
    let test : List ℕ → Bool = is_ever_within claims recorded actual are long claim among fails limit gamma in
    let most = few claims recorded actual are long claim among fails limit gamma k in
    let fewer = count_by-le (is_signed_off_on limit gamma claims recorded seen) test (sequences (range_with_len 1 (length recorded)) k)
    (λ draws signed. signs claims recorded actual are long claim among fails limit gamma terms.positive terms.below_one seen readings draws
    ((every_draw limit gamma claims recorded seen draws).1 signed)) in
    omega arith
