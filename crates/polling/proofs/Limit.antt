-- If a claim isn't true of the actual rankings, a poll confirms it on few sequences.
use Rattle.std.proofs.Common.{◌≡◌, ℕ, suc, ◌+◌, ◌-◌, ◌*◌, ◌^◌, ◌<◌, ◌≤◌, Bool, true, cond, List, [], ◌∷◌, map, length, take, get_or, sum_by, count_by, All, sym, ap, ◌∙◌, arith}
use Rattle.std.specs.List.{range_with_len}
use Rattle.std.proofs.lemmas.List.{get_or-map, length-map, same_lists, take-map}
use Rattle.std.proofs.lemmas.List.Elements.{All-contains, All-map, All-weaker}
use Rattle.std.proofs.lemmas.List.Folds.{fold-map}
use Rattle.std.proofs.lemmas.List.FromFn.{get_or-map-range_with_len, length-map-range_with_len}
use Rattle.std.proofs.lemmas.List.Sums.{sum_by-cons}
use Rattle.irv_base.proofs.Members.{contains-from_member, from_list_all, list_any-member, member-from_contains, member-map, range-member}
use Rattle.assertions.specs.Assorter.{assorter_value}
use Rattle.assertions.proofs.Sums.{assorter-is}
use Rattle.km_risk.specs.Exact.{is_within, millionths_in_one}
use Rattle.km_risk.specs.Factor.{numerator, denominator}
use Rattle.km_risk.specs.Printed.{printed_risk}
use Rattle.km_risk.specs.Reach.{IsSequence, sequences, prefixes, some_prefix}
use Rattle.km_risk.proofs.Confirmed.{confirmed_law}
use Rattle.km_risk.proofs.Counting.{product_counting_law}
use Rattle.km_risk.proofs.LargerDiscrepancies.{within_grows}
use Rattle.km_risk.proofs.Listed.{sequence-member, prefix-member}
use Rattle.km_risk.proofs.Sequences.{product_reach_law, sequences_law}
use Rattle.assorters.specs.declared.seen.Seen.{Seen}
use Rattle.assorters.specs.declared.seen.Seen.TheVariants.{Found, Missing}
use Rattle.assorters.specs.Cards.{IsAssorter, seen_value}
use Rattle.assorters.proofs.Comparison.{seen-within}
use Rattle.session_state.specs.Readings.{AreReadings}
use Rattle.session_state.proofs.Different.{different-counted}
use Rattle.session_state.proofs.Found.{all_found, found-le}
use Rattle.audit_session.specs.Going.{seen_at}
use Rattle.audit_laws.proofs.FalseClaims.{some_is_untrue}
use Rattle.polling.specs.Polls.{is_risk_within, poll_counts, poll_risk}
use Rattle.polling.specs.Laws.{PollIsComparison}
use Rattle.polling.specs.PollLimit.{MayBeConfirmed, PollLimit, PollValuesLimit}
use Rattle.polling.proofs.ValueCounts.{as-discrepancies}

-- the seen values of drawn cards
module _ (value : List ℕ → ℕ) (is : IsAssorter value) (seen : List Seen) (draws : List ℕ) where
  abbrev values_drawn : List ℕ
  values_drawn = map (λ card. seen_value value (seen_at seen card)) draws

  at-most-two : All (λ s. s ≤ 2) values_drawn
  at-most-two =
      All-map (λ s. s ≤ 2) (λ card. seen_value value (seen_at seen card)) draws (λ j c below. seen-within value is (seen_at seen (get_or draws j c)))

pub poll_is_comparison : PollIsComparison
poll_is_comparison gamma value seen drawn is = ap (printed_risk 1 1 gamma) (as-discrepancies (values_drawn value is seen drawn) (at-most-two value is seen drawn))

module _ (value : List ℕ → ℕ) (is : IsAssorter value) (actual : List (List ℕ)) where
  -- what a card counts as, if all cards are found
  abbrev pub found_value : ℕ → ℕ
  found_value card = seen_value value (seen_at (all_found actual) card)

  abbrev cards : List ℕ
  cards = range_with_len 1 (length actual)

  found-are : map found_value cards ≡ map value actual
  found-are =
      same_lists (map found_value cards) (map value actual)
      (length-map-range_with_len found_value 1 (length actual) ∙ sym (length-map actual value))
      (λ k d below.
      let within : k < length actual = rw (length-map-range_with_len found_value 1 (length actual)) at below in
      let back : suc k - 1 ≡ k = omega arith in
      get_or-map-range_with_len found_value 1 (length actual) k (suc k) d within (omega arith)
      ∙ ap (λ i. seen_value value (get_or (all_found actual) i Missing)) back
      ∙ ap (seen_value value) (get_or-map (λ r. Found r) actual k [] Missing within)
      ∙ sym (get_or-map value actual k [] d within))

  sum-under : (gamma : ℕ) (rankings : List (List ℕ)) →
      sum_by (denominator 1 1 gamma) (map value rankings) ≡ 500 * sum_by value rankings + length rankings * gamma
  sum-under gamma [] = omega arith
  sum-under gamma (r ∷ rankings) =
      rw (sum_by-cons (denominator 1 1 gamma) (value r) (map value rankings), sum_by-cons value r rankings)
      (let rest = sum-under gamma rankings in omega arith)

  module _ (fails : sum_by value actual ≤ length actual) (limit gamma : ℕ) where
    -- after some of these draws the exact risk is within the limit, if all cards are found
    abbrev pub test : List ℕ → Bool
    test = is_within 1 1 gamma limit

    abbrev pub is_ever_within : List ℕ → Bool
    is_ever_within draws = some_prefix test (map found_value draws)

    many : length (map found_value cards) ≡ length actual
    many = length-map-range_with_len found_value 1 (length actual)

    mean : sum_by (denominator 1 1 gamma) (map found_value cards) ≤ length (map found_value cards) * numerator 1 1 gamma
    mean = rw (many, found-are, sum-under gamma actual) (omega (arith, fails))

    positive : 0 < numerator 1 1 gamma
    positive = omega arith

    pub few : (n : ℕ) → count_by is_ever_within (sequences cards n) * millionths_in_one ≤ limit * length actual ^ n
    few n =
        let reached = rw many at (product_counting_law (numerator 1 1 gamma) limit (denominator 1 1 gamma) (map found_value cards) positive mean n) in
        rw (← fold-map (λ a x. a + cond (some_prefix test x) 1 0) (λ draws. map found_value draws) 0 (sequences cards n), (sequences_law cards found_value n).1)
        (rw (product_reach_law (numerator 1 1 gamma) limit (denominator 1 1 gamma) (map found_value cards) n) at reached)

    pub seen-le : (seen : List Seen) → AreReadings actual seen → (card : ℕ) → seen_value value (seen_at seen card) ≤ found_value card
    seen-le seen are card = let more = found-le value [] actual seen are card in omega arith

    -- a poll that confirms the claim needs one of them
    pub confirms : 1 ≤ gamma → limit < millionths_in_one → (seen : List Seen) → AreReadings actual seen → (draws : List ℕ) (k : ℕ) →
        is_risk_within limit (poll_risk gamma (poll_counts value seen (take k draws))) ≡ true → is_ever_within draws ≡ true
    confirms lasting part seen are draws k printed =
        let ss : List ℕ = values_drawn value is seen (take k draws) in
        let two : All (λ s. s ≤ 2) ss = at-most-two value is seen (take k draws) in
        let four = All-weaker (λ s. s ≤ 2) (λ d. d ≤ 4) (λ s small. omega arith) ss two in
        let exact = confirmed_law 1 1 gamma limit ss (omega arith) (omega arith) lasting part four
        (rw (← as-discrepancies ss two) printed) in
        let larger = within_grows 1 1 gamma limit (λ card. seen_value value (seen_at seen card)) found_value (seen-le seen are) (take k draws) exact in
        list_any-member test {x = take k (map found_value draws)} {xs = prefixes (map found_value draws)}
        (prefix-member k (map found_value draws)) (rw (take-map found_value k draws) larger)

pub poll_values_limit : PollValuesLimit
poll_values_limit limit gamma n values actual drawn value terms assorters among fails off =
    let is : IsAssorter value = All-contains IsAssorter values value assorters among in
    let test : List ℕ → Bool = is_ever_within value is actual fails limit gamma in
    let most = few value is actual fails limit gamma n in
    let least : length drawn ≤ count_by test (sequences (range_with_len 1 (length actual)) n) =
    different-counted test drawn (sequences (range_with_len 1 (length actual)) n) off.differ (λ draws m.
    let sequence = All-contains (IsSequence (length actual) n) drawn draws off.drawn (contains-from_member m) in
    let one = All-contains (MayBeConfirmed limit gamma values actual) drawn draws off.each (contains-from_member m) in (
      sequence-member (range_with_len 1 (length actual)) n draws sequence.long (λ c among'.
          let first = All-contains (λ e. 1 ≤ e) draws c sequence.some (contains-from_member among') in
          let last = All-contains (λ e. e ≤ length actual) draws c sequence.within (contains-from_member among') in
          range-member c 1 (length actual) first (omega arith)),
      confirms value is actual fails limit gamma terms.positive terms.below_one one.seen one.readings draws one.so_far
          (from_list_all (λ v. is_risk_within limit (poll_risk gamma (poll_counts v one.seen (take one.so_far draws))))
          (member-from_contains value values among) one.confirmed),
    )) in
    omega arith

pub poll_limit : PollLimit
poll_limit candidates winner limit gamma n assertions actual drawn cover terms wrong off =
    let (a, among, fails) = some_is_untrue candidates winner (length actual) assertions actual cover wrong in
    poll_values_limit limit gamma n (map assorter_value assertions) actual drawn (assorter_value a) terms
    (All-map IsAssorter assorter_value assertions (λ k b below. assorter-is (get_or assertions k b)))
    (contains-from_member (member-map assorter_value (member-from_contains a assertions among))) fails off
