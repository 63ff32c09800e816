-- If a claim isn't true of the actual rankings, a poll that is looked at after each draw confirms it on few sequences.
use Rattle.std.proofs.Common.{◌≡◌, ℕ, ◌+◌, ◌*◌, ◌^◌, ◌<◌, ◌≤◌, Bool, true, false, cond, List, [], ◌∷◌, map, length, take, get_or, sum_by, count_by, All, Contains, Option, None, Some, is_some, IsTrue, sym, ap, subst, ◌∙◌, arith}
use Rattle.std.specs.List.{list_all, range_with_len}
use Rattle.std.proofs.lemmas.List.{length-map, take-map, take-take}
use Rattle.std.proofs.lemmas.List.Elements.{All-contains, All-map}
use Rattle.std.proofs.lemmas.List.FromFn.{length-map-range_with_len, take-map-range_with_len}
use Rattle.std.proofs.Math.Path.{fun_ext}
use Rattle.irv_base.proofs.Members.{Member, contains-from_member, from_list_all, from_map, list_any-member, member-from_contains, member-map, range-member}
use Rattle.assertions.specs.Assorter.{assorter_value}
use Rattle.assertions.proofs.Sums.{assorter-is}
use Rattle.km_risk.specs.Exact.{is_within, millionths_in_one}
use Rattle.km_risk.specs.Reach.{IsSequence, sequences, prefixes}
use Rattle.km_risk.proofs.AsDrawn.{first_within_law, within_as_drawn_law}
use Rattle.km_risk.proofs.LargerDiscrepancies.{within_grows}
use Rattle.km_risk.proofs.Listed.{sequence-member, prefix-member}
use Rattle.assorters.specs.declared.seen.Seen.{Seen}
use Rattle.assorters.specs.Cards.{IsAssorter, seen_value}
use Rattle.session_state.specs.Draws.{seen_of_all}
use Rattle.session_state.specs.Readings.{AreReadings}
use Rattle.session_state.proofs.Different.{different-counted}
use Rattle.session_state.proofs.PartlySeen.{partly_seen_law}
use Rattle.audit_session.specs.Going.{all_seen, drawn_cards, seen_at}
use Rattle.audit_laws.proofs.FalseClaims.{some_is_untrue}
use Rattle.sampler.specs.Draws.{drawn_card}
use Rattle.seen_file.specs.Seen.{Entry}
use Rattle.polling.specs.Each.{Polled, confirmed_at, is_each_confirmed, values_of}
use Rattle.polling.specs.EachLimit.{EachIsCounted, EachLimit, EachValuesLimit, MayBeEachConfirmed}
use Rattle.polling.proofs.IsCounted.{drawn-readings, drawn-sequence, map-same, same-seen, seen_of_drawn}
use Rattle.polling.proofs.Limit.{found_value, is_ever_within, few, seen-le, test}

module _ (claim : Polled) (is : IsAssorter claim.value) (actual : List (List ℕ)) (fails : sum_by claim.value actual ≤ length actual)
    (limit : ℕ) (lasting : 1 ≤ claim.gamma) (part : limit < millionths_in_one) (seen : List Seen) (are : AreReadings actual seen) where
  -- a claim that a draw confirms had an exact risk within the limit there
  at-a-draw : (draws : List ℕ) (n k : ℕ) → confirmed_at limit claim.gamma (values_of seen (take n draws) claim) ≡ Some k →
      is_ever_within claim.value is actual fails limit claim.gamma draws ≡ true
  at-a-draw draws n k confirmed =
      let value : List ℕ → ℕ = claim.value in
      let at : ℕ → ℕ = λ card. seen_value value (seen_at seen card) in
      let ss : List ℕ = map at (take n draws) in
      let (from, to, printed, first) = first_within_law 1 1 claim.gamma limit k ss confirmed in
      let exact = within_as_drawn_law 1 1 claim.gamma limit (take k ss) (omega arith) (omega arith) lasting part printed in
      let few-draws : List ℕ = take k (take n draws) in
      let drawn : take k ss ≡ map at few-draws = take-map at k (take n draws) in
      let larger = within_grows 1 1 claim.gamma limit at (found_value value is actual) (seen-le value is actual fails limit claim.gamma seen are) few-draws
      (subst (λ draws. IsTrue (is_within 1 1 claim.gamma limit draws)) drawn exact) in
      let least : k ≤ n = (let long = length-map (take n draws) at in let taken = Rattle.std.proofs.lemmas.List.length-take n draws in omega (arith, to, long, taken)) in
      let shorter : few-draws ≡ take k draws = take-take k n draws least in
      let found : ℕ → ℕ = found_value value is actual in
      let within : test value is actual fails limit claim.gamma (take k (map found draws)) ≡ true =
      subst (λ values. is_within 1 1 claim.gamma limit values ≡ true) (ap (map found) shorter ∙ sym (take-map found k draws)) larger in
      list_any-member (test value is actual fails limit claim.gamma) {x = take k (map found draws)} {xs = prefixes (map found draws)}
      (prefix-member k (map found draws)) within

  confirms : (draws : List ℕ) (n : ℕ) → is_some (confirmed_at limit claim.gamma (values_of seen (take n draws) claim)) ≡ true →
      is_ever_within claim.value is actual fails limit claim.gamma draws ≡ true
  confirms draws n some = by (confirmed_at limit claim.gamma (values_of seen (take n draws) claim)) (λ k. at-a-draw draws n k) some where
    by : (o : Option ℕ) → ((k : ℕ) → o ≡ Some k → is_ever_within claim.value is actual fails limit claim.gamma draws ≡ true) → is_some o ≡ true →
        is_ever_within claim.value is actual fails limit claim.gamma draws ≡ true
    by None there some = absurd (cc some)
    by (Some k) there some = there k Rattle.std.proofs.Common.refl

pub each_values_limit : EachValuesLimit
each_values_limit limit n claims actual drawn claim terms assorters among fails off =
    let is : IsAssorter claim.value = All-contains (λ c. IsAssorter c.value) claims claim assorters among in
    let lasting : 1 ≤ claim.gamma = All-contains (λ c. 1 ≤ c.gamma) claims claim terms.positive among in
    let ever : List ℕ → Bool = is_ever_within claim.value is actual fails limit claim.gamma in
    let most = few claim.value is actual fails limit claim.gamma n in
    let least : length drawn ≤ count_by ever (sequences (range_with_len 1 (length actual)) n) =
    different-counted ever drawn (sequences (range_with_len 1 (length actual)) n) off.differ (λ draws m.
    let sequence = All-contains (IsSequence (length actual) n) drawn draws off.drawn (contains-from_member m) in
    let one = All-contains (MayBeEachConfirmed limit claims actual) drawn draws off.each (contains-from_member m) in (
      sequence-member (range_with_len 1 (length actual)) n draws sequence.long (λ c among'.
          let first = All-contains (λ e. 1 ≤ e) draws c sequence.some (contains-from_member among') in
          let last = All-contains (λ e. e ≤ length actual) draws c sequence.within (contains-from_member among') in
          range-member c 1 (length actual) first (omega arith)),
      confirms claim is actual fails limit lasting terms.below_one one.seen one.readings draws one.so_far
          (from_list_all (λ c. is_some (confirmed_at limit c.gamma (values_of one.seen (take one.so_far draws) c)))
          (member-from_contains claim claims among) one.confirmed),
    )) in
    omega arith

pub each_limit : EachLimit
each_limit candidates winner limit n assertions claims actual drawn cover same terms wrong off =
    let (a, among, fails) = some_is_untrue candidates winner (length actual) assertions actual cover wrong in
    let of-claims : Member (assorter_value a) (map (λ claim. claim.value) claims) =
    subst (Member (assorter_value a)) (sym same) (member-map assorter_value (member-from_contains a assertions among)) in
    let (claim, of, is) = from_map (λ claim. claim.value) (assorter_value a) claims of-claims in
    let assorters : All IsAssorter (map (λ claim. claim.value) claims) =
    subst (All IsAssorter) (sym same) (All-map IsAssorter assorter_value assertions (λ k b below. assorter-is (get_or assertions k b))) in
    each_values_limit limit n claims actual drawn claim terms (all-values claims assorters) (contains-from_member of)
    (subst (λ value. sum_by value actual ≤ length actual) (sym is) fails) off
  where
    all-values : (claims : List Polled) → All IsAssorter (map (λ claim. claim.value) claims) → All (λ claim. IsAssorter claim.value) claims
    all-values claims each = λ k claim below.
        let at = each k claim.value (omega (arith, length-map claims (λ claim. claim.value), below)) in
        subst IsAssorter (Rattle.std.proofs.lemmas.List.get_or-map (λ claim. claim.value) claims k claim claim.value below) at

-- the poll is the same if it uses only what is seen of the drawn cards
module _ (entries : List Entry) (drawn : List ℕ) (cards : ℕ) (some : All (λ card. 1 ≤ card) drawn) (within : All (λ card. card ≤ cards) drawn) where
  same-each : (limit : ℕ) (claims : List Polled) →
      is_each_confirmed limit claims (all_seen entries cards) drawn ≡ is_each_confirmed limit claims (seen_of_all (seen_of_drawn entries drawn) cards) drawn
  same-each limit claims =
      let by : (Polled → List ℕ) → Bool = λ along. list_all (λ claim. is_some (confirmed_at limit claim.gamma (along claim))) claims in
      ap by (fun_ext (λ claim. map-same (λ card. seen_value claim.value (seen_at (all_seen entries cards) card))
      (λ card. seen_value claim.value (seen_at (seen_of_all (seen_of_drawn entries drawn) cards) card)) drawn
      (λ card m. ap (seen_value claim.value) (same-seen entries drawn cards some within card m))))

pub each_is_counted : EachIsCounted
each_is_counted limit draws most seed claims entries actual some few true' confirmed =
    let cards : ℕ = length actual in
    let ds : List ℕ = drawn_cards seed cards draws in
    let es : List ℕ = drawn_cards seed cards most in
    let first : IsSequence cards draws ds = drawn-sequence seed cards draws some in
    let seen : List Seen = seen_of_all (seen_of_drawn entries ds) cards in
    let same : take draws es ≡ ds = take-map-range_with_len (λ k. drawn_card seed k cards) 1 most draws few in
    let more : length es ≡ most = length-map-range_with_len (λ k. drawn_card seed k cards) 1 most in (
      drawn-sequence seed cards most some,
      record {
        seen = seen;
        readings = (partly_seen_law (seen_of_drawn entries ds) actual (λ card from to. drawn-readings entries ds actual true' card)).0;
        so_far = draws;
        few = omega (arith, few, more);
        confirmed = subst (λ drawn. IsTrue (is_each_confirmed limit claims seen drawn)) (sym same)
            (subst IsTrue (same-each entries ds cards first.some first.within limit claims) confirmed);
      },
    )
