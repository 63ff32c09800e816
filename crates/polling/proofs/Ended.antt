-- How the poll of a claim ends, by all seen values and by the first values only.
use Rattle.std.proofs.Common.{◌≡◌, ℕ, suc, ◌+◌, ◌-◌, ◌<◌, ◌≤◌, false, nat_le, List, [], ◌∷◌, ◌++◌, get_or, length, map, take, Option, None, Some, find, is_some, IsTrue, refl, sym, ap, ◌∙◌, arith, inl, inr}
use Rattle.std.specs.Prelude.{unwrap_or}
use Rattle.std.specs.List.{range_with_len}
use Rattle.std.proofs.lemmas.Bool.{cases_lt, le-leb}
use Rattle.std.proofs.lemmas.List.{length-take, take-map, take-take}
use Rattle.std.proofs.lemmas.List.Sums.{fold_push}
use Rattle.irv_base.proofs.Members.{from_find, from_range}
use Rattle.assertions.proofs.Agreeing.{find-same}
use Rattle.audit_session.specs.declared.seen.SeenCard.{SeenCard}
use Rattle.km_risk.specs.AsDrawn.{is_within_as_drawn, next_risk, risk_as_drawn}
use Rattle.km_risk.specs.declared.limits.TheConstants.{ONE}
use Rattle.polling.specs.Each.{confirmed_at, draws_of, end_of}
use Rattle.polling.specs.Polls.{counted, polled}
use Rattle.polling.specs.declared.counts.PollCounts.{PollCounts}
use Rattle.polling.specs.declared.each.ClaimEnd.{ClaimEnd}
use Rattle.polling.proofs.Ranges.{found-among, found-more}
use Rattle.polling.proofs.ValueCounts.{polled-more}

module _ (limit gamma : ℕ) (values : List ℕ) where
  abbrev as_ended : PollCounts → ℕ → Option ℕ → ClaimEnd
  as_ended counts risk confirmed = record { gamma = gamma; counts = counts; risk = risk; confirmed = confirmed }

  -- a claim that a draw confirms ends there, and any other claim ends with the last draw
  pub ended : (counts : PollCounts) (risk : ℕ) (confirmed : Option ℕ) → confirmed_at limit gamma values ≡ confirmed →
      counts ≡ counted (take (unwrap_or confirmed (length values)) values) →
      risk ≡ risk_as_drawn 1 1 gamma (take (unwrap_or confirmed (length values)) values) →
      as_ended counts risk confirmed ≡ end_of limit gamma values
  ended counts risk confirmed is of-counts of-risk =
      let at : (o : Option ℕ) → ClaimEnd = λ o. as_ended (counted (take (unwrap_or o (length values)) values))
      (risk_as_drawn 1 1 gamma (take (unwrap_or o (length values)) values)) o in
      (λ i. as_ended (of-counts i) (of-risk i) confirmed) ∙ ap at (sym is)

  -- a draw that confirms is one of them
  pub at-a-draw : (k : ℕ) → confirmed_at limit gamma values ≡ Some k → (1 ≤ k) × (k ≤ length values)
  at-a-draw k is =
      let (from, to) = from_range k 1 (length values) (from_find _ k (range_with_len 1 (length values)) is).0 in
      (from, omega (arith, to))

  module _ (m : ℕ) (few : m ≤ length values) where
    -- the search by the first values only
    first-search : confirmed_at limit gamma (take m values) ≡ find (λ k. is_within_as_drawn 1 1 gamma limit (take k values)) (range_with_len 1 m)
    first-search =
        let long : length (take m values) ≡ m = length-take m values ∙ (omega (arith, few)) in
        ap (λ n. find (λ k. is_within_as_drawn 1 1 gamma limit (take k (take m values))) (range_with_len 1 n)) long
        ∙ find-same (λ k. is_within_as_drawn 1 1 gamma limit (take k (take m values))) (λ k. is_within_as_drawn 1 1 gamma limit (take k values))
        (range_with_len 1 m) (λ k among.
        let (from, to) = from_range k 1 m among in
        let shorter : take k (take m values) ≡ take k values = take-take k m values (omega (arith, to)) in
        ap (is_within_as_drawn 1 1 gamma limit) shorter)

    -- a claim that they confirm, all values confirm
    pub confirmed-more : (k : ℕ) → confirmed_at limit gamma (take m values) ≡ Some k → confirmed_at limit gamma values ≡ Some k
    confirmed-more k is = found-more (λ k. is_within_as_drawn 1 1 gamma limit (take k values)) m (length values) few k (sym first-search ∙ is)

    pub ended-more : IsTrue (is_some (confirmed_at limit gamma (take m values))) → end_of limit gamma (take m values) ≡ end_of limit gamma values
    ended-more some = by (confirmed_at limit gamma (take m values)) refl some where
      by : (o : Option ℕ) → confirmed_at limit gamma (take m values) ≡ o → IsTrue (is_some o) → end_of limit gamma (take m values) ≡ end_of limit gamma values
      by None none some = absurd (cc some)
      by (Some k) is some =
          let whole = confirmed-more k is in
          let (from, to) = from_range k 1 m (from_find _ k (range_with_len 1 m) (sym first-search ∙ is)).0 in
          let shorter : take k (take m values) ≡ take k values = take-take k m values (omega (arith, to)) in
          let at : List ℕ → Option ℕ → ClaimEnd = λ first o. as_ended (counted first) (risk_as_drawn 1 1 gamma first) o in
          let here : draws_of limit gamma (take m values) ≡ k = ap (λ o. unwrap_or o (length (take m values))) is in
          let there : draws_of limit gamma values ≡ k = ap (λ o. unwrap_or o (length values)) whole in
          ap (λ n. at (take n (take m values)) (confirmed_at limit gamma (take m values))) here
          ∙ (λ i. at (shorter i) ((is ∙ sym whole) i))
          ∙ ap (λ n. at (take n values) (confirmed_at limit gamma values)) (sym there)

    -- and takes no more of them
    pub takes-few : IsTrue (is_some (confirmed_at limit gamma (take m values))) → draws_of limit gamma values ≤ m
    takes-few some = by (confirmed_at limit gamma (take m values)) refl some where
      by : (o : Option ℕ) → confirmed_at limit gamma (take m values) ≡ o → IsTrue (is_some o) → draws_of limit gamma values ≤ m
      by None none some = absurd (cc some)
      by (Some k) is some =
          let (from, to) = from_range k 1 m (from_find _ k (range_with_len 1 m) (sym first-search ∙ is)).0 in
          let there : draws_of limit gamma values ≡ k = ap (λ o. unwrap_or o (length values)) (confirmed-more k is) in
          omega (arith, to, there)

    -- one that they don't confirm takes more
    pub takes-more : m < length values → is_some (confirmed_at limit gamma (take m values)) ≡ false → m < draws_of limit gamma values
    takes-more fewer none = by (confirmed_at limit gamma values) refl where
      by : (o : Option ℕ) → confirmed_at limit gamma values ≡ o → m < unwrap_or o (length values)
      by None is = fewer
      by (Some k) is = elim (cases_lt m k) [
        | inl more ↦ more
        | inr within ↦
            let found = first-search ∙ found-among (λ k. is_within_as_drawn 1 1 gamma limit (take k values)) m (length values) few k is within in
            absurd (cc (sym none ∙ ap is_some found))
      ]

-- ---- one more draw

pub values-more : (value : List ℕ → ℕ) (drawn : List SeenCard) (i : ℕ) (one : SeenCard) (s : ℕ) → i < length drawn → one ≡ get_or drawn i one →
    s ≡ polled value one → take i (map (polled value) drawn) ++ s ∷ [] ≡ take (i + 1) (map (polled value) drawn)
values-more value drawn i one s below is counts-so =
    ap (λ xs. xs ++ s ∷ []) (take-map (polled value) i drawn)
    ∙ ap (λ s. map (polled value) (take i drawn) ++ s ∷ []) counts-so
    ∙ polled-more value drawn i one below is
    ∙ sym (take-map (polled value) (i + 1) drawn)

pub risk-more : (gamma : ℕ) (values : List ℕ) (s : ℕ) → next_risk 1 1 gamma (risk_as_drawn 1 1 gamma values) s ≡ risk_as_drawn 1 1 gamma (values ++ s ∷ [])
unfolding risk_as_drawn
risk-more gamma values s = sym (fold_push (next_risk 1 1 gamma) ONE values s)

pub risk-none : (gamma : ℕ) → ONE ≡ risk_as_drawn 1 1 gamma []
unfolding risk_as_drawn
risk-none gamma = refl

-- a search that ends at its first number, and one through no numbers
pub found-here : (f : ℕ → ℕ) (limit n m : ℕ) → n < m → f n ≤ limit → find (λ k. nat_le (f k) limit) (range_with_len n (m - n)) ≡ Some n
found-here f limit n m some within = let more : m - n ≡ suc (m - (n + 1)) = omega arith in rw (more, le-leb (f n) limit within) refl

pub found-nowhere : (f : ℕ → ℕ) (limit n m : ℕ) → m ≤ n → find (λ k. nat_le (f k) limit) (range_with_len n (m - n)) ≡ None
found-nowhere f limit n m none = let no : m - n ≡ 0 = omega arith in rw no refl
