-- What the two searches, for the assertions and for the order, say about the counts.
use Rattle.std.proofs.Common.{◌≡◌, ◌≢◌, ℕ, ◌+◌, ◌-◌, ◌<◌, ◌≤◌, Bool, true, false, cond, not, ◌&&◌, ◌==◌, nat_lt, nat_le, inl, inr, List, [], ◌∷◌, filter, find, Option, Some, None, Result, Ok, Err, refl, sym, ap, arith, ltb-true, lt-ltb, le-ltb, le-leb, eq-eqb, ne_eqb, ◌∙◌}
use Rattle.std.proofs.Math.Path.{fun_ext}
use Rattle.std.specs.List.{range_with_len}
use Rattle.std.proofs.lemmas.Bool.{cases_lt, cases_eq, lt-leb, not-true, not_from_false, eqb-false}
use Rattle.irv_base.specs.Candidates.{candidates, all_but}
use Rattle.irv_base.proofs.Members.{Member, here, there, member_at, candidate-member, from_candidates, from_filter, member-filter, from_find, find-member, from_range}
use Rattle.assertions.specs.Suffixes.{alternative_orders, parts_ending}
use Rattle.assertions.specs.Hardness.{low, best_margin}
use Rattle.assertions.specs.Certificate.{certificate_order, cover_count, order_count}
use Rattle.assertions.proofs.Alternatives.{best-le}
use Rattle.assertions.proofs.Sorted.{find-first, sorted-filter, sorted-range}
use Rattle.suffix_walk.specs.Kept.{all_ending}
use Rattle.suffix_walk.specs.Walks.{walked}
use Rattle.suffix_walk.specs.Search.{first_kept, kept_count, first_over, or_spent, first_within}
use Rattle.suffix_walk.specs.declared.walk.Stop.{Stop}
use Rattle.suffix_walk.specs.declared.walk.Stop.TheVariants.{Found, Spent}
use Rattle.suffix_walk.proofs.Counts.{count-same}
use Rattle.suffix_walk.proofs.Scans.{chosen, scan, scan_from}
use Rattle.certifier.specs.Walks.{is_under}

-- ---- the first candidate for whom a count is above the budget
module _ (n winner nodes : ℕ) (count : ℕ → ℕ) where
  abbrev is_over : ℕ → Bool
  is_over c = nat_lt nodes (count c)

  pub other-member : (c : ℕ) → c < n → c ≢ winner → Member c (all_but n winner)
  other-member c l ne = member-filter (λ d. not (d == winner)) (candidates n) (candidate-member c n l) (not_from_false (c == winner) (ne_eqb c winner ne))

  pub none-over : first_over n winner nodes count ≡ None → (c : ℕ) → c < n → c ≢ winner → count c ≤ nodes
  none-over h c l ne =
      elim (cases_lt nodes (count c)) [
        | inl lt ↦ let (d, e) = find-member is_over c (all_but n winner) (other-member c l ne) (lt-ltb nodes (count c) lt) in cc
        | inr le ↦ le
      ]

  pub record IsFirstOver (last : ℕ) : Type 0 where
    pub below : last < n
    pub alternative : last ≢ winner
    pub over : nodes < count last
    pub least : (c : ℕ) → c < last → c ≢ winner → count c ≤ nodes

  pub first-over : (last : ℕ) → first_over n winner nodes count ≡ Some last → IsFirstOver last
  first-over last h =
      let (m, t) = from_find is_over last (all_but n winner) h in
      let (k, ne) = from_filter (λ d. not (d == winner)) (candidates n) m in
      let below : last < n = from_candidates k in
      record {
        below = below;
        alternative = eqb-false last winner (not-true (last == winner) ne);
        over = ltb-true nodes (count last) t;
        least = λ c l other. elim (cases_lt nodes (count c)) [
          | inl lt ↦
              elim (find-first ◌<◌ is_over last c (sorted-filter ◌<◌ (λ d. not (d == winner)) (sorted-range 0 n)) h (other-member c (omega arith) other)
              (lt-ltb nodes (count c) lt)) [
                | inl e ↦ absurd (omega arith)
                | inr g ↦ absurd (omega arith)
              ]
          | inr le ↦ le
        ];
      }

-- ---- a scan that fails
module _ (n nodes : ℕ) (kept : List ℕ → Bool) where
  scan-member : (cs : List ℕ) (last : ℕ) → scan n nodes kept cs ≡ Err last → Member last cs
  scan-member [] last h = cc
  scan-member (c ∷ cs) last h = go (walked n nodes kept 0 (all_ending n (c ∷ []))) h (scan-member cs last) where
    go : (w : Result ℕ Stop) → chosen n kept c w (scan n nodes kept cs) ≡ Err last → (scan n nodes kept cs ≡ Err last → Member last cs) → Member last (c ∷ cs)
    go (Ok j) e ih = there (ih e)
    go (Err (Found s)) e ih = cc
    go (Err Spent) e ih = let same : c ≡ last = cc in member_at same

  -- at or after the candidate that it begins with
  pub scan-later : (winner c last : ℕ) → scan_from n nodes kept winner c ≡ Err last → c ≤ last
  scan-later winner c last h =
      (from_range last c (n - c) (from_filter (λ d. not (d == winner)) (range_with_len c (n - c))
      (scan-member (filter (λ d. not (d == winner)) (range_with_len c (n - c))) last h)).0).0

  -- so the counts of those before it are within the budget
  pub earlier-within : (winner c : ℕ) (count : ℕ → ℕ) (order : Option (List ℕ)) → scan_from n nodes kept winner c
      ≡ or_spent (first_over n winner nodes count) order →
      (d : ℕ) → d < n → d < c → d ≢ winner → count d ≤ nodes
  earlier-within winner c count order h d below l ne = go (first_over n winner nodes count) refl h where
    go : (o : Option ℕ) → first_over n winner nodes count ≡ o → scan_from n nodes kept winner c ≡ or_spent o order → count d ≤ nodes
    go None e k = none-over n winner nodes count e d below ne
    go (Some last) e k = let le : c ≤ last = scan-later winner c last k in (first-over n winner nodes count last e).least d (omega arith) ne

-- ---- what a search says
pub spent_is : (o : Option ℕ) (p : Option (List ℕ)) (last : ℕ) → or_spent o p ≡ Err last → o ≡ Some last
spent_is (Some a) p last e = cc
spent_is None p last e = cc

pub order_is : (o : Option ℕ) (p found : Option (List ℕ)) → or_spent o p ≡ Ok found → (o ≡ None) × (p ≡ found)
order_is (Some a) p found e = cc
order_is None p found e = (refl, cc)

find-same : {X : Type 0} (p q : X → Bool) (xs : List X) → ((x : X) → Member x xs → p x ≡ q x) → find p xs ≡ find q xs
find-same p q [] h = refl
find-same p q (x ∷ xs) h = ap (λ b. cond b (Some x) (find p xs)) (h x here) ∙ ap (λ o. cond (q x) (Some x) o) (find-same p q xs (λ y m. h y (there m)))

find-none : {X : Type 0} (p : X → Bool) (xs : List X) → ((x : X) → Member x xs → p x ≡ false) → find p xs ≡ None
find-none p [] h = refl
find-none p (x ∷ xs) h = rw (h x here) (find-none p xs (λ y m. h y (there m)))

-- below one more means at most
under-suc : (a b : ℕ) → nat_lt a (b + 1) ≡ nat_le a b
under-suc a b =
    elim (cases_lt b a) [
      | inl lt ↦ le-ltb a (b + 1) (omega arith) ∙ sym (lt-leb a b lt)
      | inr le ↦ lt-ltb a (b + 1) (omega arith) ∙ sym (le-leb a b le)
    ]

module _ (n winner nodes : ℕ) (records : List (List ℕ)) (best : ℕ) (is : best ≡ best_margin n winner (low n records)) where
  pub reached : (order : List ℕ) → Member order (alternative_orders n winner) → best ≤ low n records order
  reached order m = let le : best_margin n winner (low n records) ≤ low n records order = best-le n winner (low n records) order m in omega arith

  -- the search for the assertions
  none_under : first_kept n winner (is_under n records best) ≡ None
  none_under = find-none (is_under n records best) (alternative_orders n winner) (λ o m. le-ltb (low n records o) best (reached o m))

  cover_kept : (c : ℕ) → kept_count n (is_under n records best) None c ≡ cover_count n (low n records) best c
  cover_kept c = count-same (λ s. is_under n records best s && true) (is_under n records best) (parts_ending n c) (λ s m. both (is_under n records best s))
    where
      both : (b : Bool) → (b && true) ≡ b
      both true = refl
      both false = refl

  pub covers_are : first_within n winner nodes (is_under n records best) ≡ or_spent (first_over n winner nodes (cover_count n (low n records) best)) None
  covers_are =
      ap (λ o. or_spent (first_over n winner nodes (kept_count n (is_under n records best) o)) o) none_under
      ∙ ap (λ o. or_spent o None)
      (find-same (λ c. nat_lt nodes (kept_count n (is_under n records best) None c)) (λ c. nat_lt nodes (cover_count n (low n records) best c))
      (all_but n winner) (λ c m. ap (nat_lt nodes) (cover_kept c)))

  -- the search for the order
  abbrev at_most : List ℕ → Bool
  at_most s = nat_le (low n records s) best

  order_at_most : first_kept n winner at_most ≡ certificate_order n winner (low n records) best
  order_at_most = find-same at_most (λ order. low n records order == best) (alternative_orders n winner) (λ o m. same (low n records o) (reached o m)) where
    same : (a : ℕ) → best ≤ a → nat_le a best ≡ (a == best)
    same a le =
        elim (cases_eq a best) [
          | inl e ↦ le-leb a best (omega arith) ∙ sym (eq-eqb a best e)
          | inr ne ↦ lt-leb a best (omega (arith, ne)) ∙ sym (ne_eqb a best ne)
        ]

  pub orders_are : (order : List ℕ) → certificate_order n winner (low n records) best ≡ Some order →
      first_within n winner nodes (is_under n records (best + 1)) ≡ or_spent (first_over n winner nodes (order_count n (low n records) best order)) (Some order)
  orders_are order h =
      ap (first_within n winner nodes) (fun_ext (λ s. under-suc (low n records s) best))
      ∙ ap (λ o. or_spent (first_over n winner nodes (kept_count n at_most o)) o) (order_at_most ∙ h)
