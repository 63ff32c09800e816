-- The work of a piece is at most the number of suffixes that elect its last candidate.
use Rattle.std.proofs.Common.{◌≡◌, ◌≢◌, inl, inr, ℕ, ◌+◌, ◌-◌, ◌<◌, ◌≤◌, Bool, true, false, not, ◌==◌, min, nat_lt, List, [], ◌∷◌, ◌++◌, filter, map, length, count_by, refl, sym, subst, arith, ltb-true, append_assoc, ◌∙◌}
use Rattle.std.proofs.lemmas.Bool.{and_parts, eqb-false, not-true}
use Rattle.std.proofs.lemmas.List.Sums.{length-filter, count_by-le-length}
use Rattle.irv_base.specs.Candidates.{candidates, all_but, is_in}
use Rattle.irv_base.specs.Orders.{EndsIn}
use Rattle.irv_base.proofs.Members.{Member, member_cases, member_nil, from_filter, from_map, from_candidates, out-from_none, member-from_contains}
use Rattle.assertions.specs.Suffixes.{is_suffix, parts_ending}
use Rattle.assertions.specs.Hardness.{low, first_bound}
use Rattle.assertions.proofs.Endings.{suffix_facts, one_alone}
use Rattle.assertions.proofs.Enumerated.{suffix_test, child, from_suffixes_ending}
use Rattle.assertions.proofs.Greatest.{greatest-le}
use Rattle.assertions.proofs.Listings.{parts_ending_are}
use Rattle.irv_base.specs.Names.{is_same}
use Rattle.bound_search.specs.Places.{ends_in}
use Rattle.bound_search.specs.Race.{is_part_below, suffixes_of, value_of, work, work_for, pieces_electing}
use Rattle.bound_search.proofs.Counting.{no_more_than, listed_once, filter_counts, at_most_one}

module _ (n : ℕ) (records : List (List ℕ)) (limit last other : ℕ) (proper : is_suffix n (other ∷ last ∷ []) ≡ true) (below : last < n) where
  abbrev piece : List ℕ
  piece = other ∷ last ∷ []

  part_electing : (x : List ℕ) → Member x (filter (is_part_below n records limit) (suffixes_of n piece)) → Member x (parts_ending n last)
  part_electing x m =
      let (m', t) = from_filter (is_part_below n records limit) (suffixes_of n piece) m in
      let (short, low_x) = and_parts (nat_lt (length x) n) (nat_lt (low n records x) limit) t in
      let longer = from_suffixes_ending n (n - length piece) piece x (suffix_facts n piece proper) m' in
      let ends : EndsIn x (last ∷ []) = (longer.before ++ other ∷ [], longer.split ∙ sym (append_assoc longer.before (other ∷ []) (last ∷ []))) in
      member-from_contains x (parts_ending n last) ((parts_ending_are n last x below).1 (suffix_test longer.suffix, ends, ltb-true (length x) n short))

  parts_few : count_by (is_part_below n records limit) (suffixes_of n piece) ≤ length (parts_ending n last)
  parts_few =
      let q : List ℕ → Bool = is_part_below n records limit in
      let all : List (List ℕ) = suffixes_of n piece in
      let few : length (filter q all) ≤ count_by (λ s. true) (parts_ending n last) =
      no_more_than (λ s. true) (filter q all) (parts_ending n last)
      (λ s. omega (arith, filter_counts (is_same s) q all, listed_once n (n - length piece) piece s, at_most_one (ends_in s piece)))
      (λ x m. (part_electing x m, refl)) in
      omega (arith, few, length-filter q all, count_by-le-length (λ (s : List ℕ). true) (parts_ending n last))

pub work_few : (n : ℕ) (records : List (List ℕ)) (order : List ℕ) (c : ℕ) → c < n → work_for n records order c ≤ length (parts_ending n c)
work_few n records order c below = greatest-le (length (parts_ending n c)) (map (work n records first) (pieces_electing n c)) each where
  first : ℕ
  first = first_bound n records order

  each : (x : ℕ) → Member x (map (work n records first) (pieces_electing n c)) → x ≤ length (parts_ending n c)
  each x m =
      let (piece, m', is) = from_map (work n records first) x (pieces_electing n c) m in
      let (other, m'', two) = from_map (λ d. d ∷ c ∷ []) piece (all_but n c) m' in
      let (inside, out) = from_filter (λ e. not (e == c)) (candidates n) m'' in
      let apart : other ≢ c = eqb-false other c (not-true (other == c) out) in
      let none : is_in (c ∷ []) other ≡ false =
      out-from_none other (c ∷ []) (λ k. elim (member_cases k) [ inl same ↦ apart (sym same) | inr k' ↦ member_nil k' ]) in
      let proper : is_suffix n (other ∷ c ∷ []) ≡ true = suffix_test (child n other (c ∷ []) (one_alone n c below) (from_candidates inside) none) in
      let le : work n records first (other ∷ c ∷ []) ≤ length (parts_ending n c) =
      parts_few n records (min first (value_of n records (other ∷ c ∷ []) + 1)) c other proper below in
      subst (λ y. y ≤ length (parts_ending n c)) is (subst (λ p. work n records first p ≤ length (parts_ending n c)) two le)
