-- Decided contests: all possible orders elect one candidate exactly if each order that elects another is
-- refuted by a true assertion.
use Rattle.std.proofs.Common.{◌≡◌, ◌≢◌, ◌↔◌, ℕ, ◌<◌, ◌≤◌, ◌||◌, ◌==◌, not, Bool, true, false, nat_le, inl, inr, List, [], ◌∷◌, ◌++◌, map, reverse, refl, sym, ap, subst, arith, append_assoc, eq-eqb, leb-false, lt-ltb, ltb-true, ◌∙◌}
use Rattle.std.proofs.lemmas.Bool.{and_parts, and_from, and_cases, cases_eq, cases_lt, eqb-false, ne_eqb, not-true}
use Rattle.std.proofs.lemmas.List.{reverse-append, reverse-reverse}
use Rattle.std.specs.List.{list_all, list_any}
use Rattle.irv_base.specs.Candidates.{candidates, is_in, set_of, all_but}
use Rattle.irv_base.specs.Orders.{is_order, Elects}
use Rattle.irv_base.specs.Records.{tally}
use Rattle.irv_base.specs.Tabulation.{is_possible, may_lose}
use Rattle.irv_base.proofs.Distinct.{Distinct, distinct-head, distinct-rest}
use Rattle.irv_base.proofs.Members.{Member, here, there, member-append_right, list_all-each, list_any-member, in-from_member, from_map, member-map, member-filter, from_filter, candidate-member, from_candidates}
use Rattle.irv_base.proofs.Orders.{Order, order_facts, last_split}
use Rattle.assertions.specs.Assertions.{is_proper, is_true, votes_for, votes_against}
use Rattle.assertions.specs.Certificate.{certificate_assertions}
use Rattle.assertions.specs.Hardness.{low, best_margin, first_bound, start_order, with_first_two_exchanged}
use Rattle.assertions.specs.Refutation.{refutes, part_from}
use Rattle.assertions.specs.Suffixes.{alternative_orders}
use Rattle.assertions.specs.declared.assertion.Assertion.{Assertion}
use Rattle.assertions.specs.declared.assertion.Assertion.TheVariants.{Neb, Nen}
use Rattle.assertions.proofs.Alternatives.{best-le, best_is}
use Rattle.assertions.proofs.Certificates.{certificate_is_proper, certificate_is_true, certificate_covers}
use Rattle.assertions.proofs.Elections.{cover_is_sound, possible_iff_unrefuted}
use Rattle.assertions.proofs.Endings.{Suffix, from_alternative, alternative-member}
use Rattle.assertions.proofs.Listed.{suffix-nen}
use Rattle.assertions.proofs.Parts.{part_from-append}
use Rattle.assertions.proofs.Proper.{pair_test}
use Rattle.assertions.proofs.Tallies.{possible-not_refuted}
use Rattle.irv_base.specs.Tabulation.{loses, is_tabulated, AllElect, IsDecided}
use Rattle.assertions.specs.Laws.{IsProof}
use Rattle.irv_base.proofs.Losing.{loser-goes}
use Rattle.irv_base.proofs.Tabulated.{tabulated-possible}
use Rattle.irv_base.proofs.Decided.{one-elected, elected-below, decided_by_tabulated, turned-order, turned-possible, possible-turned}

-- ---- which true assertions refute orders
from_not_all : (p : ℕ → Bool) (xs : List ℕ) → list_all p xs ≡ false → (x : ℕ) × Member x xs × (p x ≡ false)
from_not_all p [] h = cc
from_not_all p (x ∷ xs) h =
    elim (and_cases (p x) (list_all p xs) h) [
      | inl f ↦ (x, here, f)
      | inr r ↦ let (y, m, f) = from_not_all p xs r in (y, there m, f)
    ]

pub record Against (n : ℕ) (records : List (List ℕ)) (order : List ℕ) (w l rest : ℕ) : Type 0 where
  pub proper : is_proper n (Nen w l rest) ≡ true
  pub holds : is_true records (Nen w l rest) ≡ true
  pub refuting : refutes (Nen w l rest) order ≡ true

some-against : (n : ℕ) (records : List (List ℕ)) (order : List ℕ) → Order n order → (before t : List ℕ) → order ≡ before ++ t →
    is_possible records t ≡ false → (w l rest : ℕ) × Against n records order w l rest
some-against n records order o before [] same refused = cc
some-against n records order o before (c ∷ rest) same refused =
    elim (and_cases (may_lose records c rest) (is_possible records rest) refused) [
      | inr f ↦ some-against n records order o (before ++ c ∷ []) rest (same ∙ sym (append_assoc before (c ∷ []) rest)) f
      | inl f ↦
          let (d, m, more') = from_not_all (λ d. nat_le (votes c) (votes d)) rest f in
          let lt : votes d < votes c = leb-false (votes c) (votes d) more' in (
            c,
            d,
            set_of (c ∷ rest),
            record {
              proper = suffix-nen n c d (c ∷ rest) whole here (there m) (λ e. distinct-head apart' (subst (λ x. Member x rest) (sym e) m));
              holds = lt-ltb (votes d) (votes c) lt;
              refuting = and_from (is_in order c) (set_of (part_from order c) == set_of (c ∷ rest)) (in-from_member (inside c here))
                  (eq-eqb (set_of (part_from order c)) (set_of (c ∷ rest))
                  (ap (λ s. set_of (part_from s c)) same ∙ ap set_of (part_from-append before c rest apart)));
            },
          )
    ]
  where
    votes : ℕ → ℕ
    votes = tally records (set_of (c ∷ rest))

    inside : (z : ℕ) → Member z (c ∷ rest) → Member z order
    inside z m = subst (Member z) (sym same) (member-append_right before m)

    apart : Distinct (before ++ c ∷ rest)
    apart = subst Distinct same o.apart

    apart' : Distinct (c ∷ rest)
    apart' = distinct-rest before (c ∷ rest) apart

    whole : Suffix n (c ∷ rest)
    whole = record { apart = apart'; below = λ z m. o.below z (inside z m) }

pub nen_against_impossible : (n : ℕ) (records : List (List ℕ)) (order : List ℕ) → is_order n order ≡ true → is_possible records order ≡ false →
    (w l rest : ℕ) × (is_proper n (Nen w l rest) ≡ true) × (is_true records (Nen w l rest) ≡ true) × (refutes (Nen w l rest) order ≡ true)
nen_against_impossible n records order o refused =
    let (w, l, rest, a) = some-against n records order (order_facts n order o) [] order refl refused in
    (w, l, rest, a.proper, a.holds, a.refuting)

pub nothing_against_possible : (n : ℕ) (records : List (List ℕ)) (order : List ℕ) (a : Assertion) → is_order n order ≡ true →
    is_possible records order ≡ true → is_proper n a ≡ true → is_true records a ≡ true → refutes a order ≡ true → ⊥
nothing_against_possible n records order a o p proper holds r =
    let f = order_facts n order o in
    let le : votes_for records a ≤ votes_against records a = possible-not_refuted n records order a proper f.apart f.whole p r in
    let lt : votes_against records a < votes_for records a = ltb-true (votes_against records a) (votes_for records a) holds in
    omega (arith, le, lt)

-- ---- decided
pub some-last : (n : ℕ) (order : List ℕ) → 0 < n → is_order n order ≡ true → (c : ℕ) × Elects order c
some-last n [] some o = absurd (omega (arith, some, (order_facts n [] o).long))
some-last n (x ∷ xs) some o = let (ys, y, e) = last_split x xs in (y, (ys, e))

module _ (n winner : ℕ) (records : List (List ℕ)) (below : winner < n) (two : 1 < n) where
  abbrev best : ℕ
  best = best_margin n winner (low n records)

  pub decided-positive : AllElect n records winner → 1 ≤ best
  decided-positive all =
      elim (cases_lt 0 best) [
        | inl lt ↦ omega (arith, lt)
        | inr zero ↦
            let (other, m, e) = best_is n winner (low n records) below two in
            let (o, (c, ne, ends)) = from_alternative n winner other m in
            let p : is_possible records other ≡ true = (possible_iff_unrefuted n records other o).1 (omega (arith, e, zero)) in
            absurd (ne (one-elected other c winner ends (all other o p)))
      ]

  pub positive-decided : 1 ≤ best → AllElect n records winner
  positive-decided some order o p =
      let (c, ends) = some-last n order (omega (arith, two)) o in
      elim (cases_eq c winner) [
        | inl e ↦ subst (Elects order) e ends
        | inr ne ↦
            let le : best ≤ low n records order = best-le n winner (low n records) order (alternative-member n winner c order o ne ends) in
            let zero : low n records order ≡ 0 = (possible_iff_unrefuted n records order o).0 p in
            absurd (omega (arith, some, le, zero))
      ]

  -- ---- covering claims
  pub decided-proof : AllElect n records winner → (claims : List Assertion) × IsProof n winner records claims
  decided-proof all =
      let some = decided-positive all in (
        certificate_assertions n records winner,
        record {
          proper = certificate_is_proper n winner records;
          hold = certificate_is_true n winner records;
          cover = certificate_covers n winner records (omega (arith, some));
        },
      )

  pub proof-decided : (claims : List Assertion) → IsProof n winner records claims → AllElect n records winner
  proof-decided claims proof order o p = cover_is_sound n winner claims below proof.proper proof.cover records proof.hold order o p

pub decided_is_positive : (n winner : ℕ) (records : List (List ℕ)) → winner < n → 1 < n →
    (AllElect n records winner ↔ (1 ≤ best_margin n winner (low n records)))
decided_is_positive n winner records below two = (decided-positive n winner records below two, positive-decided n winner records below two)

pub decided_exactly : (n winner : ℕ) (records : List (List ℕ)) (order : List ℕ) → 1 < n → is_order n order ≡ true → is_tabulated records order ≡ true →
    Elects order winner → (IsDecided n records ↔ (1 ≤ best_margin n winner (low n records)))
decided_exactly n winner records order two o t ends =
    let below = elected-below n winner order o ends in
    let same = decided_by_tabulated n winner records order o t ends in (
      λ d. decided-positive n winner records below two (same.0 d),
      λ some. same.1 (positive-decided n winner records below two some),
    )

pub proof_iff_decided : (n winner : ℕ) (records : List (List ℕ)) → winner < n → 1 < n →
    (((claims : List Assertion) × IsProof n winner records claims) ↔ AllElect n records winner)
proof_iff_decided n winner records below two =
    (λ h. proof-decided n winner records below two h.0 h.1, decided-proof n winner records below two)

-- ---- a candidate who isn't eliminated before any other
module _ (n winner : ℕ) (records : List (List ℕ)) (below : winner < n) (two : 1 < n)
    (over : (l : ℕ) → l < n → l ≢ winner → is_true records (Neb winner l) ≡ true) where
  abbrev over_all : List Assertion
  over_all = map (λ l. Neb winner l) (all_but n winner)

  from_over : (a : Assertion) → Member a over_all → (l : ℕ) × (l < n) × (l ≢ winner) × (Neb winner l ≡ a)
  from_over a m =
      let (l, k, e) = from_map (λ l. Neb winner l) a (all_but n winner) m in
      let (k', ne) = from_filter (λ c. not (c == winner)) (candidates n) k in (
        l,
        from_candidates k',
        eqb-false l winner
            (not-true (l == winner) ne),
        e,
      )

  over-proper : (a : Assertion) → Member a over_all → is_proper n a ≡ true
  over-proper a m =
      let (l, inside, ne, e) = from_over a m in
      subst (λ b. is_proper n b ≡ true) e (pair_test n winner l (record { winner = below; loser = inside; differ = λ s. ne (sym s) }))

  over-true : (a : Assertion) → Member a over_all → is_true records a ≡ true
  over-true a m = let (l, inside, ne, e) = from_over a m in subst (λ b. is_true records b ≡ true) e (over l inside ne)

  over-refutes : (order : List ℕ) → Member order (alternative_orders n winner) → list_any (λ a. refutes a order) over_all ≡ true
  over-refutes order m =
      let (o, (c, ne, (before, same))) = from_alternative n winner order m in
      let f = order_facts n order o in
      let inside : Member c order = subst (Member c) (sym same) (member-append_right before here) in
      let alone : part_from order c ≡ c ∷ [] = ap (λ s. part_from s c) same ∙ part_from-append before c [] (subst Distinct same f.apart) in
      let out : is_in (part_from order c) winner ≡ false = ap (λ s. is_in s winner) alone ∙ ap (λ b. b || false) (ne_eqb c winner ne) in
      list_any-member (λ a. refutes a order) {x = Neb winner c}
      (member-map (λ l. Neb winner l) (member-filter (λ c. not (c == winner)) (candidates n)
      (candidate-member c n (f.below c inside)) (ap not (ne_eqb c winner ne))))
      (and_from (is_in order c) (not (is_in (part_from order c) winner)) (in-from_member inside) (ap not out))

  pub first_over_all : AllElect n records winner
  first_over_all = proof-decided n winner records below two over_all (record {
    proper = list_all-each (is_proper n) over_all over-proper;
    hold = list_all-each (is_true records) over_all over-true;
    cover = list_all-each (λ order. list_any (λ a. refutes a order) over_all) (alternative_orders n winner) over-refutes;
  })

-- ---- where the search starts
start-exchanged : (before : List ℕ) (a b : ℕ) → start_order (before ++ a ∷ b ∷ []) ≡ before ++ b ∷ a ∷ []
start-exchanged before a b =
    ap (λ r. reverse (with_first_two_exchanged r)) (reverse-append before (a ∷ b ∷ []))
    ∙ reverse-append (a ∷ b ∷ []) (reverse before)
    ∙ ap (λ s. s ++ b ∷ a ∷ []) (reverse-reverse before)

tabulated-last : (records : List (List ℕ)) (before t : List ℕ) → is_tabulated records (before ++ t) ≡ true → is_tabulated records t ≡ true
tabulated-last records [] t h = h
tabulated-last records (c ∷ before) t h = tabulated-last records before t (and_parts (loses records c (before ++ t)) (is_tabulated records (before ++ t)) h).1

pub first_bound_is_zero : (n a b : ℕ) (records : List (List ℕ)) (before : List ℕ) → is_order n (before ++ a ∷ b ∷ []) ≡ true →
    is_tabulated records (before ++ a ∷ b ∷ []) ≡ true →
    ((first_bound n records (before ++ a ∷ b ∷ []) ≡ 0)
    ↔ (tally records (set_of (a ∷ b ∷ [])) a ≡ tally records (set_of (a ∷ b ∷ [])) b))
first_bound_is_zero n a b records before o t =
    let p : is_possible records (before ++ a ∷ b ∷ []) ≡ true = tabulated-possible records (before ++ a ∷ b ∷ []) t in
    let iff = possible_iff_unrefuted n records (before ++ b ∷ a ∷ []) (turned-order n a b records before o p) in
    let start : first_bound n records (before ++ a ∷ b ∷ []) ≡ low n records (before ++ b ∷ a ∷ []) =
    ap (low n records) (start-exchanged before a b) in
    let loser = (and_parts (loses records a (b ∷ [])) (is_tabulated records (b ∷ [])) (tabulated-last records before (a ∷ b ∷ []) t)).0 in
    let le = (loser-goes records a (b ∷ []) b loser here).fewer in (
      λ zero. let ge = possible-turned n a b records before o p (iff.1 (sym start ∙ zero)) in omega (arith, le, ge),
      λ e. start ∙ iff.0 (turned-possible n a b records before o p (omega (arith, e))),
    )
