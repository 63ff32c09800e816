-- The first tie of the tabulated order: there is one, or there is none.
use Rattle.std.proofs.Common.{◌≡◌, ◌↔◌, ℕ, zero, suc, ◌+◌, ◌-◌, ◌<◌, ◌≤◌, ◌&&◌, Bool, true, false, inl, inr, ◌⊎◌, List, [], ◌∷◌, drop, refl, sym, ap, subst, arith, ◌∙◌}
use Rattle.std.proofs.lemmas.Bool.{and_parts, and_from, both_ways, cases_Bool, cases_lt}
use Rattle.irv_base.specs.Candidates.{set_of}
use Rattle.irv_base.specs.Orders.{is_order}
use Rattle.irv_base.specs.Tabulation.{least_tally, sharing_least}
use Rattle.irv_base.proofs.Distinct.{Distinct, distinct-tail}
use Rattle.irv_base.proofs.Orders.{order_facts}
use Rattle.irv_base.specs.Tabulation.{loses, is_tabulated, is_tied, HasNoTie, IsFirstTie}
use Rattle.irv_base.specs.Laws.{HasTie}
use Rattle.irv_base.proofs.Tabulated.{tabulated_is_one}

-- ---- one or none
-- the first round with a tie, counted from 0
pub record IsFirst (records : List (List ℕ)) (order : List ℕ) (k : ℕ) : Type 0 where
  pub shared : is_tied records (drop k order) ≡ true
  pub first : (j : ℕ) → j < k → is_tied records (drop j order) ≡ false

untied-later : (records : List (List ℕ)) (c : ℕ) (rest : List ℕ) → is_tied records (c ∷ rest) ≡ false → HasNoTie records rest → HasNoTie records (c ∷ rest)
untied-later records c rest f h zero = f
untied-later records c rest f h (suc k) = h k

none-of_none : (records : List (List ℕ)) → HasNoTie records []
none-of_none records zero = refl
none-of_none records (suc k) = refl

first-later : (records : List (List ℕ)) (c : ℕ) (rest : List ℕ) (k : ℕ) → is_tied records (c ∷ rest) ≡ false → IsFirst records rest k →
    IsFirst records (c ∷ rest) (suc k)
first-later records c rest k f h = record { shared = h.shared; first = before } where
  before : (j : ℕ) → j < suc k → is_tied records (drop j (c ∷ rest)) ≡ false
  before zero l = f
  before (suc j) l = h.first j (omega arith)

pub first_or_none : (records : List (List ℕ)) (order : List ℕ) → ((k : ℕ) × IsFirst records order k) ⊎ HasNoTie records order
first_or_none records [] = inr (none-of_none records)
first_or_none records (c ∷ rest) =
    elim (cases_Bool (is_tied records (c ∷ rest))) [
      | inl t ↦ inl (0, record { shared = t; first = λ j l. absurd (omega (arith, l)) })
      | inr f ↦ elim (first_or_none records rest) [
        | inl h ↦ inl (suc h.0, first-later records c rest h.0 f h.1)
        | inr h ↦ inr (untied-later records c rest f h)
      ]
    ]

pub tie_or_none : (n : ℕ) (records : List (List ℕ)) (order : List ℕ) → is_order n order ≡ true → is_tabulated records order ≡ true →
    HasTie n records ⊎ HasNoTie records order
tie_or_none n records order o t =
    elim (first_or_none records order) [
      | inr h ↦ inr h
      | inl h ↦
          let round = h.0 + 1 in
          let at : h.0 ≡ round - 1 = omega arith in
          inl (
            round,
            set_of (sharing_least records (drop (round - 1) order)),
            least_tally records (drop (round - 1) order),
            omega arith,
            record {
              order = order;
              permutation = o;
              tabulated = t;
              shared = subst (λ k. is_tied records (drop k order) ≡ true) at h.1.shared;
              first = λ j l. h.1.first j (omega (arith, l));
              who = refl;
              with = refl;
            },
          )
    ]

pub tie_and_none : (n : ℕ) (records : List (List ℕ)) (order : List ℕ) → is_order n order ≡ true → is_tabulated records order ≡ true →
    HasTie n records → HasNoTie records order → ⊥
tie_and_none n records order o t (round, tied, votes, some, tie) none =
    let same : tie.order ≡ order = tabulated_is_one n records tie.order order tie.permutation tie.tabulated o t in
    both_ways (is_tied records (drop (round - 1) order)) (none (round - 1)) (subst (λ xs. is_tied records (drop (round - 1) xs) ≡ true) same tie.shared)

pub first_tie_is_one : (n : ℕ) (records : List (List ℕ)) (round tied votes round' tied' votes' : ℕ) → 1 ≤ round → 1 ≤ round' →
    IsFirstTie n records round tied votes → IsFirstTie n records round' tied' votes' → (round ≡ round') × (tied ≡ tied') × (votes ≡ votes')
first_tie_is_one n records round tied votes round' tied' votes' l l' t t' =
    let same : t.order ≡ t'.order = tabulated_is_one n records t.order t'.order t.permutation t.tabulated t'.permutation t'.tabulated in
    let here' : is_tied records (drop (round - 1) t'.order) ≡ true = subst (λ xs. is_tied records (drop (round - 1) xs) ≡ true) same t.shared in
    let there' : is_tied records (drop (round' - 1) t.order) ≡ true = subst (λ xs. is_tied records (drop (round' - 1) xs) ≡ true) (sym same) t'.shared in
    let at : round - 1 ≡ round' - 1 = elim (cases_lt (round - 1) (round' - 1)) [
      | inl lt ↦ absurd (both_ways (is_tied records (drop (round - 1) t'.order)) (t'.first (round - 1) lt) here')
      | inr ge ↦ elim (cases_lt (round' - 1) (round - 1)) [
        | inl lt ↦ absurd (both_ways (is_tied records (drop (round' - 1) t.order)) (t.first (round' - 1) lt) there')
        | inr ge' ↦ omega (arith, ge, ge')
      ]
    ] in
    let rest : drop (round - 1) t.order ≡ drop (round' - 1) t'.order = ap (drop (round - 1)) same ∙ ap (λ k. drop k t'.order) at in (
      omega (arith, l, l', at),
      t.who ∙ ap (λ xs. set_of (sharing_least records xs)) rest ∙ sym t'.who,
      t.with ∙ ap (least_tally records) rest ∙ sym t'.with,
    )
