-- If assertions are too few, so are fewer of them; and what is open.
use Rattle.std.proofs.Common.{◌≡◌, ℕ, ◌^◌, ◌<◌, ◌≤◌, ◌-◌, Bool, true, false, not, inl, inr, List, [], ◌∷◌, length, Option, Some, None, Ok, Err, refl, sym, ap, arith, ◌∙◌}
use Rattle.std.specs.List.{list_any, range_with_len}
use Rattle.std.proofs.lemmas.Bool.{and_from, and_parts, both_ways, cases_Bool, false_from_ne_true, not-true, not_from_false}
use Rattle.irv_base.specs.Candidates.{set_of}
use Rattle.irv_base.proofs.Distinct.{distinct-le, distinct-range}
use Rattle.irv_base.proofs.Members.{Member, from_filter, from_find, from_list_any, list_any-member, member-filter}
use Rattle.irv_base.proofs.Sames.{distinct-filter}
use Rattle.assertions.specs.declared.assertion.Assertion.{Assertion}
use Rattle.assertions.specs.Certificate.{is_same}
use Rattle.assertions.specs.Refutation.{refutes, covers}
use Rattle.assertions.specs.Steps.{is_anew}
use Rattle.assertions.specs.Suffixes.{alternative_orders}
use Rattle.assertions.proofs.Elections.{from_covers}
use Rattle.assertions.proofs.Endings.{alternative-member, from_alternative}
use Rattle.cover_checker.specs.Covers.{stands, standing_order}
use Rattle.set_walk.specs.Answers.{first_within}
use Rattle.set_walk.specs.Walks.{is_standing, passes, standing, walks}
use Rattle.set_walk.specs.declared.walk.WalkFault.TheVariants.{Spent}
use Rattle.set_walk.proofs.Counted.{counted_stand}
use Rattle.set_walk.proofs.Enough.{enough}
use Rattle.set_walk.proofs.Few.{standing_are_fewer}
use Rattle.set_walk.proofs.Orders.{covers_by_sets, standing_by_sets}
use Rattle.set_walk.proofs.Standing.{from_standing, standing-member}
use Rattle.set_search.proofs.Deciding.{from_ok, from_spent}
use Rattle.set_search.proofs.Giving.{same-self, is_the_same}
use Rattle.fewest_search.specs.Needed.{IsOpen, IsTooFew, others}

-- the first list has no assertion that the second doesn't have
abbrev pub IsWithin : List Assertion → List Assertion → Type 0
IsWithin part whole = (a : Assertion) → Member a part → Member a whole

none-of : (p : Assertion → Bool) (part whole : List Assertion) → IsWithin part whole → list_any p whole ≡ false → list_any p part ≡ false
none-of p part whole within f = false_from_ne_true (list_any p part) (λ t.
    let (a, m, h) = from_list_any p part t in
    both_ways (list_any p whole) f (list_any-member p {x = a} (within a m) h))

pub passes-part : (part whole : List Assertion) → IsWithin part whole → (set c : ℕ) → passes whole set c ≡ true → passes part set c ≡ true
passes-part part whole within set c t =
    let p = λ (a : Assertion). is_anew a set c in
    not_from_false (list_any p part) (none-of p part whole within (not-true (list_any p whole) t))

-- what walks with fewer steps also walks with more
walks-more : (p q : ℕ → ℕ → Bool) (t : List ℕ) → ((set c : ℕ) → p set c ≡ true → q set c ≡ true) → walks p t ≡ true → walks q t ≡ true
walks-more p q [] f h = refl
walks-more p q (c ∷ t) f h =
    let (g, w) = and_parts (p (set_of t) c) (walks p t) h in
    and_from (q (set_of t) c) (walks q t) (f (set_of t) c g) (walks-more p q t f w)

pub standing-more : (n winner : ℕ) (p q : ℕ → ℕ → Bool) → ((set c : ℕ) → p set c ≡ true → q set c ≡ true) →
    length (standing n winner p) ≤ length (standing n winner q)
standing-more n winner p q f =
    distinct-le (standing n winner p) (standing n winner q)
    (distinct-filter (is_standing n winner p) (range_with_len 0 (2 ^ n)) (distinct-range 0 (2 ^ n))) (λ set m.
    let (t, s) = from_standing n winner p set m in
    standing-member n winner q set t (record { is = s.is; short = s.short; going = walks-more p q t f s.going; same = s.same }))

pub open-part : (n winner : ℕ) (part whole : List Assertion) → IsWithin part whole → IsOpen n winner whole → IsOpen n winner part
open-part n winner part whole within (order, alternative, t) =
    let p = λ (a : Assertion). refutes a order in
    (order, alternative, not_from_false (list_any p part) (none-of p part whole within (not-true (list_any p whole) t)))

pub too_few-part : (n winner sets : ℕ) (part whole : List Assertion) → IsWithin part whole → IsTooFew n winner sets whole → IsTooFew n winner sets part
too_few-part n winner sets part whole within (inl open') = inl (open-part n winner part whole within open')
too_few-part n winner sets part whole within (inr many) =
    let le = standing-more n winner (passes whole) (passes part) (passes-part part whole within) in
    inr (omega (arith, many, le))

-- ---- the others of a list
pub from-others : (a : Assertion) (list : List Assertion) (b : Assertion) → Member b (others a list) → Member b list × (a ≡ b → ⊥)
from-others a list b m =
    let (k, t) = from_filter (λ b. not (is_same a b)) list m in
    (k, λ e. both_ways (is_same a b) (not-true (is_same a b) t) (ap (is_same a) (sym e) ∙ same-self a))

pub others-member : (a : Assertion) (list : List Assertion) (b : Assertion) → Member b list → (a ≡ b → ⊥) → Member b (others a list)
others-member a list b m differ =
    member-filter (λ b. not (is_same a b)) list m
    (not_from_false (is_same a b) (false_from_ne_true (is_same a b) (λ t. differ (is_the_same a b t))))

pub others-part : (a : Assertion) (part whole : List Assertion) → IsWithin part whole → IsWithin (others a part) (others a whole)
others-part a part whole within b m = let (k, differ) = from-others a part b m in others-member a whole b (within b k) differ

-- ---- what a walk says
module _ (n winner : ℕ) (list : List Assertion) where
  stands-open : (order : List ℕ) → standing_order n winner list ≡ Some order → IsOpen n winner list
  stands-open order e =
      let (m, t) = from_find (stands list) order (alternative_orders n winner) e in
      (order, from_alternative n winner order m, t)

  pub halt-open : (order : List ℕ) × (standing_order n winner list ≡ Some order) → IsOpen n winner list
  halt-open (order, e) = stands-open order e

  pub walk-open : (sets : ℕ) (order : List ℕ) → first_within n winner sets (passes list) ≡ Ok (Some order) → IsOpen n winner list
  walk-open sets order e = stands-open order (standing_by_sets n winner list ∙ (from_ok n winner sets (passes list) (Some order) e).1)

  pub spent-many : (sets : ℕ) → first_within n winner sets (passes list) ≡ Err Spent → sets < length (standing n winner (passes list))
  spent-many sets e =
      let many = from_spent n winner sets (passes list) e in
      let few = (counted_stand n winner (passes list)).0 in
      omega (arith, many, few)

  pub walk-covers : (sets : ℕ) → first_within n winner sets (passes list) ≡ Ok None → covers n winner list ≡ true
  walk-covers sets e = (covers_by_sets n winner list).1 (from_ok n winner sets (passes list) None e).1

  -- a list that doesn't cover is open
  pub uncovered-open : covers n winner list ≡ false → IsOpen n winner list
  uncovered-open f = by (standing_order n winner list) refl where
    by : (o : Option (List ℕ)) → standing_order n winner list ≡ o → IsOpen n winner list
    by (Some order) e = stands-open order e
    by None e = absurd (both_ways (covers n winner list) f ((covers_by_sets n winner list).1 (sym (standing_by_sets n winner list) ∙ e)))

  -- a budget of all sets shows it
  pub few-open : (sets : ℕ) → winner < n → 1 < n → 2 ^ n - 3 ≤ sets → IsTooFew n winner sets list → IsOpen n winner list
  few-open sets below two all (inl open') = open'
  few-open sets below two all (inr many) =
      let few = standing_are_fewer n winner (passes list) below two in
      absurd (omega (arith, many, few, all))

-- more assertions cover as well, within the same budget
pub covered-more : (n winner sets : ℕ) (part whole : List Assertion) → IsWithin part whole → first_within n winner sets (passes part) ≡ Ok None →
    first_within n winner sets (passes whole) ≡ Ok None
covered-more n winner sets part whole within e =
    let (few, none) = from_ok n winner sets (passes part) None e in
    let all = ap length ((counted_stand n winner (passes part)).1 none) in
    let le = standing-more n winner (passes whole) (passes part) (passes-part part whole within) in
    let some = (counted_stand n winner (passes whole)).0 in
    enough n winner sets (passes whole) (omega (arith, few, all, le, some)) ∙ ap Ok ((covers_by_sets n winner whole).0 covering)
  where
    never : IsOpen n winner part → ⊥
    never (order, alternative, t) =
        let (a, m, r) = from_covers n winner part order (walk-covers n winner part sets e)
        (alternative-member n winner alternative.1.0 order alternative.0 alternative.1.1 alternative.1.2) in
        both_ways (list_any (λ a. refutes a order) part) (not-true (list_any (λ a. refutes a order) part) t)
        (list_any-member (λ a. refutes a order) {x = a} m r)

    covering : covers n winner whole ≡ true
    covering =
        elim (cases_Bool (covers n winner whole)) [
          | inl t ↦ t
          | inr f ↦ absurd (never (open-part n winner part whole within (uncovered-open n winner whole f)))
        ]
