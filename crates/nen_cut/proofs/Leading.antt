-- The strongest NEN of a candidate in a set, over the losers up to one.
use Rattle.std.proofs.Common.{◌≡◌, ◌≢◌, ◌⊎◌, ℕ, ◌+◌, ◌-◌, ◌<◌, ◌≤◌, ◌^◌, true, false, inl, inr, List, get_or, ap, arith, ◌∙◌}
use Rattle.std.proofs.lemmas.Bool.{cases_lt, both_ways, false_from_ne_true}
use Rattle.irv_base.specs.Candidates.{has}
use Rattle.assertions.specs.declared.assertion.Assertion.TheVariants.{Nen}
use Rattle.assertions.specs.Assertions.{true_margin}
use Rattle.assertions.proofs.Proper.{nen_facts, nen_test}
use Rattle.set_tallies.specs.Bags.{HasTallies}
use Rattle.fewest.specs.Nens.{is_enough}
use Rattle.nen_cut.specs.Floors.{IsStrongest}
use Rattle.nen_cut.proofs.Enough.{enough-facts, enough-test}

-- of the members below l: the margin is the largest, and that of the loser if it isn't 0
pub record IsLeading (n rest w : ℕ) (row : List ℕ) (l loser margin : ℕ) : Type 0 where
  pub below : loser < n
  pub has_loser : 0 < margin → has rest loser ≡ true
  pub is : margin ≡ get_or row w 0 - get_or row loser 0
  pub most : (d : ℕ) → d < l → has rest d ≡ true → get_or row w 0 - get_or row d 0 ≤ margin

module _ (n rest w : ℕ) (row : List ℕ) where
  pub leading-none : w < n → IsLeading n rest w row 0 w 0
  leading-none below = record {
    below = below;
    has_loser = λ some. absurd (omega (arith, some));
    is = omega arith;
    most = λ d l h. absurd (omega (arith, l));
  }

  pub leading-stays : (l loser margin : ℕ) → IsLeading n rest w row l loser margin →
      ((get_or row w 0 - get_or row l 0 ≤ margin) ⊎ (has rest l ≡ false)) → IsLeading n rest w row (l + 1) loser margin
  leading-stays l loser margin is either = record {
    below = is.below;
    has_loser = is.has_loser;
    is = is.is;
    most = λ d m h. elim (cases_lt d l) [
      | inl p ↦ is.most d p h
      | inr q ↦
          let e : d ≡ l = omega (arith, m, q) in
          elim either [
            | inl le ↦ let f = ap (λ k. get_or row k 0) e in omega (arith, le, f)
            | inr f ↦ absurd (both_ways (has rest d) (ap (has rest) e ∙ f) h)
          ]
    ];
  }

  pub leading-takes : (l loser margin by : ℕ) → IsLeading n rest w row l loser margin → l < n → by ≡ get_or row w 0 - get_or row l 0 → margin < by →
      has rest l ≡ true → IsLeading n rest w row (l + 1) l by
  leading-takes l loser margin by is below same larger h = record {
    below = below;
    has_loser = λ _. h;
    is = same;
    most = λ d m h'. elim (cases_lt d l) [
      | inl p ↦ let k = is.most d p h' in omega (arith, k, larger)
      | inr q ↦
          let e : d ≡ l = omega (arith, m, q) in
          let f = ap (λ k. get_or row k 0) e in
          omega (arith, f, same)
    ];
  }

  module _ (records : List (List ℕ)) (floor loser margin : ℕ) (below : w < n) (small : rest < 2 ^ n) (inside : has rest w ≡ true)
      (are : HasTallies records n rest row) (is : IsLeading n rest w row n loser margin) where
    at-most : (l : ℕ) → is_enough n records floor (Nen w l rest) ≡ true → true_margin records (Nen w l rest) ≤ margin
    at-most l enough =
        let e = enough-facts n records floor (Nen w l rest) enough in
        let p = nen_facts n w l rest e.proper in
        let a = are w below inside in
        let b = are l p.pair.loser p.has_loser in
        let m = is.most l p.pair.loser p.has_loser in
        omega (arith, a, b, m)

    pub leading-has_none : ((margin ≡ 0) ⊎ (margin < floor)) → (l : ℕ) → is_enough n records floor (Nen w l rest) ≡ false
    leading-has_none few l =
        false_from_ne_true (is_enough n records floor (Nen w l rest)) (λ enough.
        let e = enough-facts n records floor (Nen w l rest) enough in
        let some = e.some in
        let reaches = e.reaches in
        let m = at-most l enough in
        elim few [ inl z ↦ omega (arith, some, m, z) | inr s ↦ omega (arith, reaches, m, s) ])

    pub leading-strongest : 0 < margin → floor ≤ margin → IsStrongest n records floor w rest loser margin
    leading-strongest some reaches =
        let h = is.has_loser some in
        let a = are w below inside in
        let b = are loser is.below h in
        let m = is.is in
        let same : margin ≡ true_margin records (Nen w loser rest) = omega (arith, a, b, m) in
        let differ : w ≢ loser = λ e. let f = ap (λ k. get_or row k 0) e in omega (arith, f, m, some) in
        record {
          measured = same;
          enough = enough-test n records floor (Nen w loser rest)
              (record {
                proper = nen_test n w loser rest
                    (record {
                      pair = record { winner = below; loser = is.below; differ = differ };
                      small = small;
                      has_winner = inside;
                      has_loser = h;
                    });
                some = omega (arith, same, some);
                reaches = omega (arith, same, reaches);
              });
          most = at-most;
        }
