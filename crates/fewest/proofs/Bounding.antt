-- Each list that covers has at least as many NENs as the flow has units, and a flow that fills a cut has as many as steps leave the cut.
use Rattle.std.proofs.Common.{◌≡◌, ℕ, ◌+◌, ◌<◌, ◌≤◌, ◌^◌, Bool, true, false, cond, not, ◌&&◌, ◌==◌, nat_lt, inl, inr, List, [], ◌∷◌, ◌++◌, filter, length, sum_by, count_by, refl, sym, ap, subst, arith, eq-eqb, eqb-true, ltb-true, lt-ltb, ◌∙◌}
use Rattle.std.specs.List.{list_any, list_all}
use Rattle.std.proofs.lemmas.Bool.{and_parts, and_from, and_left, both_ways, cases_Bool, cases_lt, not-true, not-false, not_from_true, not_from_false, false_from_ne_true}
use Rattle.assertions.specs.declared.assertion.Assertion.{Assertion}
use Rattle.assertions.specs.declared.assertion.Assertion.TheVariants.{Neb, Nen}
use Rattle.assertions.specs.Assertions.{is_proper, is_true, true_margin}
use Rattle.assertions.specs.Steps.{more, is_anew}
use Rattle.assertions.proofs.Proper.{pair_facts, nen_facts}
use Rattle.assertions.proofs.Sorted.{Sorted, none, more as later, sorted-filter}
use Rattle.irv_base.specs.Candidates.{has}
use Rattle.irv_base.proofs.Members.{Member, from_filter, from_list_any, from_list_all, list_any-member, candidate-member}
use Rattle.fewest.specs.Apart.{IsComplete, HasFewest}
use Rattle.fewest.specs.Cuts.{is_step, is_leaving, IsCut, CutsStanding}
use Rattle.fewest.specs.Flows.{steps, is_entering, flow_over, IsFlow, IsFull, is_cuttable, is_barred, value, leaving_count}
use Rattle.fewest.specs.Nens.{is_nen, nen_count, is_enough}
use Rattle.fewest.proofs.Counting.{hits-all, hit-le, OneEach, any}
use Rattle.fewest.proofs.Flowing.{Rises, steps-rise, step-is, leaves}
use Rattle.fewest.proofs.Reached.{reached, reached-cut, reached-cuts}
use Rattle.fewest.proofs.Cutting.{cut_covers}
use Rattle.fewest.proofs.Sums.{when, sum-le, sum-same, sum-zero}

-- ---- which steps assertions refute
module _ (n : ℕ) (records : List (List ℕ)) (floor : ℕ) where
  pub neb-bars : (w l set c : ℕ) → is_enough n records floor (Neb w l) ≡ true → is_anew (Neb w l) set c ≡ true → is_barred n records floor set c ≡ true
  neb-bars w l set c e r =
      let (same, out) = and_parts (l == c) (not (has (more set c) w)) r in
      let (proper, _) = and_parts (is_proper n (Neb w l)) (is_true records (Neb w l) && Rattle.std.proofs.Common.nat_le floor (true_margin records (Neb w l))) e in
      let pair = pair_facts n w l proper in
      list_any-member (λ w. is_enough n records floor (Neb w c) && not (has (more set c) w)) (candidate-member w n pair.winner)
      (and_from (is_enough n records floor (Neb w c)) (not (has (more set c) w))
      (subst (λ l. is_enough n records floor (Neb w l) ≡ true) (eqb-true l c same) e) out)

  pub nen-cuts : (w l rest set c : ℕ) → is_enough n records floor (Nen w l rest) ≡ true → is_anew (Nen w l rest) set c ≡ true →
      is_cuttable n records floor set c ≡ true
  nen-cuts w l rest set c e r =
      let (same, all) = and_parts (w == c) (more set c == rest) r in
      let (proper, _) = and_parts (is_proper n (Nen w l rest))
      (is_true records (Nen w l rest) && Rattle.std.proofs.Common.nat_le floor (true_margin records (Nen w l rest))) e in
      let nen = nen_facts n w l rest proper in
      list_any-member (λ l. is_enough n records floor (Nen c l (more set c))) (candidate-member l n nen.pair.loser)
      (subst (λ w. is_enough n records floor (Nen w l (more set c)) ≡ true) (eqb-true w c same)
      (subst (λ rest. is_enough n records floor (Nen w l rest) ≡ true) (sym (eqb-true (more set c) rest all)) e))

  -- at most one unit flows over a step that one of these assertions refutes
  pub refuted-one : (winner : ℕ) (flow : ℕ → ℕ → ℕ) → IsFlow n winner records floor flow → (set c : ℕ) → is_step n winner set c ≡ true →
      (a : Assertion) → is_enough n records floor a ≡ true → is_anew a set c ≡ true → flow set c ≤ 1
  refuted-one winner flow is set c can (Neb w l) e r = let z = is.none set c can (neb-bars w l set c e r) in omega (arith, z)
  refuted-one winner flow is set c can (Nen w l rest) e r = is.one set c can (nen-cuts w l rest set c e r)

  pub neb-none : (winner : ℕ) (flow : ℕ → ℕ → ℕ) → IsFlow n winner records floor flow → (set c : ℕ) → is_step n winner set c ≡ true →
      (a : Assertion) → is_nen a ≡ false → is_enough n records floor a ≡ true → is_anew a set c ≡ true → flow set c ≡ 0
  neb-none winner flow is set c can (Neb w l) no' e r = is.none set c can (neb-bars w l set c e r)
  neb-none winner flow is set c can (Nen w l rest) no' e r = cc

-- a NEN refutes only one step
one-step : (a : Assertion) → is_nen a ≡ true → (x y : ℕ × ℕ) → Rises x y → is_anew a x.0 x.1 ≡ true → is_anew a y.0 y.1 ≡ false
one-step (Neb w l) s x y r t = cc
one-step (Nen w l rest) s x y r t =
    false_from_ne_true (is_anew (Nen w l rest) y.0 y.1) (λ u.
    let (p, q) = and_parts (w == x.1) (more x.0 x.1 == rest) t in
    let (p', q') = and_parts (w == y.1) (more y.0 y.1 == rest) u in
    let e : x.1 ≡ y.1 = sym (eqb-true w x.1 p) ∙ eqb-true w y.1 p' in
    let f : more x.0 x.1 ≡ more y.0 y.1 = eqb-true (more x.0 x.1) rest q ∙ sym (eqb-true (more y.0 y.1) rest q') in
    let g : 2 ^ x.1 ≡ 2 ^ y.1 = ap (λ k. 2 ^ k) e in
    elim r [ inl l ↦ omega (arith, f, g, l) | inr both ↦ let l = both.1 in omega (arith, e, l) ])

each-one : (passes' : Assertion → Bool) {xs : List (ℕ × ℕ)} → Sorted Rises xs → (all : List (ℕ × ℕ)) →
    Sorted (OneEach passes' (λ a s. is_anew a s.0 s.1) all) xs
each-one passes' none all = none
each-one passes' (later {x = x} first s) all = later (λ y m a nen e t. one-step a nen x y (first y m) t) (each-one passes' s all)

-- ---- the bound
module _ (n winner floor : ℕ) (records : List (List ℕ)) (flow : ℕ → ℕ → ℕ) (is : IsFlow n winner records floor flow) where
  abbrev pub amount : ℕ × ℕ → ℕ
  amount s = flow s.0 s.1

  module _ (list : List Assertion) (some : 0 < n) (complete : IsComplete n winner records floor list) where
    abbrev pub quits : ℕ × ℕ → Bool
    quits s = is_leaving (reached n winner list) s.0 s.1 && nat_lt 0 (amount s)

    abbrev pub carriers : List (ℕ × ℕ)
    carriers = filter quits (steps n winner)

    -- one of the list refutes a step that leaves what is reached
    by-one : (s : ℕ × ℕ) → Member s (steps n winner) → is_leaving (reached n winner list) s.0 s.1 ≡ true → list_any (λ a. is_anew a s.0 s.1) list ≡ true
    by-one s m out =
        not-false (list_any (λ a. is_anew a s.0 s.1) list)
        (reached-cuts n winner list complete.covering s.0 s.1 (step-is n winner m) out)

    leaving-le : flow_over n winner flow (is_leaving (reached n winner list)) ≤ count_by quits (steps n winner)
    leaving-le =
        sum-le (λ s. cond (is_leaving (reached n winner list) s.0 s.1) (amount s) 0) (λ s. cond (quits s) 1 0) (steps n winner) (λ s m.
        elim (cases_Bool (is_leaving (reached n winner list) s.0 s.1)) [
          | inr f ↦
              let z : cond (is_leaving (reached n winner list) s.0 s.1) (amount s) 0 ≡ 0 = ap (λ b. cond b (amount s) 0) f in
              omega (arith, z)
          | inl t ↦
              let (a, k, r) = from_list_any (λ a. is_anew a s.0 s.1) list (by-one s m t) in
              let l = refuted-one n records floor winner flow is s.0 s.1 (step-is n winner m) a
              (from_list_all (is_enough n records floor) k complete.enough) r in
              let e : cond (is_leaving (reached n winner list) s.0 s.1) (amount s) 0 ≡ amount s = ap (λ b. cond b (amount s) 0) t in
              elim (cases_lt 0 (amount s)) [
                | inl p ↦
                    let q : when (quits s) 1 ≡ 1 = ap (λ b. cond b 1 0)
                    (and_from (is_leaving (reached n winner list) s.0 s.1) (nat_lt 0 (amount s)) t (lt-ltb 0 (amount s) p)) in
                    omega (arith, e, l, q)
                | inr z ↦ omega (arith, e, z)
              ]
        ])

    pub bounds : value n winner flow ≤ nen_count list
    bounds =
        let a = leaves n winner flow (reached n winner list) is.kept (reached-cut n winner list some) in
        let b = leaving-le in
        let c = Rattle.std.proofs.lemmas.List.Sums.length-filter quits (steps n winner) in
        let d = hits-all (any (is_enough n records floor) (λ a s. is_anew a s.0 s.1) carriers list) carriers (λ s m.
        let (k, t) = from_filter quits (steps n winner) m in
        let (out, _) = and_parts (is_leaving (reached n winner list) s.0 s.1) (nat_lt 0 (amount s)) t in
        by-one s k out) in
        let e = hit-le (is_enough n records floor) (λ a s. is_anew a s.0 s.1) carriers
        (λ s m a neb enough.
        let (k, t) = from_filter quits (steps n winner) m in
        let (out, p) = and_parts (is_leaving (reached n winner list) s.0 s.1) (nat_lt 0 (amount s)) t in
        let l = ltb-true 0 (amount s) p in
        false_from_ne_true (is_anew a s.0 s.1) (λ r.
        let z = neb-none n records floor winner flow is s.0 s.1 (step-is n winner k) a neb enough r in
        omega (arith, l, z)))
        (each-one (is_enough n records floor) (sorted-filter Rises quits (steps-rise n winner)) carriers) list complete.enough in
        omega (arith, a, b, c, d, e)

  -- ---- a flow that fills a cut
  module _ (within : ℕ → Bool) (cut : IsCut n within) (full : IsFull n winner records floor flow within) where
    abbrev pub stands : ℕ × ℕ → Bool
    stands s = is_leaving within s.0 s.1 && not (is_barred n records floor s.0 s.1)

    nothing-enters : flow_over n winner flow (is_entering within) ≡ 0
    nothing-enters =
        sum-zero (λ s. cond (is_entering within s.0 s.1) (amount s) 0) (steps n winner) (λ s m.
        elim (cases_Bool (is_entering within s.0 s.1)) [
          | inr f ↦ ap (λ b. cond b (amount s) 0) f
          | inl t ↦ ap (λ b. cond b (amount s) 0) t ∙ full.entering s.0 s.1 (step-is n winner m) t
        ])

    ones-leave : flow_over n winner flow (is_leaving within) ≡ leaving_count n winner records floor within
    ones-leave =
        sum-same (λ s. cond (is_leaving within s.0 s.1) (amount s) 0) (λ s. cond (stands s) 1 0) (steps n winner) (λ s m.
        let can = step-is n winner m in
        elim (cases_Bool (is_leaving within s.0 s.1)) [
          | inr f ↦
              ap (λ b. cond b (amount s) 0) f
              ∙ sym (ap (λ b. cond b 1 0) (and_left (is_leaving within s.0 s.1) (not (is_barred n records floor s.0 s.1)) f))
          | inl t ↦
              ap (λ b. cond b (amount s) 0) t
              ∙ elim (cases_Bool (is_barred n records floor s.0 s.1)) [
                | inl bar ↦
                    is.none s.0 s.1 can bar
                    ∙ sym (ap (λ b. cond b 1 0) (Rattle.std.proofs.lemmas.Bool.and_right (is_leaving within s.0 s.1) (not (is_barred n records floor s.0 s.1))
                    (not_from_true (is_barred n records floor s.0 s.1) bar)))
                | inr free ↦
                    full.leaving s.0 s.1 can t free
                    ∙ sym (ap (λ b. cond b 1 0) (and_from (is_leaving within s.0 s.1) (not (is_barred n records floor s.0 s.1)) t
                    (not_from_false (is_barred n records floor s.0 s.1) free)))
              ]
        ])

    pub full-value : value n winner flow ≡ leaving_count n winner records floor within
    full-value =
        let a = leaves n winner flow within is.kept cut in
        let b = nothing-enters in
        let c = ones-leave in
        omega (arith, a, b, c)

    pub full-fewest : (nebs nens : List Assertion) → 0 < n → CutsStanding n winner within nebs nens →
        list_all (is_enough n records floor) (nebs ++ nens) ≡ true → nen_count (nebs ++ nens) ≤ leaving_count n winner records floor within →
        HasFewest n winner records floor (nebs ++ nens)
    full-fewest nebs nens some standing enough few = record {
      complete = record { enough = enough; covering = cut_covers n winner within nebs nens cut standing };
      least = λ other complete.
          let a = bounds other some complete in
          let b = full-value in
          omega (arith, a, b, few);
    }
