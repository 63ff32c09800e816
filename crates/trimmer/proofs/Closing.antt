-- The sets that are reached are those that no passing step leaves.
use Rattle.std.proofs.Common.{◌≡◌, ◌≢◌, inl, inr, ℕ, ◌+◌, ◌^◌, ◌<◌, ◌≤◌, Bool, true, false, nat_lt, if◌then◌else◌, List, [], ◌∷◌, ◌++◌, length, Option, Some, None, Ok, Err, Contains, refl, sym, ap, subst, arith, le_trans, ◌∙◌}
use Rattle.std.proofs.lemmas.Bool.{and_parts, cases_lt}
use Rattle.std.specs.List.{range_with_len}
use Rattle.irv_base.specs.Candidates.{has, set_of}
use Rattle.irv_base.proofs.Distinct.{distinct-le, distinct-range}
use Rattle.irv_base.proofs.Members.{contains-from_member, member-from_contains}
use Rattle.irv_base.proofs.Sames.{distinct-filter}
use Rattle.irv_base.proofs.Sets.{set_of-cons}
use Rattle.irv_base.proofs.Suffixes.{suffix-has, suffix-head, suffix-rest}
use Rattle.assertions.specs.Steps.{more}
use Rattle.assertions.proofs.Anew.{same-long}
use Rattle.set_walk.specs.Walks.{counted, first_by_sets, is_standing, standing, walks}
use Rattle.set_walk.specs.declared.walk.WalkFault.TheVariants.{Spent}
use Rattle.set_walk.proofs.Claims.{alone-elected, rest-elects}
use Rattle.set_walk.proofs.Counted.{counted_stand}
use Rattle.set_walk.proofs.Enough.{enough}
use Rattle.set_walk.proofs.Exact.{Walks}
use Rattle.set_walk.proofs.Standing.{from_standing}
use Rattle.cover_checker.specs.Reaching.{IsReach}
use Rattle.cover_checker.specs.declared.walk.SetWalk.TheVariants.{Ended}
use Rattle.trimmer.specs.Spreading.{IsStart}
use Rattle.trimmer.proofs.Standing.{stepped, short-stands, whole-walks, first-walks, not-longer}

-- the sets stand, and each step that passes from one of them, or from the empty set, leads to one of them
pub record Closed (n winner : ℕ) (goes : ℕ → ℕ → Bool) (reached : List ℕ) : Type 0 where
  pub stand : (set : ℕ) → Contains reached set → Contains (standing n winner goes) set
  pub closed : (set c : ℕ) → IsStart winner reached set c → c < n → has set c ≡ false → goes set c ≡ true → Contains reached (more set c)

module _ (n winner budget : ℕ) (goes : ℕ → ℕ → Bool) (reached : List ℕ) where
  -- ---- from what is reached
  none-walks : IsReach n winner budget goes (Ok (Ended reached)) → first_by_sets n winner goes ≡ None
  none-walks r = go (nat_lt budget (length (counted n winner goes))) (first_by_sets n winner goes) r.0 where
    go : (b : Bool) (first : Option (List ℕ)) → (if b then Err Spent else Ok first) ≡ Ok None → first ≡ None
    go true first e = cc
    go false first e = cc

  pub reached-closed : IsReach n winner budget goes (Ok (Ended reached)) → Closed n winner goes reached
  reached-closed r = record {
    stand = λ set m. (r.1 set).0 m;
    closed = λ set c start below out passing.
        let (tail, w, is) = stepped n winner goes set c (stands set c start) below out passing in
        let t = c ∷ tail in
        let same : set_of t ≡ more set c = set_of-cons c tail ∙ ap (λ s. 2 ^ c + s) is in
        elim (cases_lt (length t) n) [
          | inl short ↦ (r.1 (more set c)).1 (subst (Contains (standing n winner goes)) same (short-stands n winner goes t w short))
          | inr long ↦
              let (order, e) = whole-walks n winner goes t w (omega (arith, long, not-longer n winner goes t w)) in
              let never : Some order ≡ None = sym e ∙ none-walks r in cc
        ];
  }
    where
      stands : (set c : ℕ) → IsStart winner reached set c → IsStart winner (standing n winner goes) set c
      stands set c (inl m) = inl ((r.1 set).0 m)
      stands set c (inr alone) = inr alone

  -- ---- and back
  walk-reached : Closed n winner goes reached → (t : List ℕ) → Walks n winner goes t → Contains reached (set_of t)
  walk-reached k [] w = absurd (nobody w.is.elects.0 w.is.elects.1) where
    nobody : (before : List ℕ) → [] ≡ before ++ w.is.elected ∷ [] → ⊥
    nobody [] e = cc
    nobody (x ∷ before) e = cc
  walk-reached k (c ∷ []) w =
      let other : c ≢ winner = subst (λ x. x ≢ winner) (sym (alone-elected c w.is.elected w.is.elects)) w.is.other in
      let passing = (and_parts (goes 0 c) true w.going).0 in
      subst (Contains reached) (sym (set_of-cons c [])) (k.closed 0 c (inr (refl, other)) (suffix-head n c [] w.is.proper).0
      (suffix-has n [] c refl) passing)
  walk-reached k (c ∷ d ∷ t) w =
      let rest : Walks n winner goes (d ∷ t) = record {
        is = record {
          proper = suffix-rest n c (d ∷ t) w.is.proper;
          elected = w.is.elected;
          other = w.is.other;
          elects = rest-elects c d w.is.elected t w.is.elects;
        };
        going = (and_parts (goes (set_of (d ∷ t)) c) (walks goes (d ∷ t)) w.going).1;
      } in
      let (below, out) = suffix-head n c (d ∷ t) w.is.proper in
      subst (Contains reached) (sym (set_of-cons c (d ∷ t))) (k.closed (set_of (d ∷ t)) c (inl (walk-reached k (d ∷ t) rest)) below
      (suffix-has n (d ∷ t) c rest.is.proper ∙ out) (and_parts (goes (set_of (d ∷ t)) c) (walks goes (d ∷ t)) w.going).0)

  closed-none : Closed n winner goes reached → first_by_sets n winner goes ≡ None
  closed-none k = go (first_by_sets n winner goes) refl where
    go : (first : Option (List ℕ)) → first_by_sets n winner goes ≡ first → first ≡ None
    go None e = refl
    go (Some order) e =
        let (w, long) = first-walks n winner goes order e in
        let there = k.stand (set_of order) (walk-reached k order w) in
        let (t, s) = from_standing n winner goes (set_of order) (member-from_contains (set_of order) (standing n winner goes) there) in
        let same = same-long n t order s.is.proper w.is.proper s.same in
        let short = s.short in
        absurd (omega (arith, same, long, short))

  pub closed-reached : Closed n winner goes reached → length reached ≤ budget → IsReach n winner budget goes (Ok (Ended reached))
  closed-reached k few = (
    enough n winner budget goes (le_trans (counted_stand n winner goes).0 (le_trans as-few few)) ∙ ap Ok (closed-none k),
    λ set. (k.stand set, standing-reached set),
    few,
  )
    where
      standing-reached : (set : ℕ) → Contains (standing n winner goes) set → Contains reached set
      standing-reached set m =
          let (t, s) = from_standing n winner goes set (member-from_contains set (standing n winner goes) m) in
          subst (Contains reached) s.same (walk-reached k t (record { is = s.is; going = s.going }))

      as-few : length (standing n winner goes) ≤ length reached
      as-few = distinct-le (standing n winner goes) reached
          (distinct-filter (is_standing n winner goes) (range_with_len 0 (2 ^ n)) (distinct-range 0 (2 ^ n)))
          (λ set m. member-from_contains set reached (standing-reached set (contains-from_member m)))
