-- What is known about all seats together: who has a piece, who has the smallest post, and what joining keeps.
use Rattle.std.proofs.Common.{◌≡◌, ◌≢◌, ◌⊎◌, ℕ, suc, ◌+◌, ◌≤◌, ◌<◌, nat_lt, cond, true, List, [], ◌∷◌, set, slice_get, sum_by, Some, inl, inr, refl, sym, ap, ◌∙◌, arith}
use Rattle.std.proofs.lemmas.Bool.{cases_Bool, cases_lt, lt-ltb}
use Rattle.std.proofs.lemmas.List.Sums.{sum_by-cons}
use Rattle.irv_base.specs.Candidates.{is_in}
use Rattle.shared_witness.specs.declared.view.View.{View}
use Rattle.shared_witness.specs.View.{spent_view, joined}
use Rattle.shared_witness.specs.Moment.{Moment, EachOnce, times, taken_pieces, closed_pieces, all_looks, least_posted, after_join}
use Rattle.shared_witness.proofs.Lists.{times-append, times_none, sum_set, slice_get-set_other}

-- if a piece was taken, some seat took it
holder : (views : List View) (p : ℕ) → 1 ≤ times (taken_pieces views) p → (k : ℕ) × (v : View) × (slice_get views k ≡ Some v) × (is_in v.taken p ≡ true)
holder [] p some = absurd (omega arith)
holder (v ∷ vs) p some =
    elim (cases_Bool (is_in v.taken p)) [
      | inl here ↦ (0, v, refl, here)
      | inr out ↦
          let none = times_none v.taken p out in
          let both = times-append v.taken (taken_pieces vs) p in
          let (k, u, at, took) = holder vs p (omega (arith, some, both, none)) in
          (suc k, u, at, took)
    ]

pub taker : (n : ℕ) (views : List View) → EachOnce n (taken_pieces views) → (p : ℕ) → p < n →
    (k : ℕ) × (v : View) × (slice_get views k ≡ Some v) × (is_in v.taken p ≡ true)
taker n views once p low =
    let one : ◌≡◌ {A = ℕ} (cond (nat_lt p n) 1 0) 1 = ap (λ b. cond b 1 0) (lt-ltb p n low) in
    holder views p (omega (arith, once p, one))

-- the smallest post is nobody's, or somebody's
pub poster : (first : ℕ) (views : List View) → (least_posted first views ≡ first) ⊎ ((k : ℕ) × (v : View) × (slice_get views k ≡ Some v) ×
    (least_posted first views ≡ v.posted))
poster first [] = inl refl
poster first (v ∷ vs) =
    elim (cases_lt v.posted (least_posted first vs)) [
      | inl low ↦ inr (0, v, refl, omega (arith, low))
      | inr past ↦ elim (poster first vs) [
        | inl none ↦ inl (omega (arith, past, none))
        | inr (k, u, at, is) ↦ inr (suc k, u, at, omega (arith, past, is))
      ]
    ]

-- ---- what joining keeps

module _ (m : Moment) (k : ℕ) (v : View) (i : ℕ) (w : View) (here : slice_get m.views k ≡ Some v) (there : slice_get m.views i ≡ Some w) (apart : i ≢ k) where
  still : slice_get (set m.views k (joined v w)) i ≡ Some w
  still = slice_get-set_other m.views k i (joined v w) apart ∙ there

  -- a sum over the seats, if the receiver gets the sum of both, and nothing is left for the other
  kept : (f : View → ℕ) → f (joined v w) ≡ f v + f w → f spent_view ≡ 0 → sum_by f (after_join m k v i w).views ≡ sum_by f m.views
  kept f both none =
      let one = sum_set f m.views k v (joined v w) here in
      let two = sum_set f (set m.views k (joined v w)) i w spent_view still in
      omega (arith, one, two, both, none)

  pub joining_keeps_looks : all_looks (after_join m k v i w).views ≡ all_looks m.views
  joining_keeps_looks = kept (λ u. u.looks) refl refl

  pub joining_keeps_closed : (p : ℕ) → times (closed_pieces (after_join m k v i w).views) p ≡ times (closed_pieces m.views) p
  joining_keeps_closed p =
      let sum = kept (λ u. times u.closed p) (times-append v.closed w.closed p) refl in
      times-closed (after_join m k v i w).views ∙ sum ∙ sym (times-closed m.views)
    where
      times-closed : (vs : List View) → times (closed_pieces vs) p ≡ sum_by (λ u. times u.closed p) vs
      times-closed [] = refl
      times-closed (u ∷ us) =
          times-append u.closed (closed_pieces us) p ∙ ap (λ n. times u.closed p + n) (times-closed us)
          ∙ sym (sum_by-cons (λ (x : View). times x.closed p) u us)
