-- Each step on the words keeps the rule, and the code learns between which moments it was.
use Rattle.std.proofs.Common.{◌≡◌, ◌≢◌, ℕ, zero, suc, ◌+◌, ◌^◌, ◌%◌, ◌≤◌, ◌<◌, min, List, [], ◌∷◌, length, get_or, set, slice_get, Some, refl, sym, ap, ◌∙◌, subst, arith, length-set}
use mathlib.Core.Option.{some, some-injective, some-ne-none}
use lib.ListN.{get_elem?}
use Rattle.std.proofs.lemmas.List.{get_or-set_same, get_or-set_other}
use Rattle.std.proofs.lemmas.List.Sums.{sum_by-le-sum_by}
use Rattle.atomic_table.specs.Table.{State, Me, keeps, Allows, Splits, Joins, opening}
use Rattle.shared_witness.specs.declared.view.View.{View}
use Rattle.shared_witness.specs.declared.view.Terms.{Terms}
use Rattle.shared_witness.specs.View.{new_view, spent_view, view_after_take, view_after_look, view_after_post, view_after_close, view_after_split, joined}
use Rattle.shared_witness.specs.Moment.{Moment, taken_pieces, times, RaceRule, after_take}
use Rattle.shared_witness.specs.Words.{moment_of, AreTerms, Holds}
use Rattle.shared_witness.specs.Steps.{Takes, Looks, Posts, Closes}
use Rattle.shared_witness.proofs.Lists.{length_of_once, slice_get-set_same, slice_get-set_other}
use Rattle.shared_witness.proofs.Keeps.{share, take_keeps, look_keeps, post_keeps, close_keeps, opening_keeps, split_keeps, join_keeps}

module _ {A : Type 0} where
  pub at_place : (xs : List A) (i : ℕ) (x : A) → get_elem? xs i ≡ some x → slice_get xs i ≡ Some x
  at_place [] i x at = absurd (some-ne-none x (sym at))
  at_place (y ∷ ys) zero x at = ap Some (some-injective y x at)
  at_place (y ∷ ys) (suc i) x at = at_place ys i x at

-- the ticket never wraps
pub ticket_most : (t : Terms) (m : Moment) → RaceRule t m → m.ticket ≤ t.pieces + t.workers
ticket_most t m h =
    let count = length_of_once (min m.ticket t.pieces) (taken_pieces m.views) h.taken_once in
    let most = sum_by-le-sum_by (λ (v : View). v.ends) share m.views (λ v. omega arith) in
    omega (arith, count, most, h.ticket_counts.0, h.ends_are_shared.0)

module _ (t : Terms) (slots id : ℕ) (me : Me ℕ View) where
  pub take_allowed : 1 ≤ me.0.may → Allows (Holds t) slots id me 0 (λ n. (n + 1) % 2 ^ 64) (λ found after. (after.1 ≡ me.1) × Takes t me.0 found after.0)
  unfolding Takes
  take_allowed may s h homes at small =
      let m = moment_of s in
      let n = get_or s.words 0 0 in
      let at' = at_place s.views id me.0 at in
      let kept = take_keeps t m id me.0 h.2 at' may in
      let most = ticket_most t m h.2 in
      let next : (n + 1) % 2 ^ 64 ≡ n + 1 = omega (arith, most, h.1.0, h.1.2) in
      let two : 0 < length s.words = omega (arith, h.0) in
      let w = view_after_take t.pieces n me.0 in
      let comes : ◌≡◌ {A = Moment} record {
        ticket = get_or (set s.words 0 ((n + 1) % 2 ^ 64)) 0 0;
        bound = get_or (set s.words 0 ((n + 1) % 2 ^ 64)) 1 0;
        views = set s.views id w;
      } (after_take t m id me.0) =
      λ x. record {
        ticket = (get_or-set_same s.words 0 ((n + 1) % 2 ^ 64) 0 two ∙ next) x;
        bound = get_or-set_other s.words 0 1 ((n + 1) % 2 ^ 64) 0 (λ same. omega arith) x;
        views = set s.views id w;
      } in (
        w,
        keeps,
        tt,
        (length-set s.words 0 ((n + 1) % 2 ^ 64) ∙ h.0, h.1, subst (RaceRule t) (sym comes) kept),
        (refl, (m, id, refl, record { held = h.2; holds = kept; had = at'; has = slice_get-set_same s.views id w me.0 at' })),
      )

  -- a step on the bound, which becomes b, with the view w
  bound_step : (s : State ℕ View) (b : ℕ) (w : View) → length s.words ≡ 2
      → ◌≡◌ {A = Moment} record { ticket = get_or (set s.words 1 b) 0 0; bound = get_or (set s.words 1 b) 1 0; views = set s.views id w }
      record { ticket = get_or s.words 0 0; bound = b; views = set s.views id w }
  bound_step s b w two =
      let inside : 1 < length s.words = omega (arith, two) in
      λ x. record {
        ticket = get_or-set_other s.words 1 0 b 0 (λ same. omega arith) x;
        bound = get_or-set_same s.words 1 b 0 inside x;
        views = set s.views id
            w;
      }

  module _ (left : share me.0 ≢ 0) where
    pub look_allowed : Allows (Holds t) slots id me 1 (λ n. n) (λ found after. (after.1 ≡ me.1) × Looks t me.0 found after.0)
    unfolding Looks
    look_allowed s h homes at small =
        let m = moment_of s in
        let n = get_or s.words 1 0 in
        let at' = at_place s.views id me.0 at in
        let kept = look_keeps t m id me.0 h.2 at' left in
        let w = view_after_look n me.0 in (
          w,
          keeps,
          tt,
          (length-set s.words 1 n ∙ h.0, h.1, subst (RaceRule t) (sym (bound_step s n w h.0)) kept),
          (refl, (m, id, refl, record { held = h.2; holds = kept; had = at'; has = slice_get-set_same s.views id w me.0 at' })),
        )

    pub post_allowed : (value : ℕ) → Allows (Holds t) slots id me 1 (λ n. min n value) (λ found after. (after.1 ≡ me.1) × Posts t me.0 found after.0 value)
    unfolding Posts
    post_allowed value s h homes at small =
        let m = moment_of s in
        let n = get_or s.words 1 0 in
        let at' = at_place s.views id me.0 at in
        let kept = post_keeps t m id me.0 h.2 at' left value in
        let w = view_after_post n value me.0 in (
          w,
          keeps,
          tt,
          (length-set s.words 1 (min n value) ∙ h.0, h.1, subst (RaceRule t) (sym (bound_step s (min n value) w h.0)) kept),
          (refl, (m, id, refl, record { held = h.2; holds = kept; had = at'; has = slice_get-set_same s.views id w me.0 at' })),
        )

    pub close_allowed : (piece : ℕ) → times me.0.closed piece < times me.0.taken piece →
        Allows (Holds t) slots id me 1 (λ n. n) (λ found after. (after.1 ≡ me.1) × Closes t me.0 found after.0 piece)
    unfolding Closes
    close_allowed piece open_piece s h homes at small =
        let m = moment_of s in
        let n = get_or s.words 1 0 in
        let at' = at_place s.views id me.0 at in
        let kept = close_keeps t m id me.0 h.2 at' left piece open_piece in
        let w = view_after_close n piece me.0 in (
          w,
          keeps,
          tt,
          (length-set s.words 1 n ∙ h.0, h.1, subst (RaceRule t) (sym (bound_step s n w h.0)) kept),
          (refl, (m, id, refl, record { held = h.2; holds = kept; had = at'; has = slice_get-set_same s.views id w me.0 at' })),
        )

pub split_allowed : (t : Terms) (id : ℕ) (v : View) → 2 ≤ v.may → Splits (Holds t) id v (view_after_split v) (new_view 1)
split_allowed t id v two s h at = (h.0, h.1, split_keeps t h.1 (moment_of s) id v h.2 (at_place s.views id v at) two)

pub join_allowed : (t : Terms) (id other : ℕ) (v w : View) → share v ≢ 0 → Joins (Holds t) id v other w (joined v w) spent_view
join_allowed t id other v w left s h at apart there =
    let here = at_place s.views id v at in
    let there' : slice_get s.views other ≡ Some w = sym (slice_get-set_other s.views id other (joined v w) apart)
    ∙ at_place (set s.views id (joined v w)) other w there in
    (h.0, h.1, join_keeps t h.1 (moment_of s) id v h.2 here other w there' apart left)
