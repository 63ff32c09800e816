-- What the step of a seat says about its view and about the word.
use Rattle.std.proofs.Common.{◌≡◌, ℕ, ◌≤◌, min, nat_lt, List, set, slice_get, Some, refl, sym, ap, ◌∙◌, arith}
use Rattle.std.proofs.lemmas.Bool.{cond_both, cond-false, le-ltb, cases_lt}
use Rattle.std.proofs.Common.{inl, inr}
use Rattle.shared_witness.specs.declared.view.View.{View}
use Rattle.shared_witness.specs.declared.view.Terms.{Terms}
use Rattle.shared_witness.specs.View.{view_after_take, view_after_look, view_after_post, view_after_close}
use Rattle.shared_witness.specs.Moment.{Moment, RaceRule}
use Rattle.shared_witness.specs.Steps.{Takes, Looks, Posts, Closes}
use Rattle.shared_witness.proofs.Lists.{All-at, slice_get-set_same, least-first}
use Rattle.shared_witness.proofs.Keeps.{between, share}

-- the view that was set is the one that the seat has
set_view : (vs : List View) (k : ℕ) (old w new : View) → slice_get vs k ≡ Some old → slice_get (set vs k w) k ≡ Some new → new ≡ w
set_view vs k old w new had has = let same : Some w ≡ Some new = sym (slice_get-set_same vs k w old had) ∙ has in cc

module _ (t : Terms) (old : View) (found : ℕ) (new : View) where
  pub took : Takes t old found new → new ≡ view_after_take t.pieces found old
  unfolding Takes
  took (m, k, is, step) = set_view m.views k old (view_after_take t.pieces m.ticket old) new step.had step.has
      ∙ ap (λ n. view_after_take t.pieces n old) (sym is)

  pub looked : Looks t old found new → new ≡ view_after_look found old
  unfolding Looks
  looked (m, k, is, step) = set_view m.views k old (view_after_look m.bound old) new step.had step.has ∙ ap (λ n. view_after_look n old) (sym is)

  pub posted : (value : ℕ) → Posts t old found new value → new ≡ view_after_post found value old
  unfolding Posts
  posted value (m, k, is, step) = set_view m.views k old (view_after_post m.bound value old) new step.had step.has
      ∙ ap (λ n. view_after_post n value old) (sym is)

  pub closed : (piece : ℕ) → Closes t old found new piece → new ≡ view_after_close found piece old
  unfolding Closes
  closed piece (m, k, is, step) = set_view m.views k old (view_after_close m.bound piece old) new step.had step.has
      ∙ ap (λ n. view_after_close n piece old) (sym is)

  -- the bound is at most the first bound, and at most what the seat had seen
  bound_low : (m : Moment) (k : ℕ) → RaceRule t m → slice_get m.views k ≡ Some old → found ≡ m.bound → (found ≤ t.first) × (found ≤ old.seen)
  bound_low m k h had is =
      let low = least-first t.first m.views in
      let seen = All-at (between m.bound) m.views k old had h.seen_between in
      (omega (arith, low, h.bound_is_least), omega (arith, seen.0))

  pub looked_low : Looks t old found new → (found ≤ t.first) × (found ≤ old.seen)
  unfolding Looks
  looked_low (m, k, is, step) = bound_low m k step.held step.had is

  pub posted_low : (value : ℕ) → Posts t old found new value → (found ≤ t.first) × (found ≤ old.seen)
  unfolding Posts
  posted_low value (m, k, is, step) = bound_low m k step.held step.had is

  pub closed_low : (piece : ℕ) → Closes t old found new piece → (found ≤ t.first) × (found ≤ old.seen)
  unfolding Closes
  closed_low piece (m, k, is, step) = bound_low m k step.held step.had is

-- a take is determined by the piece that it returns
pub take_by_piece : (pieces found : ℕ) (v : View) → view_after_take pieces (min found pieces) v ≡ view_after_take pieces found v
take_by_piece pieces found v = elim (cases_lt found pieces) [
  | inl left ↦ let same : min found pieces ≡ found = omega arith in ap (λ n. view_after_take pieces n v) same
  | inr past ↦
      let same : min found pieces ≡ pieces = omega arith in
      cond-false (nat_lt (min found pieces) pieces) _ _ (le-ltb (min found pieces) pieces (omega arith))
      ∙ sym (cond-false (nat_lt found pieces) _ _ (le-ltb found pieces past))
]

pub take_share : (pieces found : ℕ) (v : View) → 1 ≤ v.may → share (view_after_take pieces found v) ≡ share v
take_share pieces found v may = cond_both (nat_lt found pieces) _ _ (λ w. share w ≡ share v) (λ left. refl) (λ past. omega arith)

-- a post is determined by the bound that it returns
pub post_by_bound : (found value : ℕ) (v : View) → view_after_post (min found value) value v ≡ view_after_post found value v
post_by_bound found value v =
    let same : min (min found value) value ≡ min found value = omega arith in
    λ x. record { taken = v.taken; closed = v.closed; seen = same x; posted = min v.posted value; looks = v.looks; ends = v.ends; may = v.may }
