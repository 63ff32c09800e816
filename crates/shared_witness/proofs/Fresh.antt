-- What a take finds.
use Rattle.std.proofs.Common.{◌≡◌, ◌↔◌, ℕ, ◌≤◌, ◌<◌, ◌==◌, min, true, not, cond, nat_lt, [], ◌∷◌, ◌++◌, length, refl, ap, ◌∙◌, subst, arith}
use Rattle.std.proofs.lemmas.Bool.{le-ltb, lt-ltb, eq-eqb, cond-true}
use Rattle.shared_witness.specs.declared.view.Terms.{Terms}
use Rattle.shared_witness.specs.Moment.{Moment, taken_pieces, times, EachOnce, RaceRule, after_take}
use Rattle.shared_witness.specs.declared.view.View.{View}
use Rattle.shared_witness.specs.Steps.{Takes}
use Rattle.shared_witness.specs.Race.{TakesPiece}
use Rattle.irv_base.specs.Candidates.{is_in}
use Rattle.shared_witness.specs.View.{view_after_take}
use Rattle.shared_witness.proofs.Lists.{All-at, sum_at, times-taken, times-push, length-taken, length_of_once, none_in, some_in}
use Rattle.shared_witness.proofs.Keeps.{closes_taken}

pub take_is_fresh : (t : Terms) (m : Moment) → RaceRule t m →
    (m.ticket < t.pieces → times (taken_pieces m.views) m.ticket ≡ 0) × ((t.pieces ≤ m.ticket) ↔ EachOnce t.pieces (taken_pieces m.views))
take_is_fresh t m h =
    let fresh : m.ticket < t.pieces → times (taken_pieces m.views) m.ticket ≡ 0 =
    λ left. h.taken_once m.ticket ∙ ap (λ b. cond b 1 0) (le-ltb m.ticket (min m.ticket t.pieces) (omega arith)) in
    let past : t.pieces ≤ m.ticket → EachOnce t.pieces (taken_pieces m.views) =
    λ all. let here : min m.ticket t.pieces ≡ t.pieces = omega arith in subst (λ n. EachOnce n (taken_pieces m.views)) here h.taken_once in
    let back : EachOnce t.pieces (taken_pieces m.views) → t.pieces ≤ m.ticket =
    λ all. let count = length_of_once t.pieces (taken_pieces m.views) all in omega (arith, count, h.ticket_counts.0) in
    (fresh, (past, back))

pub takes_piece : (t : Terms) (old : View) (found : ℕ) (new : View) (piece : ℕ) → piece ≡ min found t.pieces → Takes t old found new →
    TakesPiece t old piece new
unfolding Takes TakesPiece
takes_piece t old found new piece answers (m, k, is, step) =
    let here : piece ≡ min m.ticket t.pieces = answers ∙ ap (λ n. min n t.pieces) is in
    let finds = take_is_fresh t m step.held in
    let fresh : piece < t.pieces → times (taken_pieces m.views) piece ≡ 0 =
    λ left. let same : m.ticket ≡ piece = omega arith in subst (λ n. times (taken_pieces m.views) n ≡ 0) same (finds.0 (omega arith)) in
    let none : piece ≡ t.pieces → EachOnce t.pieces (taken_pieces m.views) = λ last. finds.1.0 (omega arith) in
    let all : EachOnce t.pieces (taken_pieces m.views) → piece ≡ t.pieces = λ once. let past = finds.1.1 once in omega (arith, past) in
    (m, k, here, fresh, (none, all), step)

-- ---- what a take says about the view of its own seat

module _ (t : Terms) (old : View) (piece : ℕ) (new : View) where
  -- the seat did not take the piece before
  pub fresh_here : TakesPiece t old piece new → piece < t.pieces → times old.taken piece ≡ 0
  unfolding TakesPiece
  fresh_here (m, k, here, fresh, all, step) left =
      let most = sum_at (λ v. times v.taken piece) m.views k old step.had in
      omega (arith, most, times-taken m.views piece, fresh left)

  pub fresh_piece : TakesPiece t old piece new → piece < t.pieces → not (is_in old.taken piece) ≡ true
  fresh_piece takes left = none_in old.taken piece (fresh_here takes left)

  -- the piece now belongs to the seat, and is open
  pub open_piece : TakesPiece t old piece new → new ≡ view_after_take t.pieces piece old → piece < t.pieces →
      (is_in new.taken piece ≡ true) × (not (is_in new.closed piece) ≡ true)
  unfolding TakesPiece
  open_piece (m, k, here, fresh, all, step) view left =
      let none = fresh_here (m, k, here, fresh, all, step) left in
      let less = All-at closes_taken m.views k old step.had step.held.closed_were_taken piece in
      let is : new ≡ record old { taken = old.taken ++ piece ∷ [] } = view ∙ cond-true (nat_lt piece t.pieces) _ _ (lt-ltb piece t.pieces left) in
      let taken : new.taken ≡ old.taken ++ piece ∷ [] = ap (λ (v : View). v.taken) is in
      let closed : new.closed ≡ old.closed = ap (λ (v : View). v.closed) is in
      let one : ◌≡◌ {A = ℕ} (cond (piece == piece) 1 0) 1 = ap (λ b. cond b 1 0) (eq-eqb piece piece refl) in
      let some : 1 ≤ times (old.taken ++ piece ∷ []) piece = omega (arith, times-push old.taken piece piece, one) in (
        ap (λ xs. is_in xs piece) taken ∙ some_in (old.taken ++ piece ∷ []) piece some,
        ap (λ xs. not (is_in xs piece)) closed ∙ none_in old.closed piece (omega (arith, less, none)),
      )

  -- no seat takes more pieces than there are
  pub few_here : TakesPiece t old piece new → length new.taken ≤ t.pieces
  unfolding TakesPiece
  few_here (m, k, here, fresh, all, step) =
      let after = after_take t m k old in
      let most = sum_at (λ v. length v.taken) after.views k new step.has in
      let once = length_of_once (min after.ticket t.pieces) (taken_pieces after.views) step.holds.taken_once in
      omega (arith, most, length-taken after.views, once)
