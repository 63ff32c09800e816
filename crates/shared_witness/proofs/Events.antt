-- Each step is the event of the race with the same name.
use Rattle.std.proofs.Common.{◌≡◌, ℕ, zero, suc, ◌+◌, ◌-◌, ◌≤◌, ◌==◌, ◌&&◌, min, not, nat_lt, nat_le, true, false, List, [], ◌∷◌, ◌++◌, length, map, set, replicate, slice_get, slice_index, Option, Some, None, refl, sym, ap, ◌∙◌, arith, inl, inr}
use Rattle.std.specs.Option.{option_and_then, option_map}
use Rattle.std.proofs.lemmas.Bool.{cases_lt, lt-ltb, le-ltb, le-leb, eq-eqb, ne_eqb, and_from, cond-true, cond-false}
use Rattle.std.proofs.lemmas.List.{map-set}
use Rattle.std.proofs.lemmas.Option.{slice_get-map}
use Rattle.race_core.specs.declared.event.Event.TheVariants.{Take, Look, Post, Close}
use Rattle.irv_base.specs.Candidates.{is_in}
use Rattle.irv_base.specs.Tabulation.{least}
use Rattle.race_core.specs.Race.{Worker, Race, new_worker, start, take_next, look, post, close, after}
use Rattle.shared_witness.specs.declared.view.View.{View}
use Rattle.shared_witness.specs.declared.view.Terms.{Terms}
use Rattle.shared_witness.specs.View.{highest, new_view, view_after_take, view_after_look, view_after_post, view_after_close}
use Rattle.shared_witness.specs.Moment.{Moment, RaceRule, after_take, after_look, after_post, after_close}
use Rattle.shared_witness.specs.Words.{AreTerms}
use Rattle.shared_witness.specs.Shown.{shown_worker, shown_race}
use Rattle.shared_witness.proofs.Lists.{least-first}

map_replicate : {A B : Type 0} (f : A → B) (n : ℕ) (x : A) → map f (replicate n x) ≡ replicate n (f x)
map_replicate f zero x = refl
map_replicate f (suc n) x = λ i. f x ∷ map_replicate f n x i

pub start_is_shown : (t : Terms) (values : List ℕ) → AreTerms t →
    shown_race values t record { ticket = 0; bound = t.first; views = replicate t.workers (new_view 1) } ≡ start values t.first t.workers
start_is_shown t values fits =
    let low : min t.first highest ≡ t.first = omega (arith, fits.1) in
    let none : min 0 t.pieces ≡ 0 = omega arith in
    let worker : shown_worker t.first (new_view 1) ≡ new_worker t.first =
    λ x. record { taken = []; closed = []; seen = low x; posted = low x; looks = 0; done = false } in
    λ x. record {
      values = values;
      next = none x;
      bound = t.first;
      workers = (map_replicate (shown_worker t.first) t.workers (new_view 1)
          ∙ ap (replicate t.workers) worker) x;
    }

module _ (t : Terms) (m : Moment) (k : ℕ) (v : View) (values : List ℕ) (h : RaceRule t m) (at : slice_get m.views k ≡ Some v) where
  abbrev shown : Race
  shown = shown_race values t m

  abbrev worker : Worker
  worker = shown_worker t.first v

  pub at_worker : (act : Worker → Option Race) → option_and_then act (slice_get shown.workers k) ≡ act worker
  at_worker act = ap (option_and_then act) (slice_get-map (shown_worker t.first) m.views k ∙ ap (option_map (shown_worker t.first)) at)

  low : m.bound ≤ t.first
  low = let first = least-first t.first m.views in omega (arith, first, h.bound_is_least)

  -- the workers after a change of the view
  workers : (w : View) (u : Worker) → shown_worker t.first w ≡ u → set shown.workers k u ≡ map (shown_worker t.first) (set m.views k w)
  workers w u is = ap (set shown.workers k) (sym is) ∙ sym (map-set (shown_worker t.first) m.views k w)

  pub look_is_event : after shown (Look k) ≡ Some (shown_race values t (after_look m k v))
  look_is_event =
      let bound : min t.first m.bound ≡ m.bound = omega (arith, low) in
      let u : Worker = record worker { seen = m.bound; looks = v.looks + 1 } in
      let is : shown_worker t.first (view_after_look m.bound v) ≡ u =
      λ x. record { taken = v.taken; closed = v.closed; seen = bound x; posted = min t.first v.posted; looks = v.looks + 1; done = not (v.ends == 0) } in
      at_worker (look shown k) ∙ (λ x. Some record {
        values = values;
        next = min m.ticket t.pieces;
        bound = m.bound;
        workers = workers
            (view_after_look m.bound v) u is x;
      })

  pub post_is_event : (value : ℕ) → least values ≤ value → after shown (Post k value) ≡ Some (shown_race values t (after_post m k v value))
  post_is_event value high =
      let bound : min t.first (min m.bound value) ≡ min m.bound value = omega (arith, low) in
      let least_is : min t.first (min v.posted value) ≡ min (min t.first v.posted) value = omega arith in
      let u : Worker = record worker { seen = min m.bound value; posted = min (min t.first v.posted) value } in
      let is : shown_worker t.first (view_after_post m.bound value v) ≡ u =
      λ x. record { taken = v.taken; closed = v.closed; seen = bound x; posted = least_is x; looks = v.looks; done = not (v.ends == 0) } in
      at_worker (post shown k value) ∙ cond-true (nat_le (least values) value) _ None (le-leb (least values) value high)
      ∙ (λ x. Some record {
        values = values;
        next = min m.ticket t.pieces;
        bound = min m.bound value;
        workers = workers (view_after_post m.bound value v) u is
            x;
      })

  pub close_is_event : (piece : ℕ) → is_in v.taken piece ≡ true → not (is_in v.closed piece) ≡ true → m.bound ≤ slice_index values piece →
      after shown (Close k piece) ≡ Some (shown_race values t (after_close m k v piece))
  close_is_event piece taken open_piece high =
      let bound : min t.first m.bound ≡ m.bound = omega (arith, low) in
      let u : Worker = record worker { closed = v.closed ++ piece ∷ []; seen = m.bound; looks = v.looks + 1 } in
      let is : shown_worker t.first (view_after_close m.bound piece v) ≡ u =
      λ x. record {
        taken = v.taken;
        closed = v.closed ++ piece ∷ [];
        seen = bound x;
        posted = min t.first v.posted;
        looks = v.looks
            + 1;
        done = not (v.ends == 0);
      } in
      let enabled : (is_in v.taken piece && not (is_in v.closed piece) && nat_le m.bound (slice_index values piece)) ≡ true =
      and_from _ _ (and_from _ _ taken open_piece) (le-leb m.bound (slice_index values piece) high) in
      at_worker (close shown k piece) ∙ cond-true _ _ None enabled
      ∙ (λ x. Some record { values = values; next = min m.ticket t.pieces; bound = m.bound; workers = workers (view_after_close m.bound piece v) u is x })

  pub take_is_event : length values ≡ t.pieces → v.ends ≡ 0 → after shown (Take k) ≡ Some (shown_race values t (after_take t m k v))
  take_is_event pieces going =
      let more : not (v.ends == 0) ≡ false = ap not (eq-eqb v.ends 0 going) in
      at_worker (take_next shown k) ∙ cond-false (not (v.ends == 0)) None _ more ∙ elim (cases_lt m.ticket t.pieces) [
        | inl left ↦
            let here : min m.ticket t.pieces ≡ m.ticket = omega arith in
            let next : min m.ticket t.pieces + 1 ≡ min (m.ticket + 1) t.pieces = omega arith in
            let w = view_after_take t.pieces m.ticket v in
            let w' : View = record v { taken = v.taken ++ m.ticket ∷ [] } in
            let took : w ≡ w' = cond-true (nat_lt m.ticket t.pieces) _ _ (lt-ltb m.ticket t.pieces left) in
            let u : Worker = record worker { taken = v.taken ++ min m.ticket t.pieces ∷ [] } in
            let is : shown_worker t.first w ≡ u = ap (shown_worker t.first) took ∙ ap (λ n. record worker { taken = v.taken ++ n ∷ [] }) (sym here) in
            cond-true (nat_lt (min m.ticket t.pieces) (length values)) _ _ (lt-ltb _ _ (omega arith))
            ∙ (λ x. Some record { values = values; next = next x; bound = m.bound; workers = workers w u is x })
        | inr past ↦
            let here : min m.ticket t.pieces ≡ min (m.ticket + 1) t.pieces = omega arith in
            let w = view_after_take t.pieces m.ticket v in
            let w' : View = record v { ends = v.ends + 1; may = v.may - 1 } in
            let took : w ≡ w' = cond-false (nat_lt m.ticket t.pieces) _ _ (le-ltb m.ticket t.pieces past) in
            let done : not (v.ends + 1 == 0) ≡ true = ap not (ne_eqb (v.ends + 1) 0 (λ none. omega arith)) in
            let u : Worker = record worker { done = true } in
            let is : shown_worker t.first w ≡ u = ap (shown_worker t.first) took ∙ ap (λ d. record worker { done = d }) done in
            cond-false (nat_lt (min m.ticket t.pieces) (length values)) _ _ (le-ltb _ _ (omega arith))
            ∙ (λ x. Some record { values = values; next = here x; bound = m.bound; workers = workers w u is x })
      ]
