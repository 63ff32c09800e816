-- The number of closed pieces, by the marks.
use Rattle.std.proofs.Common.{◌≡◌, ℕ, suc, ◌+◌, ◌<◌, Bool, true, false, cond, List, [], ◌∷◌, map, take, length, get_or, slice_index, slice_get, All, Some, count_by, refl, sym, ap, ◌∙◌, inl, inr}
use Rattle.std.specs.List.{range_with_len, fold}
use Rattle.std.specs.Option.{option_map}
use Rattle.std.proofs.Math.Nat.{zero-add}
use Rattle.std.proofs.lemmas.Bool.{cases_Bool, and_right, and_from, eq-eqb}
use Rattle.std.proofs.lemmas.List.{length-map}
use Rattle.std.proofs.lemmas.List.Elements.{All-cons, All-nil}
use Rattle.std.proofs.lemmas.List.Folds.{list_any_at, list_any_none, fold-map}
use Rattle.std.proofs.lemmas.List.FromFn.{fill_by_all}
use Rattle.std.proofs.lemmas.Option.{get_or_from_slice_get, slice_get_within, slice_get-get_or}
use Rattle.race_core.specs.declared.state.Piece.{Piece}
use Rattle.race_core.specs.declared.state.Entry.{Entry}
use Rattle.irv_base.specs.Candidates.{is_in}
use Rattle.race_core.specs.Race.{Worker, Race, is_closed, closed_count}
use Rattle.race_core.specs.State.{takers, is_taker, is_marked, shown_worker, numbered, shown_race, IsSound}
use Rattle.race_core.proofs.Shown.{is_in-filter, slice_get-numbered}

all_numbered : (P : Worker → Type 0) (f : ℕ → Entry → Worker) → ((k : ℕ) (e : Entry) → P (f k e)) → (j : ℕ) (es : List Entry) → All P (numbered f j es)
all_numbered P f h j [] = All-nil P
all_numbered P f h j (e ∷ es) = All-cons P (f j e) (numbered f (suc j) es) (h j e) (all_numbered P f h (suc j) es)

module _ (ps : List Piece) (cs : List ℕ) (es : List Entry) (n b closed lowest : ℕ) (h : IsSound ps cs es n closed lowest) where
  abbrev shown : Race
  shown = shown_race ps (take closed cs) es n b

  marked_closed : (p : ℕ) → is_marked ps p ≡ true → is_closed shown p ≡ true
  marked_closed p mark =
      let ts = takers ps in
      let k = slice_index ts p in
      let f = shown_worker ts (take closed cs) n in
      let inside : k < length es = h.taken_by_some p (h.marked_taken p mark) in
      let entry : Entry = get_or es k record { seen = 0; posted = 0; looks = 0; done = false } in
      let at : slice_get (numbered f 0 es) k ≡ Some (f k entry) =
      slice_get-numbered f 0 es k ∙ ap (option_map (f (0 + k))) (slice_get-get_or es k record { seen = 0; posted = 0; looks = 0; done = false } inside)
      ∙ ap (λ i. Some (f i entry)) (zero-add k) in
      let closed_by : is_in (f k entry).closed p ≡ true = is_in-filter (is_taker ts k) p (take closed cs)
      ∙ and_from _ _ (eq-eqb k k refl) (h.marked p ∙ mark) in
      list_any_at (λ w. is_in w.closed p) (numbered f 0 es) k (f k entry) (slice_get_within (numbered f 0 es) k (f k entry) at)
      (ap (λ (w : Worker). is_in w.closed p) (get_or_from_slice_get (numbered f 0 es) k (f k entry) (f k entry) at) ∙ closed_by)

  not_closed : (p : ℕ) → is_marked ps p ≡ false → is_closed shown p ≡ false
  not_closed p mark =
      list_any_none (λ w. is_in w.closed p) (numbered (shown_worker (takers ps) (take closed cs) n) 0 es)
      (all_numbered (λ w. is_in w.closed p ≡ false) (shown_worker (takers ps) (take closed cs) n)
      (λ k e. is_in-filter (is_taker (takers ps) k) p (take closed cs) ∙ and_right (is_taker (takers ps) k p) _ (h.marked p ∙ mark)) 0 es)

  closed_is : (p : ℕ) → is_closed shown p ≡ is_marked ps p
  closed_is p = elim (cases_Bool (is_marked ps p)) [
    | inl mark ↦ marked_closed p mark ∙ sym mark
    | inr open_piece ↦ not_closed p open_piece ∙ sym open_piece
  ]

  pub closed_counted : closed ≡ closed_count shown
  closed_counted =
      let add : ℕ → Bool → ℕ = λ a mark. a + cond mark 1 0 in
      let marks = map (λ (q : Piece). q.is_closed) ps in
      let tests : marks ≡ map (is_closed shown) (range_with_len 0 (length ps)) =
      fill_by_all (is_closed shown) marks (length ps) false (length-map ps (λ (q : Piece). q.is_closed)) (λ k below. sym (closed_is k)) in
      h.counted ∙ sym (fold-map add (λ (q : Piece). q.is_closed) 0 ps) ∙ ap (fold add 0) tests ∙ fold-map add (is_closed shown) 0 (range_with_len 0 (length ps))
      ∙ ap (λ m. count_by (is_closed shown) (range_with_len 0 m)) (sym (length-map ps (λ (q : Piece). q.value)))
