-- The fields of a `State` stay sound.
use Rattle.std.proofs.Common.{◌≡◌, ℕ, zero, suc, ◌+◌, ◌^◌, ◌<◌, ◌≤◌, Bool, true, false, ◌||◌, ◌==◌, cond, List, [], ◌∷◌, map, take, length, get_or, set, replicate, All, count_by, refl, sym, ap, ◌∙◌, arith, inl, inr}
use Rattle.std.proofs.lemmas.Bool.{cases_eq, eq-eqb, ne_eqb, false≢true}
use Rattle.std.proofs.lemmas.List.{length-map, length-set, length-replicate, map-set, get_or-set_same, get_or-set_other, get_or-map, take_more_set}
use Rattle.std.proofs.lemmas.List.Folds.{list_any-append, list_any_at}
use Rattle.std.proofs.lemmas.List.Sums.{sum_by-cons, sum_by-set, count_by-le-length}
use Rattle.race_core.specs.declared.state.Piece.{Piece}
use Rattle.race_core.specs.declared.state.Entry.{Entry}
use Rattle.irv_base.specs.Tabulation.{least}
use Rattle.irv_base.specs.Candidates.{is_in}
use Rattle.race_core.specs.State.{takers, is_marked, IsSound, open_piece}
use Rattle.race_core.proofs.Fields.{same_field, values_of_open}

abbrev number : Bool → ℕ
number b = cond b 1 0

abbrev mark : Piece → ℕ
mark q = number q.is_closed

module _ (ps : List Piece) (cs : List ℕ) (es : List Entry) (n closed lowest : ℕ) (h : IsSound ps cs es n closed lowest) where
  pub sound_entry : (k : ℕ) (e : Entry) → IsSound ps cs (set es k e) n closed lowest
  sound_entry k e = record {
    few = h.few;
    some = h.some;
    room = h.room;
    next_within = h.next_within;
    taken_by_some = λ p below. rw (length-set es k e) (h.taken_by_some p below);
    marked = h.marked;
    marked_taken = h.marked_taken;
    counted = h.counted;
    lowest_is = h.lowest_is;
  }

  pub sound_take : (k : ℕ) (q : Piece) → k < length es → n < length ps → q ≡ get_or ps n q
      → IsSound (set ps n record { value = q.value; taker = k; is_closed = q.is_closed }) cs es (n + 1) closed lowest
  sound_take k q inside left at =
      let q' : Piece = record { value = q.value; taker = k; is_closed = q.is_closed } in
      let ts = takers ps in
      let takers' : takers (set ps n q') ≡ set ts n k = map-set (λ (d : Piece). d.taker) ps n q' in
      let values' : map (λ (d : Piece). d.value) (set ps n q') ≡ map (λ (d : Piece). d.value) ps = map-set (λ (d : Piece). d.value) ps n q'
      ∙ same_field (λ (d : Piece). d.value) ps n q left at in
      let marks' : map (λ (d : Piece). d.is_closed) (set ps n q') ≡ map (λ (d : Piece). d.is_closed) ps = map-set (λ (d : Piece). d.is_closed) ps n q'
      ∙ same_field (λ (d : Piece). d.is_closed) ps n q left at in
      let within : n < length ts = rw (length-map ps (λ (d : Piece). d.taker)) left in
      let count = sum_by-set mark ps n q' q left in
      let same : mark (get_or ps n q) ≡ mark q = ap mark (sym at) in
      record {
        few = rw (length-set ps n q') h.few;
        some = rw (length-set ps n q') h.some;
        room = h.room ∙ sym (length-set ps n q');
        next_within = rw (length-set ps n q') (omega arith);
        taken_by_some = λ p below. rw takers' (elim (cases_eq p n) [
          | inl here ↦ rw (here, get_or-set_same ts n k 0 within) inside
          | inr other ↦ rw (get_or-set_other ts n p k 0 other) (h.taken_by_some p (omega arith))
        ]);
        marked = λ p. h.marked p ∙ ap (λ (ms : List Bool). get_or ms p false) (sym marks');
        marked_taken = λ p is. let before : is_marked ps p ≡ true = ap (λ (ms : List Bool). get_or ms p false) (sym marks') ∙ is in let low =
            h.marked_taken p before in omega arith;
        counted = omega (arith, h.counted, count, same);
        lowest_is = h.lowest_is ∙ ap least (sym values');
      }

  pub mark_at : (p : ℕ) (q : Piece) → p < n → q ≡ get_or ps p q → is_in (take closed cs) p ≡ q.is_closed
  mark_at p q taken at = let inside : p < length ps = omega (arith, h.next_within) in h.marked p ∙ get_or-map (λ (d : Piece). d.is_closed) ps p q false inside
      ∙ ap (λ (d : Piece). d.is_closed) (sym at)

  -- an open piece leaves room for its closing
  pub room_left : (p : ℕ) (q : Piece) → p < n → q ≡ get_or ps p q → q.is_closed ≡ false → closed < length cs
  room_left p q taken at open_piece =
      let q' : Piece = record { value = q.value; taker = q.taker; is_closed = true } in
      let inside : p < length ps = omega (arith, h.next_within) in
      let count = sum_by-set mark ps p q' q inside in
      let before : mark (get_or ps p q) ≡ 0 = ap mark (sym at) ∙ ap number open_piece in
      let most : count_by (λ (d : Piece). d.is_closed) (set ps p q') ≤ length ps =
      rw (length-set ps p q') at (count_by-le-length (λ (d : Piece). d.is_closed) (set ps p q')) in
      omega (arith, h.counted, h.room, count, before, most)

  pub sound_close : (p : ℕ) (q : Piece) → p < n → q ≡ get_or ps p q → q.is_closed ≡ false
      → IsSound (set ps p record { value = q.value; taker = q.taker; is_closed = true }) (set cs closed p) es n (closed + 1) lowest
  sound_close p q taken at open_piece =
      let q' : Piece = record { value = q.value; taker = q.taker; is_closed = true } in
      let inside : p < length ps = omega (arith, h.next_within) in
      let takers' : takers (set ps p q') ≡ takers ps = map-set (λ (d : Piece). d.taker) ps p q' ∙ same_field (λ (d : Piece). d.taker) ps p q inside at in
      let values' : map (λ (d : Piece). d.value) (set ps p q') ≡ map (λ (d : Piece). d.value) ps = map-set (λ (d : Piece). d.value) ps p q'
      ∙ same_field (λ (d : Piece). d.value) ps p q inside at in
      let marks = map (λ (d : Piece). d.is_closed) ps in
      let marks' : map (λ (d : Piece). d.is_closed) (set ps p q') ≡ set marks p true = map-set (λ (d : Piece). d.is_closed) ps p q' in
      let within : p < length marks = rw (length-map ps (λ (d : Piece). d.is_closed)) inside in
      let count = sum_by-set mark ps p q' q inside in
      let before : mark (get_or ps p q) ≡ 0 = ap mark (sym at) ∙ ap number open_piece in
      let closed_in = room_left p q taken at open_piece in
      record {
        few = rw (length-set ps p q') h.few;
        some = rw (length-set ps p q') h.some;
        room = length-set cs closed p ∙ h.room ∙ sym (length-set ps p q');
        next_within = rw (length-set ps p q') h.next_within;
        taken_by_some = λ i below. rw takers' (h.taken_by_some i below);
        marked = λ i.
            ap (λ (xs : List ℕ). is_in xs i) (take_more_set cs closed p closed_in) ∙ list_any-append (λ d. d == i) (take closed cs) (p ∷ [])
            ∙ ap (λ b. b || ((p == i) || false)) (h.marked i)
            ∙ elim (cases_eq i p) [
              | inl here ↦ rw (here, eq-eqb p p refl) (either_way (is_marked ps p) ∙ sym (get_or-set_same marks p true false within)
                  ∙ ap (λ (ms : List Bool). get_or ms p false) (sym marks'))
              | inr other ↦ rw (ne_eqb p i (λ same. other (sym same))) (or_nothing (is_marked ps i) ∙ sym (get_or-set_other marks p i true false other)
                  ∙ ap (λ (ms : List Bool). get_or ms i false) (sym marks'))
            ];
        marked_taken = λ i is. elim (cases_eq i p) [
          | inl here ↦ omega arith
          | inr other ↦ h.marked_taken i (sym (get_or-set_other marks p i true false other) ∙ ap (λ (ms : List Bool). get_or ms i false) (sym marks') ∙ is)
        ];
        counted = omega (arith, h.counted, count, before);
        lowest_is = h.lowest_is ∙ ap least (sym values');
      }
    where
      either_way : (b : Bool) → (b || true) ≡ true
      either_way true = refl
      either_way false = refl

      or_nothing : (b : Bool) → (b || false) ≡ b
      or_nothing true = refl
      or_nothing false = refl

  -- closed pieces are taken
  pub closed_below : All (λ p. p < n) (take closed cs)
  closed_below k d inside =
      let p = get_or (take closed cs) k d in
      let found : is_in (take closed cs) p ≡ true = list_any_at (λ q. q == p) (take closed cs) k d inside (eq-eqb p p refl) in
      h.marked_taken p (sym (h.marked p) ∙ found)

-- ---- the start

open_marks : (values : List ℕ) (p : ℕ) → is_marked (map open_piece values) p ≡ false
open_marks [] p = refl
open_marks (v ∷ vs) zero = refl
open_marks (v ∷ vs) (suc p) = open_marks vs p

open_count : (values : List ℕ) → count_by (λ (q : Piece). q.is_closed) (map open_piece values) ≡ 0
open_count [] = refl
open_count (v ∷ vs) = sum_by-cons mark (open_piece v) (map open_piece vs) ∙ ap (λ n. 0 + n) (open_count vs)

pub start_sound : (values : List ℕ) (entry : Entry) (workers : ℕ) → 1 ≤ length values → length values < 2 ^ 32
    → IsSound (map open_piece values) (replicate (length values) 0) (replicate workers entry) 0 0 (least values)
start_sound values entry workers some few = record {
  few = rw (length-map values open_piece) few;
  some = rw (length-map values open_piece) some;
  room = length-replicate (length values) 0 ∙ sym (length-map values open_piece);
  next_within = omega arith;
  taken_by_some = λ p below. absurd (omega arith);
  marked = λ p. sym (open_marks values p);
  marked_taken = λ p is. absurd (false≢true (sym (open_marks values p) ∙ is));
  counted = sym (open_count values);
  lowest_is = ap least (sym (values_of_open values));
}
