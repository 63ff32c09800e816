-- How the steps of the race appear in the fields of a `State`: the race shown afterwards, and that the fields stay sound.
use Rattle.std.proofs.Common.{◌≡◌, ◌≢◌, ℕ, zero, suc, ◌+◌, ◌<◌, ◌≤◌, min, Bool, true, false, ◌&&◌, ◌==◌, not, cond, nat_lt, nat_le, List, [], ◌∷◌, ◌++◌, map, filter, length, get_or, set, replicate, slice_get, slice_index, All, Some, None, refl, sym, ap, ◌∙◌, arith}
use Rattle.std.specs.List.{range_with_len}
use Rattle.std.specs.Option.{option_and_then}
use Rattle.std.proofs.Math.Nat.{zero-add}
use Rattle.std.proofs.lemmas.List.{append-nil, length-map, map-set, set-get_or, get_or-map}
use Rattle.std.proofs.lemmas.Bool.{and_parts, and_left, and_right, eqb-true, eq-eqb, ne_eqb, lt-ltb, le-ltb, le-leb, lt-leb, cond-true, cond-false}
use Rattle.std.proofs.lemmas.Option.{get_or_from_slice_get}
use Rattle.race_core.specs.declared.event.Event.{Event}
use Rattle.race_core.specs.declared.event.Event.TheVariants.{Take, Look, Post, Close}
use Rattle.race_core.specs.declared.state.Piece.{Piece}
use Rattle.race_core.specs.declared.state.Entry.{Entry}
use Rattle.irv_base.specs.Tabulation.{least}
use Rattle.irv_base.specs.Candidates.{is_in}
use Rattle.race_core.specs.Race.{Worker, take_next, look, post, close, step, worker_of, new_worker, start}
use Rattle.race_core.specs.State.{takers, is_taker, shown_worker, numbered, shown_race, ready_entry, open_piece}
use Rattle.race_core.proofs.Shown.{numbered_set, ready_step, ready_at, closed_after_take, taken_after_take, closed_after_close, is_in-filter, in_range, past_range}

-- writing an element over itself
set_same : {A : Type 0} (xs : List A) (k : ℕ) (x : A) → slice_get xs k ≡ Some x → set xs k x ≡ xs
set_same xs k x at = rw (get_or_from_slice_get xs k x x at) at (set-get_or xs k x)

-- a piece is written, one of whose fields is unchanged
pub same_field : {A : Type 0} (f : Piece → A) (ps : List Piece) (n : ℕ) (q : Piece) → n < length ps → q ≡ get_or ps n q → set (map f ps) n (f q) ≡ map f ps
same_field f ps n q inside at =
    ap (set (map f ps) n) (ap f at ∙ sym (get_or-map f ps n q (f q) inside)) ∙ set-get_or (map f ps) n (f q)

module _ (ps : List Piece) (cs : List ℕ) (es : List Entry) (n b : ℕ) where
  -- what an event does, if its worker may step
  pub taking : (k : ℕ) → step (shown_race ps cs es n b) (Take k)
      ≡ option_and_then (λ e. take_next (shown_race ps cs es n b) k (shown_worker (takers ps) cs n k e)) (ready_entry es k)
  taking k = ready_step (shown_worker (takers ps) cs n) es k (take_next (shown_race ps cs es n b) k) (λ e. refl)

  pub looking : (k : ℕ) → step (shown_race ps cs es n b) (Look k)
      ≡ option_and_then (λ e. look (shown_race ps cs es n b) k (shown_worker (takers ps) cs n k e)) (ready_entry es k)
  looking k = ready_step (shown_worker (takers ps) cs n) es k (look (shown_race ps cs es n b) k) (λ e. refl)

  pub posting : (k m : ℕ) → step (shown_race ps cs es n b) (Post k m)
      ≡ option_and_then (λ e. post (shown_race ps cs es n b) k m (shown_worker (takers ps) cs n k e)) (ready_entry es k)
  posting k m = ready_step (shown_worker (takers ps) cs n) es k (post (shown_race ps cs es n b) k m) (λ e. refl)

  pub closing : (k p : ℕ) → step (shown_race ps cs es n b) (Close k p)
      ≡ option_and_then (λ e. close (shown_race ps cs es n b) k p (shown_worker (takers ps) cs n k e)) (ready_entry es k)
  closing k p = ready_step (shown_worker (takers ps) cs n) es k (close (shown_race ps cs es n b) k p) (λ e. refl)

  -- a worker, only whose entry changed
  pub entry_set : (k : ℕ) (e : Entry) → numbered (shown_worker (takers ps) cs n) 0 (set es k e)
      ≡ set (numbered (shown_worker (takers ps) cs n) 0 es) k (shown_worker (takers ps) cs n k e)
  entry_set k e = numbered_set (shown_worker (takers ps) cs n) (shown_worker (takers ps) cs n) 0 es k e (shown_worker (takers ps) cs n k e)
      (λ i d apart. refl) (ap (λ i. shown_worker (takers ps) cs n i e) (zero-add k))

  -- a worker that may not step, or doesn't exist
  pub not_ready : (event : Event) → None ≡ ready_entry es (worker_of event) → step (shown_race ps cs es n b) event ≡ None
  not_ready (Take k) none = taking k ∙ ap (option_and_then (λ d. take_next (shown_race ps cs es n b) k (shown_worker (takers ps) cs n k d))) (sym none)
  not_ready (Look k) none = looking k ∙ ap (option_and_then (λ d. look (shown_race ps cs es n b) k (shown_worker (takers ps) cs n k d))) (sym none)
  not_ready (Post k m) none = posting k m ∙ ap (option_and_then (λ d. post (shown_race ps cs es n b) k m (shown_worker (takers ps) cs n k d))) (sym none)
  not_ready (Close k p) none = closing k p ∙ ap (option_and_then (λ d. close (shown_race ps cs es n b) k p (shown_worker (takers ps) cs n k d))) (sym none)

  -- ---- each event that is taken, for the entry e of the worker k

  pub looked : (k : ℕ) (e : Entry) → Some e ≡ ready_entry es k
      → step (shown_race ps cs es n b) (Look k) ≡ Some (shown_race ps cs (set es k record { seen = b; posted = e.posted; looks = e.looks + 1; done = e.done })
      n b)
  looked k e ready =
      looking k ∙ ap (option_and_then (λ d. look (shown_race ps cs es n b) k (shown_worker (takers ps) cs n k d))) (sym ready)
      ∙ (λ x. Some record {
        values = map (λ q. q.value) ps;
        next = n;
        bound = b;
        workers = sym
            (entry_set k record { seen = b; posted = e.posted; looks = e.looks + 1; done = e.done }) x;
      })

  pub posted : (k m : ℕ) (e : Entry) → Some e ≡ ready_entry es k → least (map (λ q. q.value) ps) ≤ m
      → step (shown_race ps cs es n b) (Post k m)
      ≡ Some (shown_race ps cs (set es k record { seen = min b m; posted = min e.posted m; looks = e.looks; done = e.done }) n (min b m))
  posted k m e ready high =
      posting k m ∙ ap (option_and_then (λ d. post (shown_race ps cs es n b) k m (shown_worker (takers ps) cs n k d))) (sym ready)
      ∙ cond-true (nat_le (least (map (λ q. q.value) ps)) m) _ None (le-leb (least (map (λ q. q.value) ps)) m high)
      ∙ (λ x. Some record {
        values = map (λ q. q.value) ps;
        next = n;
        bound = min b m;
        workers = sym
            (entry_set k record { seen = min b m; posted = min e.posted m; looks = e.looks; done = e.done }) x;
      })

  pub too_low : (k m : ℕ) (e : Entry) → Some e ≡ ready_entry es k → m < least (map (λ q. q.value) ps) → step (shown_race ps cs es n b) (Post k m) ≡ None
  too_low k m e ready low =
      posting k m ∙ ap (option_and_then (λ d. post (shown_race ps cs es n b) k m (shown_worker (takers ps) cs n k d))) (sym ready)
      ∙ cond-false (nat_le (least (map (λ q. q.value) ps)) m) _ None (lt-leb (least (map (λ q. q.value) ps)) m low)

  pub already_done : (k : ℕ) (e : Entry) → Some e ≡ ready_entry es k → e.done ≡ true → step (shown_race ps cs es n b) (Take k) ≡ None
  already_done k e ready done =
      taking k ∙ ap (option_and_then (λ d. take_next (shown_race ps cs es n b) k (shown_worker (takers ps) cs n k d))) (sym ready)
      ∙ cond-true e.done None _ done

  pub took_none : (k : ℕ) (e : Entry) → Some e ≡ ready_entry es k → e.done ≡ false → length ps ≤ n
      → step (shown_race ps cs es n b) (Take k) ≡ Some (shown_race ps cs (set es k record { seen = e.seen; posted = e.posted; looks = e.looks; done = true })
      n b)
  took_none k e ready more none =
      taking k ∙ ap (option_and_then (λ d. take_next (shown_race ps cs es n b) k (shown_worker (takers ps) cs n k d))) (sym ready)
      ∙ cond-false e.done None _ more
      ∙ cond-false (nat_lt n (length (map (λ (q : Piece). q.value) ps))) _ _ (le-ltb n _ (rw (length-map ps (λ (q : Piece). q.value)) none))
      ∙ (λ x. Some record {
        values = map (λ q. q.value) ps;
        next = n;
        bound = b;
        workers = sym
            (entry_set k record { seen = e.seen; posted = e.posted; looks = e.looks; done = true }) x;
      })

  -- the worker gets the next piece
  pub took : (k : ℕ) (e : Entry) (q : Piece) → Some e ≡ ready_entry es k → e.done ≡ false → n < length ps → q ≡ get_or ps n q → All (λ p. p < n) cs
      → step (shown_race ps cs es n b) (Take k) ≡ Some (shown_race (set ps n record { value = q.value; taker = k; is_closed = q.is_closed }) cs es (n + 1) b)
  took k e q ready more left at low =
      let q' : Piece = record { value = q.value; taker = k; is_closed = q.is_closed } in
      let ts = takers ps in
      let inside : n < length ts = rw (length-map ps (λ (d : Piece). d.taker)) left in
      let takers' : takers (set ps n q') ≡ set ts n k = map-set (λ (d : Piece). d.taker) ps n q' in
      let values' : map (λ (d : Piece). d.value) (set ps n q') ≡ map (λ (d : Piece). d.value) ps = map-set (λ (d : Piece). d.value) ps n q'
      ∙ same_field (λ (d : Piece). d.value) ps n q left at in
      let w = shown_worker ts cs n k e in
      let others : (i : ℕ) (d : Entry) → i ≢ k → shown_worker (set ts n k) cs (n + 1) i d ≡ shown_worker ts cs n i d =
      λ i d apart x. record {
        taken = (taken_after_take ts n k i inside ∙ ap (λ t. filter (is_taker ts i) (range_with_len 0 n) ++ cond t (n ∷ []) [])
            (ne_eqb k i (λ same. apart (sym same))) ∙ append-nil _) x;
        closed = closed_after_take ts n k i cs low x;
        seen = d.seen;
        posted = d.posted;
        looks = d.looks;
        done = d.done;
      } in
      let mine : shown_worker (set ts n k) cs (n + 1) k e ≡ record w { taken = w.taken ++ n ∷ [] } =
      λ x. record {
        taken = (taken_after_take ts n k k inside ∙ ap (λ t. filter (is_taker ts k) (range_with_len 0 n) ++ cond t (n ∷ []) []) (eq-eqb k k refl)) x;
        closed = closed_after_take ts n k k cs low x;
        seen = e.seen;
        posted = e.posted;
        looks = e.looks;
        done = e.done;
      } in
      let workers : numbered (shown_worker (set ts n k) cs (n + 1)) 0 (set es k e) ≡ set (numbered (shown_worker ts cs n) 0 es) k record w
      { taken = w.taken ++ n ∷ [] } =
      numbered_set (shown_worker ts cs n) (shown_worker (set ts n k) cs (n + 1)) 0 es k e (record w { taken = w.taken ++ n ∷ [] })
      (λ i d apart. others i d (rw (zero-add k) at apart)) (ap (λ i. shown_worker (set ts n k) cs (n + 1) i e) (zero-add k) ∙ mine) in
      let workers' : set (numbered (shown_worker ts cs n) 0 es) k record w { taken = w.taken ++ n ∷ [] }
      ≡ numbered (shown_worker (takers (set ps n q')) cs (n + 1)) 0 es =
      sym workers ∙ ap (numbered (shown_worker (set ts n k) cs (n + 1)) 0) (set_same es k e (ready_at es k e ready).0)
      ∙ ap (λ us. numbered (shown_worker us cs (n + 1)) 0 es) (sym takers') in
      taking k ∙ ap (option_and_then (λ d. take_next (shown_race ps cs es n b) k (shown_worker (takers ps) cs n k d))) (sym ready)
      ∙ cond-false e.done None _ more
      ∙ cond-true (nat_lt n (length (map (λ (d : Piece). d.value) ps))) _ _ (lt-ltb n _ (rw (length-map ps (λ (d : Piece). d.value)) left))
      ∙ (λ x. Some record { values = sym values' x; next = n + 1; bound = b; workers = workers' x })

  -- ---- closing the piece p, which is taken: q is what the race keeps of it

  module _ (k p : ℕ) (e : Entry) (q : Piece) (ready : Some e ≡ ready_entry es k) (taken : p < n) (within : n ≤ length ps) (at : q ≡ get_or ps p q)
      (mark : is_in cs p ≡ q.is_closed) where
    test : (t m v : Bool) → ((t && true) && not (t && m) && v) ≡ (t && not m && v)
    test true m v = refl
    test false m v = refl

    field_at : {A : Type 0} (f : Piece → A) (d : A) → get_or (map f ps) p d ≡ f q
    field_at f d = let inside : p < length ps = omega arith in get_or-map f ps p q d inside ∙ ap f (sym at)

    may_close : (is_in (filter (is_taker (takers ps) k) (range_with_len 0 n)) p && not (is_in (filter (is_taker (takers ps) k) cs) p)
        && nat_le b (slice_index (map (λ (d : Piece). d.value) ps) p))
        ≡ ((q.taker == k) && not q.is_closed && nat_le b q.value)
    may_close =
        let ts = takers ps in
        let mine : is_taker ts k p ≡ (q.taker == k) = ap (λ t. t == k) (field_at (λ (d : Piece). d.taker) 0) in
        let took : is_in (filter (is_taker ts k) (range_with_len 0 n)) p ≡ ((q.taker == k) && true) =
        is_in-filter (is_taker ts k) p (range_with_len 0 n) ∙ ap (λ i. is_taker ts k p && i) (in_range n p taken) ∙ ap (λ t. t && true) mine in
        let closed : is_in (filter (is_taker ts k) cs) p ≡ ((q.taker == k) && q.is_closed) = is_in-filter (is_taker ts k) p cs
        ∙ ap (λ i. is_taker ts k p && i) mark ∙ ap (λ t. t && q.is_closed) mine in
        ap (λ t. t && not (is_in (filter (is_taker ts k) cs) p) && nat_le b (slice_index (map (λ (d : Piece). d.value) ps) p)) took
        ∙ ap (λ c. ((q.taker == k) && true) && not c && nat_le b (slice_index (map (λ (d : Piece). d.value) ps) p)) closed
        ∙ ap (λ v. ((q.taker == k) && true) && not ((q.taker == k) && q.is_closed) && nat_le b v) (field_at (λ (d : Piece). d.value) 0)
        ∙ test (q.taker == k) q.is_closed (nat_le b q.value)

    pub not_closed : ((q.taker == k) && not q.is_closed && nat_le b q.value) ≡ false → step (shown_race ps cs es n b) (Close k p) ≡ None
    not_closed not_enabled =
        closing k p ∙ ap (option_and_then (λ d. close (shown_race ps cs es n b) k p (shown_worker (takers ps) cs n k d))) (sym ready)
        ∙ cond-false _ _ None (may_close ∙ not_enabled)

    pub closed_piece : ((q.taker == k) && not q.is_closed && nat_le b q.value) ≡ true
        → step (shown_race ps cs es n b) (Close k p)
        ≡ Some (shown_race (set ps p record { value = q.value; taker = q.taker; is_closed = true }) (cs ++ p ∷ [])
        (set es k record { seen = b; posted = e.posted; looks = e.looks + 1; done = e.done }) n b)
    closed_piece enabled =
        let q' : Piece = record { value = q.value; taker = q.taker; is_closed = true } in
        let e' : Entry = record { seen = b; posted = e.posted; looks = e.looks + 1; done = e.done } in
        let ts = takers ps in
        let inside : p < length ps = omega arith in
        let takers' : takers (set ps p q') ≡ ts = map-set (λ (d : Piece). d.taker) ps p q' ∙ same_field (λ (d : Piece). d.taker) ps p q inside at in
        let values' : map (λ (d : Piece). d.value) (set ps p q') ≡ map (λ (d : Piece). d.value) ps = map-set (λ (d : Piece). d.value) ps p q'
        ∙ same_field (λ (d : Piece). d.value) ps p q inside at in
        let mine : is_taker ts k p ≡ true = ap (λ t. t == k) (field_at (λ (d : Piece). d.taker) 0)
        ∙ (and_parts (q.taker == k) (not q.is_closed) (and_parts _ (nat_le b q.value) enabled).0).0 in
        let w = shown_worker ts cs n k e in
        let w' : Worker = record w { closed = w.closed ++ p ∷ []; seen = b; looks = e.looks + 1 } in
        let others : (i : ℕ) (d : Entry) → i ≢ k → shown_worker ts (cs ++ p ∷ []) n i d ≡ shown_worker ts cs n i d =
        λ i d apart x. record {
          taken = filter (is_taker ts i) (range_with_len 0 n);
          closed = (closed_after_close ts cs p i ∙ ap (λ t. filter (is_taker ts i) cs ++ cond t (p ∷ []) []) (other_taker i mine apart) ∙ append-nil _) x;
          seen = d.seen;
          posted = d.posted;
          looks = d.looks;
          done = d.done;
        } in
        let own : shown_worker ts (cs ++ p ∷ []) n k e' ≡ w' =
        λ x. record {
          taken = w.taken;
          closed = (closed_after_close ts cs p k ∙ ap (λ t. filter (is_taker ts k) cs ++ cond t (p ∷ []) []) mine) x;
          seen = b;
          posted = e.posted;
          looks = e.looks + 1;
          done = e.done;
        } in
        let workers : numbered (shown_worker ts (cs ++ p ∷ []) n) 0 (set es k e') ≡ set (numbered (shown_worker ts cs n) 0 es) k w' =
        numbered_set (shown_worker ts cs n) (shown_worker ts (cs ++ p ∷ []) n) 0 es k e' w'
        (λ i d apart. others i d (rw (zero-add k) at apart)) (ap (λ i. shown_worker ts (cs ++ p ∷ []) n i e') (zero-add k) ∙ own) in
        let workers' : set (numbered (shown_worker ts cs n) 0 es) k w' ≡ numbered (shown_worker (takers (set ps p q')) (cs ++ p ∷ []) n) 0 (set es k e') =
        sym workers ∙ ap (λ us. numbered (shown_worker us (cs ++ p ∷ []) n) 0 (set es k e')) (sym takers') in
        closing k p ∙ ap (option_and_then (λ d. close (shown_race ps cs es n b) k p (shown_worker (takers ps) cs n k d))) (sym ready)
        ∙ cond-true _ _ None (may_close ∙ enabled)
        ∙ (λ x. Some record { values = sym values' x; next = n; bound = b; workers = workers' x })
      where
        other_taker : (i : ℕ) → is_taker (takers ps) k p ≡ true → i ≢ k → is_taker (takers ps) i p ≡ false
        other_taker i mine apart = ne_eqb (get_or (takers ps) p 0) i (λ same. apart (sym same ∙ eqb-true (get_or (takers ps) p 0) k mine))

  -- a piece that is not taken
  pub not_taken : (k p : ℕ) (e : Entry) → Some e ≡ ready_entry es k → n ≤ p → step (shown_race ps cs es n b) (Close k p) ≡ None
  not_taken k p e ready past =
      let ts = takers ps in
      let none : is_in (filter (is_taker ts k) (range_with_len 0 n)) p ≡ false = is_in-filter (is_taker ts k) p (range_with_len 0 n)
      ∙ and_right (is_taker ts k p) _ (past_range 0 n p (omega arith)) in
      closing k p ∙ ap (option_and_then (λ d. close (shown_race ps cs es n b) k p (shown_worker (takers ps) cs n k d))) (sym ready)
      ∙ cond-false _ _ None (and_left _ _ (and_left _ _ none))

-- ---- the start

pub values_of_open : (values : List ℕ) → map (λ (q : Piece). q.value) (map open_piece values) ≡ values
values_of_open [] = refl
values_of_open (v ∷ vs) = λ x. v ∷ values_of_open vs x

numbered_replicate : (f : ℕ → Entry → Worker) (e : Entry) (w : Worker) → ((k : ℕ) → f k e ≡ w) → (j n : ℕ) → numbered f j (replicate n e) ≡ replicate n w
numbered_replicate f e w same j zero = refl
numbered_replicate f e w same j (suc n) = λ x. same j x ∷ numbered_replicate f e w same (suc j) n x

pub start_shown : (values : List ℕ) (first workers : ℕ)
    → shown_race (map open_piece values) [] (replicate workers record { seen = first; posted = first; looks = 0; done = false }) 0 first
    ≡ start values first workers
start_shown values first workers =
    let entry : Entry = record { seen = first; posted = first; looks = 0; done = false } in
    let new = numbered_replicate (shown_worker (takers (map open_piece values)) [] 0) entry (new_worker first) (λ k. refl) 0 workers in
    λ x. record { values = values_of_open values x; next = 0; bound = first; workers = new x }
