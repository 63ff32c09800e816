-- The race law, from a fact that each event preserves: the bound is at least the smallest value, and at most the value of each
-- closed piece.
use Rattle.std.proofs.Common.{◌≡◌, ℕ, ◌<◌, ◌≤◌, min, true, false, ◌&&◌, ◌==◌, not, nat_le, nat_lt, List, [], ◌∷◌, ◌++◌, length, fold, slice_get, slice_index, get_or, All, Option, Some, None, IfSome, refl, sym, ◌∙◌, subst, arith, inl, inr}
use Rattle.std.proofs.Math.Nat.{min-le_left, le-min, le_trans, le_antisymm, zero-add}
use Rattle.std.proofs.lemmas.List.{get_or_default}
use Rattle.std.specs.List.{list_all, range_with_len}
use Rattle.std.specs.Option.{option_and_then}
use Rattle.std.proofs.lemmas.Bool.{leb-true, eqb-true, cond_both, and_parts, or_cases}
use Rattle.std.proofs.lemmas.Option.{slice_get_within, get_or_from_slice_get}
use Rattle.std.proofs.lemmas.List.Elements.{All-set, All-weaker, All-replicate, All-get_or, All-tail, All-head}
use Rattle.std.proofs.lemmas.List.Folds.{Any-from_list_any, list_any-append}
use Rattle.std.proofs.lemmas.List.Sums.{AllPass-from_list_all}
use Rattle.std.proofs.lemmas.List.FromFn.{get_or-range_with_len, length-range_with_len}
use Rattle.race_core.specs.declared.event.Event.{Event}
use Rattle.race_core.specs.declared.event.Event.TheVariants.{Take, Look, Post, Close}
use Rattle.irv_base.specs.Tabulation.{least}
use Rattle.irv_base.specs.Candidates.{is_in}
use Rattle.race_core.specs.Race.{Worker, Race, new_worker, start, take_next, look, post, close, after, run, is_closed, all_closed}
use Rattle.race_core.specs.Laws.{RaceLaw}

-- what is at most each number of a list is at most the smallest
least_from : (b x : ℕ) (xs : List ℕ) → b ≤ x → All (λ y. b ≤ y) xs → b ≤ fold min x xs
least_from b x [] h all = h
least_from b x (y ∷ ys) h all = least_from b (min x y) ys (le-min h (All-head (λ z. b ≤ z) y ys all)) (All-tail (λ z. b ≤ z) y ys all)

least_above : (b : ℕ) (xs : List ℕ) → 1 ≤ length xs → All (λ y. b ≤ y) xs → b ≤ least xs
least_above b [] some all = absurd (omega arith)
least_above b (x ∷ xs) some all = least_from b x xs (All-head (λ z. b ≤ z) x xs all) (All-tail (λ z. b ≤ z) x xs all)

-- the bound is at most the value of each piece that the worker closed
abbrev IsBelowClosed : List ℕ → ℕ → Worker → Type 0
IsBelowClosed values bound w = (p : ℕ) → is_in w.closed p ≡ true → bound ≤ slice_index values p

record IsReached (values : List ℕ) (r : Race) : Type 0 where
  same : r.values ≡ values
  above : least values ≤ r.bound
  below : All (IsBelowClosed values r.bound) r.workers

abbrev AfterIsReached : List ℕ → Option Race → Type 0
AfterIsReached values o = IfSome o (IsReached values)

-- for the worker that an event names
at_worker : (values : List ℕ) (f : Worker → Option Race) (o : Option Worker) → ((w : Worker) → o ≡ Some w → AfterIsReached values (f w)) →
    AfterIsReached values (option_and_then f o)
at_worker values f None h = tt
at_worker values f (Some w) h = h w refl

below_at : (values : List ℕ) (r : Race) (k : ℕ) (w : Worker) → IsReached values r → slice_get r.workers k ≡ Some w → IsBelowClosed values r.bound w
below_at values r k w h e =
    subst (IsBelowClosed values r.bound) (get_or_from_slice_get r.workers k w w e)
    (All-get_or (IsBelowClosed values r.bound) r.workers k w (slice_get_within r.workers k w e) h.below)

-- a worker that closed one more piece
closed_more : (values : List ℕ) (bound p : ℕ) (closed : List ℕ) → bound ≤ slice_index values p →
    ((q : ℕ) → is_in closed q ≡ true → bound ≤ slice_index values q) →
    (q : ℕ) → is_in (closed ++ p ∷ []) q ≡ true → bound ≤ slice_index values q
closed_more values bound p closed here h q found =
    elim (or_cases (is_in closed q) (is_in (p ∷ []) q) (sym (list_any-append (λ d. d == q) closed (p ∷ [])) ∙ found)) [
      | inl before ↦ h q before
      | inr now ↦ elim (or_cases (p == q) false now) [
        | inl same ↦ subst (λ x. bound ≤ slice_index values x) (eqb-true p q same) here
        | inr never ↦ cc
      ]
    ]

take_reached : (values : List ℕ) (r : Race) (k : ℕ) → IsReached values r → AfterIsReached values (after r (Take k))
take_reached values r k h =
    at_worker values (take_next r k) (slice_get r.workers k) (λ w e.
    let here = below_at values r k w h e in
    cond_both w.done None _ (AfterIsReached values) (λ done. tt) (λ more.
    cond_both (nat_lt r.next (length r.values)) _ _ (AfterIsReached values)
    (λ left. record { same = h.same; above = h.above; below = All-set (IsBelowClosed values r.bound) r.workers k _ here h.below })
    (λ none. record { same = h.same; above = h.above; below = All-set (IsBelowClosed values r.bound) r.workers k _ here h.below })))

look_reached : (values : List ℕ) (r : Race) (k : ℕ) → IsReached values r → AfterIsReached values (after r (Look k))
look_reached values r k h =
    at_worker values (look r k) (slice_get r.workers k) (λ w e.
    record { same = h.same; above = h.above; below = All-set (IsBelowClosed values r.bound) r.workers k _ (below_at values r k w h e) h.below })

post_reached : (values : List ℕ) (r : Race) (k m : ℕ) → IsReached values r → AfterIsReached values (after r (Post k m))
post_reached values r k m h =
    at_worker values (post r k m) (slice_get r.workers k) (λ w e.
    cond_both (nat_le (least r.values) m) _ None (AfterIsReached values)
    (λ true_bound. record {
      same = h.same;
      above = le-min h.above (subst (λ vs. least vs ≤ m) h.same (leb-true (least r.values) m true_bound));
      below = All-set (IsBelowClosed values (min r.bound m)) r.workers k _ (λ p c. le_trans (min-le_left r.bound m) (below_at values r k w h e p c))
          (All-weaker (IsBelowClosed values r.bound) (IsBelowClosed values (min r.bound m)) (λ w' low p c. le_trans (min-le_left r.bound m) (low p c))
          r.workers h.below);
    })
    (λ false_bound. tt))

close_reached : (values : List ℕ) (r : Race) (k p : ℕ) → IsReached values r → AfterIsReached values (after r (Close k p))
close_reached values r k p h =
    at_worker values (close r k p) (slice_get r.workers k) (λ w e.
    cond_both (is_in w.taken p && not (is_in w.closed p) && nat_le r.bound (slice_index r.values p)) _ None (AfterIsReached values)
    (λ enabled. record {
      same = h.same;
      above = h.above;
      below = All-set (IsBelowClosed values r.bound) r.workers k _
          (closed_more values r.bound p w.closed (subst (λ vs. r.bound ≤ slice_index vs p) h.same
          (leb-true r.bound (slice_index r.values p) (and_parts _ _ enabled).1)) (below_at values r k w h e)) h.below;
    })
    (λ disabled. tt))

after_reached : (values : List ℕ) (r : Race) (e : Event) → IsReached values r → AfterIsReached values (after r e)
after_reached values r (Take k) h = take_reached values r k h
after_reached values r (Look k) h = look_reached values r k h
after_reached values r (Post k m) h = post_reached values r k m h
after_reached values r (Close k p) h = close_reached values r k p h

-- what holds for a race continues to hold through a function that keeps it
onwards : (values : List ℕ) (f : Race → Option Race) (o : Option Race) → AfterIsReached values o →
    ((r : Race) → IsReached values r → AfterIsReached values (f r)) → AfterIsReached values (option_and_then f o)
onwards values f None h keeps = tt
onwards values f (Some r) h keeps = keeps r h

run_reached : (values : List ℕ) (r : Race) (es : List Event) → IsReached values r → AfterIsReached values (run r es)
run_reached values r [] h = h
run_reached values r (e ∷ es) h = onwards values (λ s. run s es) (after r e) (after_reached values r e h) (λ s t. run_reached values s es t)

start_reached : (values : List ℕ) (first workers : ℕ) → least values ≤ first → IsReached values (start values first workers)
start_reached values first workers h = record {
  same = refl;
  above = h;
  below = All-replicate (IsBelowClosed values first) workers (new_worker first) (λ p closed. cc);
}

-- if all pieces are closed, no value is below the bound
all_above : (values : List ℕ) (r : Race) → IsReached values r → all_closed r ≡ true → All (λ v. r.bound ≤ v) values
all_above values r h closed k d inside =
    let closed' = subst (λ vs. list_all (is_closed r) (range_with_len 0 (length vs)) ≡ true) h.same closed in
    let bounds : k < length (range_with_len 0 (length values)) = rw (length-range_with_len 0 (length values)) inside in
    let here = AllPass-from_list_all (is_closed r) (range_with_len 0 (length values)) closed' k 0 bounds in
    let piece : get_or (range_with_len 0 (length values)) k 0 ≡ k = get_or-range_with_len 0 (length values) k 0 inside ∙ zero-add k in
    let found = Any-from_list_any (λ w. is_in w.closed k) r.workers (rw piece at here) in
    let worker : IsBelowClosed values r.bound found.1 = rw found.3 at (h.below found.0 found.1 found.2) in
    rw (get_or_default values k d 0 inside) (worker k found.4)

pub racing : RaceLaw
racing values first workers events r some small ran closed =
    let reached : IsReached values r =
    subst (AfterIsReached values) ran (run_reached values (start values first workers) events (start_reached values first workers small)) in
    le_antisymm (least_above r.bound values some (all_above values r reached closed)) reached.above
