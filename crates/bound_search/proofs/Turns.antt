-- The results of the steps of a turn.
use Rattle.std.proofs.Common.{◌≡◌, inl, inr, ℕ, ◌<◌, ◌≤◌, true, false, ◌==◌, List, [], ◌∷◌, ◌++◌, length, All, Contains, Option, Some, None, Result, Ok, Err, IfOk, slice_get, ◌⊎◌, refl, sym, ap, subst, arith, append-nil, append_assoc, eqb-true, ◌∙◌}
use Rattle.std.proofs.lemmas.Bool.{eqb-false, cases_lt}
use Rattle.std.proofs.lemmas.List.Elements.{All-cons, All-nil, All-weaker, All-append, All-contains}
use Rattle.assertions.specs.Hardness.{low}
use Rattle.set_tallies.specs.Bags.{Kept}
use Rattle.suffix_tree.specs.declared.scored.Scored.{Scored}
use Rattle.suffix_tree.specs.Suffixes.{Suffix}
use Rattle.suffix_tree.proofs.Tails.{suffix-short}
use Rattle.bound_search.specs.Places.{EndsInOne}
use Rattle.bound_search.specs.Fronts.{Frontier, IsOpen, IsAfter, IsFront, IsWithin, IsFirstOf, AreFirstEach, none_expanded, one_expanded, one_found, HasGrown, Grows, IsFound, IsLeft}
use Rattle.bound_search.specs.Sifted.{IsExpanded, IsTaken, IsFirst}
use Rattle.set_tallies.specs.Bags.{IsOf}
use Rattle.assertions.specs.Suffixes.{comes_before}
use Rattle.bound_search.proofs.Counting.{orders_stay_open}
use Rattle.bound_search.proofs.Endings.{ends_through, low_in, order_is_suffix}
use Rattle.bound_search.proofs.Sifting.{only_contained, all_from_contained}
use Rattle.bound_search.proofs.Keeping.{open_low, open_found, ends_in_itself, after_lower, after_taken, taken_from_open, top_open, first_is, first_contained}

pub if_ok : {X E : Type 0} (P Q : X → Type 0) (r : Result X E) → ((x : X) → P x → Q x) → IfOk r P → IfOk r Q
if_ok P Q (Ok x) more h = more x h
if_ok P Q (Err e) more h = tt

through_open : (first between now : List Scored) → All (λ o. EndsInOne first o.tail.list) between → All (λ o. EndsInOne between o.tail.list) now →
    All (λ o. EndsInOne first o.tail.list) now
through_open first between now h g =
    All-weaker (λ o. EndsInOne between o.tail.list) (λ o. EndsInOne first o.tail.list)
    (λ o e.
    let (p, inside, ends) = e in
    let (q, inside', ends') = All-contains (λ (x : Scored). EndsInOne first x.tail.list) between p h inside in
    (q, inside', ends_through o.tail.list p.tail.list q.tail.list ends ends'))
    now g

-- ---- the bound is lowered
module _ (bag : Kept) (f f' : Frontier) (bound : ℕ) (le : bound ≤ f.bound) (e : f' ≡ record f { bound = bound }) where
  lower : (done : List (List ℕ)) → IsAfter bag done f → IsAfter bag done f'
  lower done k = subst (IsAfter bag done) (sym e) (after_lower bag done f bound k le)

  pub front_lower : IsFront bag f → IsFront bag f'
  front_lower (done, k) = (done, lower done k)

  pub grows_lower : Grows bag bound f f'
  grows_lower = λ done k. record {
    more = [];
    after = subst (λ d. IsAfter bag d f') (sym (append-nil done)) (lower done k);
    were_open = All-nil (EndsInOne f.suffixes);
    below = λ records of. All-nil (λ s. low bag.n records s < bound);
    within = λ le records of. All-nil (IsWithin bag records f.piece.list);
    from_open = subst (λ (x : Frontier). All (λ o. EndsInOne f.suffixes o.tail.list) x.suffixes) (sym e)
        (all_from_contained (λ o. EndsInOne f.suffixes o.tail.list) f.suffixes (λ o h. ends_in_itself f.suffixes o h));
    best_first = subst (λ (x : Frontier). AreFirstEach f.suffixes [] x.suffixes) (sym e) none_expanded;
  }

-- ---- one more suffix is expanded

-- an order of the piece that is below the bound ends in an open suffix, and the low of the first suffix is no greater
one_within : (bag : Kept) (records : List (List ℕ)) (f : Frontier) (one : Scored) → IsOf bag records → IsFront bag f → IsOpen bag f.piece.list one →
    one.low < f.bound → IsFirstOf one f.suffixes →
    f.bound ≤ f.least → IsWithin bag records f.piece.list one.tail.list
one_within bag records f one of (done, k) open_one below first le order whole inside =
    let low_one = open_low bag f.piece.list one open_one records of in
    elim (cases_lt (low bag.n records order) f.bound) [
      | inr ge ↦ omega (arith, low_one, below, ge)
      | inl lt ↦
          let (o, here, ends) = orders_stay_open bag records f of (done, k) order whole inside lt (omega (arith, lt, le)) in
          let low_o = open_low bag f.piece.list o (All-contains (IsOpen bag f.piece.list) f.suffixes o k.each here) records of in
          let up = low_in bag.n records order o.tail.list (order_is_suffix bag.n order whole) ends in
          elim (All-contains (λ (x : Scored). (one.low < x.low) ⊎ ((one.low ≡ x.low) × (comes_before x.tail.list one.tail.list ≡ false))) f.suffixes o
          first.least here) [
            | inl lower ↦ omega (arith, low_one, low_o, up, lower)
            | inr (same, later) ↦ omega (arith, low_one, low_o, up, same)
          ]
    ]

pub front_more : (bag : Kept) (f f' : Frontier) (found : Option Scored) → IsFront bag f → IsExpanded bag f f' found → IsFront bag f'
front_more bag f f' found (done, k) e = (done ++ e.one.tail.list ∷ [], e.after done k)

pub grows_more : (bag : Kept) (bound : ℕ) (start f f' : Frontier) (found : Option Scored) → Grows bag bound start f → f.bound ≡ bound →
    IsExpanded bag f f' found → f.piece ≡ start.piece → f.least ≡ start.least → Grows bag bound start f'
grows_more bag bound start f f' found g same e piece least = λ done k.
    let now : HasGrown bag done bound start f = g done k in
    let s : List ℕ = e.one.tail.list in
    let open_one : IsOpen bag f.piece.list e.one = All-contains (IsOpen bag f.piece.list) f.suffixes e.one now.after.each e.was_open in
    record {
      more = now.more ++ s ∷ [];
      after = subst (λ d. IsAfter bag d f') (append_assoc done now.more (s ∷ [])) (e.after (done ++ now.more) now.after);
      were_open = All-append (EndsInOne start.suffixes) now.more (s ∷ []) now.were_open
          (All-cons (EndsInOne start.suffixes) s [] (All-contains (λ (o : Scored). EndsInOne start.suffixes o.tail.list) f.suffixes e.one now.from_open
          e.was_open) (All-nil (EndsInOne start.suffixes)));
      below = λ records of.
          All-append (λ s. low bag.n records s < bound) now.more (s ∷ []) (now.below records of)
          (All-cons (λ s. low bag.n records s < bound) s [] (omega (arith, e.below, same, open_low bag f.piece.list e.one open_one records of))
          (All-nil (λ s. low bag.n records s < bound)));
      within = λ le records of.
          let of_start : f.piece.list ≡ start.piece.list = ap (λ (p : Suffix). p.list) piece in
          let one = one_within bag records f e.one of (done ++ now.more, now.after) open_one e.below e.first (omega (arith, le, same, least)) in
          All-append (IsWithin bag records start.piece.list) now.more (s ∷ []) (now.within le records of)
          (All-cons (IsWithin bag records start.piece.list) s [] (subst (λ p. IsWithin bag records p s) of_start one)
          (All-nil (IsWithin bag records start.piece.list)));
      from_open = through_open start.suffixes f.suffixes f'.suffixes now.from_open e.from_open;
      best_first = one_expanded e.one now.best_first e.first e.replaced;
    }

-- a suffix that ends in an open suffix ends in one that was open at first
pub was_open : (bag : Kept) (bound : ℕ) (start f : Frontier) (s : List ℕ) → IsFront bag start → Grows bag bound start f → EndsInOne f.suffixes s →
    EndsInOne start.suffixes s
was_open bag bound start f s (done, k) g (p, inside, ends) =
    let (q, inside', ends') = All-contains (λ (x : Scored). EndsInOne start.suffixes x.tail.list) f.suffixes p (g done k).from_open inside in
    (q, inside', ends_through s p.tail.list q.tail.list ends ends')

-- ---- a whole order is taken
module _ (bag : Kept) (f f' : Frontier) (order : Scored) (look : IsFirst true f.bound (slice_get f.suffixes 0)) (t : IsTaken f f' order) where
  first_order : (order.low < f.bound) × ((length order.tail.list == order.tail.n) ≡ true)
  first_order = first_is true f.bound (slice_get f.suffixes 0) order t.first look

  order_open : (done : List (List ℕ)) → IsAfter bag done f → IsOpen bag f.piece.list order
  order_open done k = top_open bag done f order f'.suffixes k t.taken

  order_long : (done : List (List ℕ)) → IsAfter bag done f → length order.tail.list ≡ bag.n
  order_long done k = eqb-true (length order.tail.list) order.tail.n first_order.1 ∙ (order_open done k).contest

  taken_after : (done : List (List ℕ)) → IsAfter bag done f → IsAfter bag done f'
  taken_after done k = after_taken bag done f order f'.suffixes k t.taken f' (order_long done k) refl t.piece t.bound t.expanded t.least

  pub taken_whole : (length order.tail.list == order.tail.n) ≡ true
  taken_whole = first_order.1

  pub taken_open : EndsInOne f.suffixes order.tail.list
  taken_open = ends_in_itself f.suffixes order (first_contained f.suffixes order t.first)

  pub front_taken : IsFront bag f → IsFront bag f'
  front_taken (done, k) = (done, taken_after done k)

  pub grows_taken : (bound : ℕ) (start : Frontier) → Grows bag bound start f → Grows bag bound start f'
  grows_taken bound start g = λ done k.
      let now : HasGrown bag done bound start f = g done k in
      record {
        more = now.more;
        after = taken_after (done ++ now.more) now.after;
        were_open = now.were_open;
        below = now.below;
        within = now.within;
        from_open = through_open start.suffixes f.suffixes f'.suffixes now.from_open
            (taken_from_open bag (done ++ now.more) f order f'.suffixes now.after t.taken f' refl);
        best_first = one_found order now.best_first t.taken first_order.1;
      }

  pub taken_found : IsFront bag f → IsFound bag f.piece.list order.tail.list order.low × (order.low < f.bound)
  taken_found (done, k) = (open_found bag f.piece.list order (order_open done k) (order_long done k), first_order.0)

-- ---- a suffix below the bound is left
pub part_left : (bag : Kept) (f : Frontier) → IsFront bag f → 0 < length f.suffixes → IsFirst false f.bound (slice_get f.suffixes 0) → IsLeft bag f
part_left bag f (done, k) some look = go (slice_get f.suffixes 0) refl look where
  go : (o : Option Scored) → slice_get f.suffixes 0 ≡ o → IsFirst false f.bound o → IsLeft bag f
  go None e h = absurd h
  go (Some t) e h = record {
    one = t;
    still_open = first_contained f.suffixes t e;
    below = h.0;
    parts = λ o inside below.
        let x : IsOpen bag f.piece.list o = All-contains (IsOpen bag f.piece.list) f.suffixes o k.each inside in
        let le : length o.tail.list ≤ bag.n = suffix-short bag.n o.tail.list x.proper in
        elim (cases_lt (length o.tail.list) bag.n) [
          | inl l ↦ l
          | inr ge ↦
              let long : length o.tail.list ≡ bag.n = omega (arith, le, ge) in
              let same : o ≡ t = only_contained t o (subst (λ xs. Contains xs t) (k.alone o inside long) (first_contained f.suffixes t e)) in
              let whole : length t.tail.list ≡ t.tail.n = subst (λ (y : Scored). length y.tail.list ≡ y.tail.n) same (long ∙ sym x.contest) in
              absurd (eqb-false (length t.tail.list) t.tail.n h.1 whole)
        ];
  }
