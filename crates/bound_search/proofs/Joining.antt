-- The ends of the workers, combined one by one.
use Rattle.std.proofs.Common.{◌≡◌, ◌⊎◌, inl, inr, ℕ, ◌+◌, ◌<◌, ◌≤◌, true, false, List, [], ◌∷◌, ◌++◌, map, sum_by, length, get_or, drop, add-one, min, All, Option, None, Some, refl, sym, ap, ap₂, subst, arith, append-nil, ◌∙◌}
use Rattle.std.specs.Option.{MatchOption, option_map_or}
use Rattle.std.proofs.Math.Seq.{drop-cons}
use Rattle.std.proofs.lemmas.List.{map_push, map-append, length_push}
use Rattle.std.proofs.lemmas.List.Elements.{All-head, All-push, All-append, All-weaker, All-same, All-nil, All-pop, All-contains}
use Rattle.std.proofs.lemmas.Grind.{flat_map-append}
use Rattle.irv_base.specs.Candidates.{is_in}
use Rattle.irv_base.proofs.Members.{contains-from_member}
use Rattle.set_tallies.specs.Bags.{Kept}
use Rattle.shared_witness.specs.declared.view.View.{View}
use Rattle.shared_witness.specs.View.{highest}
use Rattle.shared_witness.specs.Moment.{taken_pieces, least_posted}
use Rattle.shared_witness.specs.Race.{Seated, SharedRace, views_of}
use Rattle.shared_witness.proofs.Lists.{least-push, least-first}
use Rattle.suffix_tree.specs.Suffixes.{Suffix}
use Rattle.bound_search.specs.Race.{IsPaced, AreReportsOf}
use Rattle.bound_search.specs.Reached.{IsFoundIn, IsBestFound, IsEntry, IsCostly, IsDoneWith, IsWorkerEnd, left_open}
use Rattle.bound_search.specs.Team.{WorkerRan, TeamRan, IsClosedUnder, IsEntryOfOne, IsJoined, first_of}
use Rattle.bound_search.specs.declared.ends.Best.{Best}
use Rattle.bound_search.specs.declared.ends.PieceEnd.{PieceEnd}
use Rattle.bound_search.specs.declared.ends.Report.{Report}
use Rattle.bound_search.specs.declared.ends.WorkerEnd.{WorkerEnd}
use Rattle.bound_search.specs.declared.join.Joined.{Joined}
use Rattle.bound_search.specs.declared.team.Worker.{Worker}
use Rattle.bound_search.proofs.Racing.{closed_lower}
use Rattle.bound_search.proofs.Reporting.{reports-more}
use Rattle.bound_search.proofs.Sharing.{none_skipped}

-- the next element of a list that is gone through
pub drop_next : {A : Type 0} (xs : List A) (i : ℕ) (x : A) → i < length xs → x ≡ get_or xs i x → drop i xs ≡ x ∷ drop (i + 1) xs
drop_next xs i x inside is = rw add-one (drop-cons xs i x inside) ∙ ap (λ y. y ∷ drop (i + 1) xs) (sym is)

module _ (bag : Kept) (nodes : ℕ) (tails : List Suffix) (race : SharedRace) (start : Best) (w : Worker) (e : WorkerEnd) (j k : Joined) (r : Report)
    (was : IsJoined bag nodes tails race start j) (ran : WorkerRan bag nodes tails race (length j.reports.items) w)
    (end : IsWorkerEnd bag race.terms.first nodes (length j.reports.items) tails w.seat.view e)
    (seats : k.seats.items ≡ j.seats.items ++ w.seat ∷ []) (ends : k.ends.items ≡ j.ends.items ++ e.ends.items)
    (reports : k.reports.items ≡ j.reports.items ++ r ∷ [])
    (told : r.pieces ≡ length e.ends.items) (expanded : r.expanded ≡ sum_by (λ p. p.expanded) e.ends.items) (looks : r.looks ≡ e.looks)
    (margin : k.best.margin ≡ option_map_or (λ b. min b.margin j.best.margin) e.best j.best.margin) (one : (k.best ≡ j.best) ⊎ (e.best ≡ Some k.best))
    (spent : k.spent ≡ first_of j.spent e.spent.items) where
  abbrev first : ℕ
  first = race.terms.first

  views_now : views_of k.seats.items ≡ views_of j.seats.items ++ w.seat.view ∷ []
  views_now = ap views_of seats ∙ map_push (λ (s : Seated). s.view) j.seats.items w.seat

  least_now : start.margin ≤ highest → k.best.margin ≡ least_posted start.margin (views_of k.seats.items)
  least_now fits =
      margin ∙ go e.best end.best ∙ sym (ap (least_posted start.margin) views_now ∙ least-push start.margin (views_of j.seats.items) w.seat.view)
    where
      go : (best : Option Best) → IsBestFound bag tails w.seat.view.posted best → option_map_or (λ b. min b.margin j.best.margin) best j.best.margin
          ≡ min w.seat.view.posted (least_posted start.margin (views_of j.seats.items))
      go None top = let low = least-first start.margin (views_of j.seats.items) in omega (arith, top, was.least fits, low, fits)
      go (Some b) (found, same, low) = omega (arith, same, was.least fits)

  best_now : (k.best ≡ start) ⊎ IsFoundIn bag tails k.best
  best_now =
      elim one [
        | inl same ↦ elim was.best [
          | inl is ↦ inl (same ∙ is)
          | inr found ↦ inr (subst (IsFoundIn bag tails) (sym same) found)
        ]
        | inr is ↦ let found : IsBestFound bag tails w.seat.view.posted (Some k.best) = subst (IsBestFound bag tails w.seat.view.posted) is end.best in
            inr found.0
      ]

  took_now : map (λ p. p.piece) k.ends.items ≡ taken_pieces (views_of k.seats.items)
  took_now =
      ap (map (λ (p : PieceEnd). p.piece)) ends
      ∙ map-append (λ (p : PieceEnd). p.piece) j.ends.items e.ends.items
      ∙ ap (λ xs. xs ++ map (λ (p : PieceEnd). p.piece) e.ends.items) was.took
      ∙ ap (λ xs. taken_pieces (views_of j.seats.items) ++ xs) end.took
      ∙ sym (ap taken_pieces views_now ∙ flat_map-append (λ (v : View). v.taken) (views_of j.seats.items) (w.seat.view ∷ [])
      ∙ ap (λ xs. taken_pieces (views_of j.seats.items) ++ xs) (append-nil w.seat.view.taken))

  longer : length k.reports.items ≡ length j.reports.items + 1
  longer = ap length reports ∙ length_push j.reports.items r

  entries_now : All (IsEntryOfOne bag first nodes (length k.reports.items) tails) k.ends.items
  entries_now =
      subst (All (IsEntryOfOne bag first nodes (length k.reports.items) tails)) (sym ends)
      (All-append (IsEntryOfOne bag first nodes (length k.reports.items) tails) j.ends.items e.ends.items
      (All-weaker (IsEntryOfOne bag first nodes (length j.reports.items) tails) (IsEntryOfOne bag first nodes (length k.reports.items) tails)
      (λ p h. (let low = h.0 in omega (arith, longer, low), h.1)) j.ends.items was.entries)
      (All-weaker (IsEntry bag first nodes (length j.reports.items) tails) (IsEntryOfOne bag first nodes (length k.reports.items) tails)
      (λ p h. (let is = h.worker_is in omega (arith, is, longer), record { tail = h.tail; worker_is = refl; within = h.within; most = h.most })) e.ends.items
      end.entries))

  reports_now : AreReportsOf k.ends.items k.reports.items
  reports_now =
      reports-more j.ends.items e.ends.items k.ends.items j.reports.items k.reports.items r ends reports
      (λ p m. (All-contains (IsEntryOfOne bag first nodes (length j.reports.items) tails) j.ends.items p was.entries (contains-from_member m)).0)
      (λ p m. (All-contains (IsEntry bag first nodes (length j.reports.items) tails) e.ends.items p end.entries (contains-from_member m)).worker_is)
      was.reports told expanded

  -- if no seat of these saw less than the bound, neither did any of the earlier seats, nor this one
  seats_before : (bound : ℕ) → All (λ s. bound ≤ s.view.seen) k.seats.items → All (λ s. bound ≤ s.view.seen) j.seats.items × (bound ≤ w.seat.view.seen)
  seats_before bound all = All-pop (λ (s : Seated). bound ≤ s.view.seen) k.seats.items j.seats.items (Some w.seat) seats all

  still_closed : (p : PieceEnd) → IsClosedUnder bag j.seats.items p → IsClosedUnder bag k.seats.items p
  still_closed p h bound all = h bound (seats_before bound all).0

  now_closed : e.spent.items ≡ [] → (p : PieceEnd) → IsDoneWith bag w.seat.view (left_open e) p → IsClosedUnder bag k.seats.items p
  now_closed none p (inl (closed, at)) bound all = closed_lower bag w.seat.view.seen bound p.tail.list p.expanded (seats_before bound all).1 at
  now_closed none p (inr left) bound all =
      let idle = none_skipped e.ends.items e.spent.items e.skipped.items end.unclosed none in
      let no : false ≡ true = ap₂ (λ xs ys. is_in (xs ++ ys) p.piece) (sym none) (sym idle) ∙ left in cc

  spent_now : MatchOption k.spent (All (IsClosedUnder bag k.seats.items) k.ends.items) (IsCostly bag first nodes tails)
  spent_now = subst (λ o. MatchOption o closed (IsCostly bag first nodes tails)) (sym spent) (go j.spent was.spent e.spent.items refl) where
    closed : Type 0
    closed = All (IsClosedUnder bag k.seats.items) k.ends.items

    go : (o : Option ℕ) → MatchOption o (All (IsClosedUnder bag j.seats.items) j.ends.items) (IsCostly bag first nodes tails) → (xs : List ℕ) →
        e.spent.items ≡ xs → MatchOption (first_of o xs) closed (IsCostly bag first nodes tails)
    go (Some number) costly xs is = costly
    go None all (x ∷ xs) is = All-head (IsCostly bag first nodes tails) x xs (subst (All (IsCostly bag first nodes tails)) is end.costly)
    go None all [] is =
        subst (All (IsClosedUnder bag k.seats.items)) (sym ends)
        (All-append (IsClosedUnder bag k.seats.items) j.ends.items e.ends.items
        (All-weaker (IsClosedUnder bag j.seats.items) (IsClosedUnder bag k.seats.items) still_closed j.ends.items all)
        (All-weaker (IsDoneWith bag w.seat.view (left_open e)) (IsClosedUnder bag k.seats.items) (now_closed is) e.ends.items end.done_with))

  pub join_more : IsJoined bag nodes tails race start k
  join_more = record {
    of_race = All-same (λ (s : Seated). s.race ≡ race.id) k.seats.items (j.seats.items ++ w.seat ∷ []) seats
        (All-push (λ (s : Seated). s.race ≡ race.id) j.seats.items w.seat was.of_race ran.of_race);
    done = All-same (λ (s : Seated). 1 ≤ s.view.ends) k.seats.items (j.seats.items ++ w.seat ∷ []) seats
        (All-push (λ (s : Seated). 1 ≤ s.view.ends) j.seats.items w.seat was.done (let d = end.done in omega (arith, d)));
    count = ap length reports ∙ length_push j.reports.items r ∙ ap (λ n. n + 1) was.count ∙ sym (ap length seats ∙ length_push j.seats.items w.seat);
    paced = All-same IsPaced k.reports.items (j.reports.items ++ r ∷ []) reports (All-push IsPaced j.reports.items r was.paced (let le = end.paced in
        omega (arith, expanded, looks, le)));
    least = least_now;
    best = best_now;
    took = took_now;
    entries = entries_now;
    reports = reports_now;
    spent = spent_now;
  }

-- ---- the next worker of the team
middle : {X : Type 0} (before rest : List X) (x d : X) → get_or (before ++ x ∷ rest) (length before) d ≡ x
middle [] rest x d = refl
middle (y ∷ before) rest x d = middle before rest x d

inside : {X : Type 0} (before rest : List X) (x : X) → length before < length (before ++ x ∷ rest)
inside [] rest x = omega arith
inside (y ∷ before) rest x = let l = inside before rest x in omega arith

pub worker_at : (bag : Kept) (nodes : ℕ) (tails : List Suffix) (race : SharedRace) (team before rest : List Worker) (w : Worker) → team ≡ before ++ w ∷ rest →
    TeamRan bag nodes tails race team →
    WorkerRan bag nodes tails race (length before) w
worker_at bag nodes tails race team before rest w whole h =
    let all : TeamRan bag nodes tails race (before ++ w ∷ rest) = subst (TeamRan bag nodes tails race) whole h in
    subst (WorkerRan bag nodes tails race (length before)) (middle before rest w w) (all (length before) w (inside before rest w))
