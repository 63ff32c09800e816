-- Any steps of the workers' seats keep the rule, and show the race after the same events.
use Rattle.std.proofs.Common.{◌≡◌, ◌≢◌, ℕ, zero, suc, ◌+◌, ◌≤◌, ◌==◌, ◌&&◌, min, not, nat_lt, nat_le, Bool, true, cond, List, [], ◌∷◌, length, replicate, slice_get, slice_index, Option, Some, None, IfSome, refl, sym, ap, ◌∙◌, subst, arith, inl, inr}
use Rattle.std.specs.Option.{option_and_then}
use Rattle.std.proofs.lemmas.Bool.{cases_Bool, and_parts, and_right, ltb-true, eqb-true, leb-true, le-ltb, cond-true, cond-false}
use Rattle.std.proofs.lemmas.List.Elements.{All-replicate}
use Rattle.std.proofs.lemmas.List.Folds.{sum_by-replicate}
use Rattle.race_core.specs.declared.event.Event.{Event}
use Rattle.race_core.specs.declared.event.Event.TheVariants.{Take, Look, Post, Close}
use Rattle.irv_base.specs.Candidates.{is_in}
use Rattle.irv_base.specs.Tabulation.{least}
use Rattle.race_core.specs.Race.{Race, start, post, close, after, run}
use Rattle.shared_witness.specs.declared.view.View.{View}
use Rattle.shared_witness.specs.declared.view.Terms.{Terms}
use Rattle.shared_witness.specs.View.{highest, new_view}
use Rattle.shared_witness.specs.Moment.{Moment, taken_pieces, ended_takes, least_posted, times, RaceRule, after_take, after_look, after_post, after_close}
use Rattle.shared_witness.specs.Words.{AreTerms}
use Rattle.shared_witness.specs.Shown.{shown_race}
use Rattle.shared_witness.specs.History.{seated, after_event, after_events}
use Rattle.shared_witness.proofs.Lists.{times-taken, length-taken}
use Rattle.shared_witness.proofs.Keeps.{share, between, closes_taken, spent_if_none, take_keeps, look_keeps, post_keeps, close_keeps, open_times}
use Rattle.shared_witness.proofs.Events.{start_is_shown, take_is_event, look_is_event, post_is_event, close_is_event, at_worker}

-- ---- the start

least_replicate : (first n : ℕ) → first ≤ highest → least_posted first (replicate n (new_view 1)) ≡ first
least_replicate first zero low = refl
least_replicate first (suc n) low = let rest = least_replicate first n low in omega (arith, rest)

seated_holds : (t : Terms) → AreTerms t → RaceRule t (seated t)
seated_holds t fits =
    let vs = replicate t.workers (new_view 1) in
    let ended = sum_by-replicate (λ (v : View). v.ends) t.workers (new_view 1) in
    let shares = sum_by-replicate share t.workers (new_view 1) in
    let lengths = sum_by-replicate (λ (v : View). length v.taken) t.workers (new_view 1) in
    let count : length (taken_pieces vs) ≡ 0 = omega (arith, length-taken vs, lengths) in
    let none : ended_takes vs ≡ 0 = omega (arith, ended) in
    record {
      bound_is_least = sym (least_replicate t.first t.workers (omega (arith, fits.1)));
      seen_between = All-replicate (between t.first) t.workers (new_view 1) (omega (arith, fits.1), omega arith);
      taken_once = λ p.
          let zeros = sum_by-replicate (λ (v : View). times v.taken p) t.workers (new_view 1) in
          let all : times (taken_pieces vs) p ≡ 0 = omega (arith, times-taken vs p, zeros) in
          all ∙ sym (ap (λ b. cond b 1 0) (le-ltb p (min 0 t.pieces) (omega arith)));
      closed_were_taken = All-replicate closes_taken t.workers (new_view 1) (λ p. omega arith);
      ticket_counts = (omega (arith, count, none), λ some. absurd (some none));
      ends_are_shared = (omega (arith, shares), All-replicate spent_if_none t.workers (new_view 1) (λ nothing. absurd (omega arith)));
    }

-- ---- one step

-- the view from which the step was made
seat_of : (o : Option View) (test : View → Bool) (go : View → Moment) (n : Moment) → option_and_then (λ v. cond (test v) (Some (go v)) None) o ≡ Some n →
    (v : View) × (o ≡ Some v) × (test v ≡ true) × (go v ≡ n)
seat_of None test go n is = cc
seat_of (Some v) test go n is = elim (cases_Bool (test v)) [
  | inl passes ↦ let same : Some (go v) ≡ Some n = sym (cond-true (test v) (Some (go v)) None passes) ∙ is in (v, refl, passes, cc)
  | inr fails ↦ let none : None ≡ Some n = sym (cond-false (test v) (Some (go v)) None fails) ∙ is in cc
]

module _ (t : Terms) (values : List ℕ) (pieces : length values ≡ t.pieces) where
  -- the rule holds at n, and if the race has the event, n shows the race after it
  abbrev Follows : Option Race → Moment → Type 0
  Follows o n = RaceRule t n × IfSome o (λ r. r ≡ shown_race values t n)

  shows : (o : Option Race) (n : Moment) → o ≡ Some (shown_race values t n) → IfSome o (λ r. r ≡ shown_race values t n)
  shows o n is = subst (λ x. IfSome x (λ r. r ≡ shown_race values t n)) (sym is) refl

  shows_none : (o : Option Race) (n : Moment) → o ≡ None → IfSome o (λ r. r ≡ shown_race values t n)
  shows_none o n is = subst (λ x. IfSome x (λ r. r ≡ shown_race values t n)) (sym is) tt

  event_follows : (m n : Moment) (e : Event) → RaceRule t m → after_event t m e ≡ Some n → Follows (after (shown_race values t m) e) n
  event_follows m n (Take k) h is =
      let (v, at, passes, ends_in) = seat_of (slice_get m.views k) (λ v. v.ends == 0 && nat_lt 0 v.may) (after_take t m k) n is in
      let parts = and_parts (v.ends == 0) (nat_lt 0 v.may) passes in
      let may : 1 ≤ v.may = let more = ltb-true 0 v.may parts.1 in omega (arith, more) in
      let event = take_is_event t m k v values h at pieces (eqb-true v.ends 0 parts.0) in
      subst (Follows (after (shown_race values t m) (Take k))) ends_in (
        take_keeps t m k v h at may,
        shows (after (shown_race values t m) (Take k)) (after_take t m k v) event,
      )
  event_follows m n (Look k) h is =
      let (v, at, passes, ends_in) = seat_of (slice_get m.views k) (λ v. nat_lt 0 (v.ends + v.may)) (after_look m k) n is in
      let left : share v ≢ 0 = λ none. let more = ltb-true 0 (v.ends + v.may) passes in omega (arith, more, none) in
      let event = look_is_event t m k v values h at in
      subst (Follows (after (shown_race values t m) (Look k))) ends_in (
        look_keeps t m k v h at left,
        shows (after (shown_race values t m) (Look k)) (after_look m k v) event,
      )
  event_follows m n (Post k value) h is =
      let (v, at, passes, ends_in) = seat_of (slice_get m.views k) (λ v. nat_lt 0 (v.ends + v.may)) (λ v. after_post m k v value) n is in
      let left : share v ≢ 0 = λ none. let more = ltb-true 0 (v.ends + v.may) passes in omega (arith, more, none) in
      let o = after (shown_race values t m) (Post k value) in
      let shown : IfSome o (λ r. r ≡ shown_race values t (after_post m k v value)) =
      elim (cases_Bool (nat_le (least values) value)) [
        | inl high ↦ shows o (after_post m k v value) (post_is_event t m k v values h at value (leb-true (least values) value high))
        | inr low ↦ shows_none o (after_post m k v value) (at_worker t m k v values h at (post (shown_race values t m) k value)
            ∙ cond-false (nat_le (least values) value) _ None low)
      ] in
      subst (Follows o) ends_in (post_keeps t m k v h at left value, shown)
  event_follows m n (Close k piece) h is =
      let (v, at, passes, ends_in) = seat_of (slice_get m.views k) (λ v. nat_lt 0 (v.ends + v.may) && is_in v.taken piece && not (is_in v.closed piece))
      (λ v. after_close m k v piece) n is in
      let parts = and_parts (nat_lt 0 (v.ends + v.may) && is_in v.taken piece) (not (is_in v.closed piece)) passes in
      let first_parts = and_parts (nat_lt 0 (v.ends + v.may)) (is_in v.taken piece) parts.0 in
      let left : share v ≢ 0 = λ none. let more = ltb-true 0 (v.ends + v.may) first_parts.0 in omega (arith, more, none) in
      let o = after (shown_race values t m) (Close k piece) in
      let shown : IfSome o (λ r. r ≡ shown_race values t (after_close m k v piece)) =
      elim (cases_Bool (nat_le m.bound (slice_index values piece))) [
        | inl high ↦ shows o (after_close m k v piece) (close_is_event t m k v values h at piece first_parts.1 parts.1
            (leb-true m.bound (slice_index values piece) high))
        | inr low ↦ shows_none o (after_close m k v piece) (at_worker t m k v values h at (close (shown_race values t m) k piece)
            ∙ cond-false _ _ None (and_right _ _ low))
      ] in
      subst (Follows o) ends_in (close_keeps t m k v h at left piece (open_times v piece first_parts.1 parts.1), shown)

  -- ---- all steps

  events_follow : (m n : Moment) (es : List Event) → RaceRule t m → after_events t m es ≡ Some n → Follows (run (shown_race values t m) es) n
  events_follow m n [] h is = let same : m ≡ n = cc in subst (Follows (Some (shown_race values t m))) same (h, refl)
  events_follow m n (e ∷ es) h is =
      onwards (after_event t m e) (λ u comes rest. let first = event_follows m u e h comes in let others = events_follow u n es first.0 rest in
      (others.0, joined (after (shown_race values t m) e) u first.1 others.1)) is
    where
      onwards : (o : Option Moment) → ((u : Moment) → o ≡ Some u → after_events t u es ≡ Some n → Follows (run (shown_race values t m) (e ∷ es)) n) →
          option_and_then (λ u. after_events t u es) o ≡ Some n
          → Follows (run (shown_race values t m) (e ∷ es)) n
      onwards None go begun = cc
      onwards (Some u) go begun = go u refl begun

      joined : (o : Option Race) (u : Moment) → IfSome o (λ r. r ≡ shown_race values t u) →
          IfSome (run (shown_race values t u) es) (λ r. r ≡ shown_race values t n) →
          IfSome (option_and_then (λ r. run r es) o) (λ r. r ≡ shown_race values t n)
      joined None u first others = tt
      joined (Some r) u first others = subst (λ x. IfSome (run x es) (λ y. y ≡ shown_race values t n)) (sym first) others

pub history_is_shown : (t : Terms) (values : List ℕ) (events : List Event) (m : Moment) → AreTerms t → length values ≡ t.pieces →
    after_events t (seated t) events ≡ Some m
    → RaceRule t m × IfSome (run (start values t.first t.workers) events) (λ r. r ≡ shown_race values t m)
history_is_shown t values events m fits pieces is =
    let follows = events_follow t values pieces (seated t) m events (seated_holds t fits) is in
    (follows.0, subst (λ r. IfSome (run r events) (λ x. x ≡ shown_race values t m)) (start_is_shown t values fits) follows.1)
