-- Each step keeps the rule.
use Rattle.std.proofs.Common.{◌≡◌, ◌≢◌, ℕ, zero, suc, ◌+◌, ◌-◌, ◌≤◌, ◌<◌, ◌==◌, min, true, cond, not, nat_lt, [], ◌∷◌, ◌++◌, length, length-append, set, slice_get, Some, refl, sym, ap, ◌∙◌, subst, arith, inl, inr}
use Rattle.std.proofs.lemmas.Bool.{not-true, cond_both, ltb-true, ltb-false, cases_eq, le-ltb, eq-eqb, ne_eqb}
use Rattle.std.proofs.lemmas.List.{length_push}
use Rattle.std.proofs.lemmas.List.Elements.{All-nil, All-cons, All-set, All-push, All-weaker}
use Rattle.std.proofs.lemmas.List.Sums.{sum_by_push}
use Rattle.irv_base.specs.Candidates.{is_in}
use Rattle.shared_witness.specs.declared.view.View.{View}
use Rattle.shared_witness.specs.declared.view.Terms.{Terms}
use Rattle.shared_witness.specs.View.{new_view, spent_view, view_after_split, joined}
use Rattle.shared_witness.specs.Moment.{Moment, taken_pieces, ended_takes, times, RaceRule, opening, after_take, after_look, after_post, after_close, after_split, after_join}
use Rattle.shared_witness.specs.Words.{AreTerms}
use Rattle.shared_witness.proofs.Lists.{All-at, sum_set, times-taken, length-taken, times-append, times-push, least-set, least-at, least-first, least-push, least-lift, length_of_once, times_none, times_some, slice_get-set_other, slice_get-set_same}

abbrev pub share : View → ℕ
share v = v.ends + v.may

abbrev pub spent_if_none : View → Type 0
spent_if_none v = share v ≡ 0 → v ≡ spent_view

abbrev pub between : ℕ → View → Type 0
between bound v = (bound ≤ v.seen) × (v.seen ≤ v.posted)

abbrev pub closes_taken : View → Type 0
closes_taken v = (p : ℕ) → times v.closed p ≤ times v.taken p

-- ---- a step that changes neither what was taken nor the ends

module _ (t : Terms) (m : Moment) (k : ℕ) (v w : View) (bound : ℕ) (h : RaceRule t m) (at : slice_get m.views k ≡ Some v) where
  pub set_keeps : bound ≤ m.bound → w.posted ≤ v.posted → bound ≡ min w.posted m.bound → between bound w → w.taken ≡ v.taken → w.ends ≡ v.ends →
      w.may ≡ v.may → share v ≢ 0 → closes_taken w
      → RaceRule t record { ticket = m.ticket; bound = bound; views = set m.views k w }
  set_keeps lower posted_less is seen taken ends may share_left closed =
      let ended = sum_set (λ u. u.ends) m.views k v w at in
      let shares = sum_set share m.views k v w at in
      let lengths = sum_set (λ u. length u.taken) m.views k v w at in
      let same_length : length w.taken ≡ length v.taken = ap length taken in
      let count : length (taken_pieces (set m.views k w)) ≡ length (taken_pieces m.views) =
      omega (arith, length-taken (set m.views k w), length-taken m.views, lengths, same_length) in
      let least = least-set t.first m.views k v w at posted_less in
      record {
        bound_is_least = omega (arith, is, least, h.bound_is_least);
        seen_between = All-set (between bound) m.views k w seen
            (All-weaker (between m.bound) (between bound) (λ u b. (omega (arith, b.0), b.1)) m.views h.seen_between);
        taken_once = λ p.
            let here = sum_set (λ u. times u.taken p) m.views k v w at in
            let same : times w.taken p ≡ times v.taken p = ap (λ xs. times xs p) taken in
            let all : times (taken_pieces (set m.views k w)) p ≡ times (taken_pieces m.views) p =
            omega (arith, times-taken (set m.views k w) p, times-taken m.views p, here, same) in
            all ∙ h.taken_once p;
        closed_were_taken = All-set closes_taken m.views k w closed h.closed_were_taken;
        ticket_counts = (omega (arith, h.ticket_counts.0, count, ended, ends), λ some. count ∙ h.ticket_counts.1 (λ none. some (omega (arith, ended, ends))));
        ends_are_shared = (
          omega (arith, h.ends_are_shared.0, shares, ends, may),
          All-set spent_if_none m.views k w
              (λ none. absurd (share_left (omega (arith, ends, may)))) h.ends_are_shared.1,
        );
      }

module _ (t : Terms) (m : Moment) (k : ℕ) (v : View) (h : RaceRule t m) (at : slice_get m.views k ≡ Some v) (share_left : share v ≢ 0) where
  pub look_keeps : RaceRule t (after_look m k v)
  look_keeps =
      let low = least-at t.first m.views k v at in
      let seen = All-at (between m.bound) m.views k v at h.seen_between in
      let closed = All-at closes_taken m.views k v at h.closed_were_taken in
      set_keeps t m k v _ m.bound h at (omega arith) (omega arith) (omega (arith, low, h.bound_is_least)) (omega arith, omega (arith, seen.0, seen.1)) refl
      refl refl share_left closed

  pub post_keeps : (value : ℕ) → RaceRule t (after_post m k v value)
  post_keeps value =
      let low = least-at t.first m.views k v at in
      let closed = All-at closes_taken m.views k v at h.closed_were_taken in
      set_keeps t m k v _ (min m.bound value) h at (omega arith) (omega arith) (omega (arith, low, h.bound_is_least))
      (omega arith, omega (arith, low, h.bound_is_least)) refl refl refl share_left closed

  pub close_keeps : (piece : ℕ) → times v.closed piece < times v.taken piece → RaceRule t (after_close m k v piece)
  close_keeps piece open_piece =
      let low = least-at t.first m.views k v at in
      let seen = All-at (between m.bound) m.views k v at h.seen_between in
      let closed = All-at closes_taken m.views k v at h.closed_were_taken in
      set_keeps t m k v _ m.bound h at (omega arith) (omega arith) (omega (arith, low, h.bound_is_least)) (omega arith, omega (arith, seen.0, seen.1)) refl
      refl refl share_left
      (λ p. rw (times-push v.closed piece p) (elim (cases_eq piece p) [
        | inl here ↦ rw (eq-eqb piece p here) (let open_here : times v.closed p < times v.taken p = subst (λ q. times v.closed q < times v.taken q) here
            open_piece in omega (arith, open_here))
        | inr other ↦ rw (ne_eqb piece p other) (let before = closed p in omega (arith, before))
      ]))

-- a piece that was taken and is open was closed less often than taken
pub open_times : (v : View) (piece : ℕ) → is_in v.taken piece ≡ true → not (is_in v.closed piece) ≡ true → times v.closed piece < times v.taken piece
open_times v piece taken open_piece =
    let some = times_some v.taken piece taken in
    let none = times_none v.closed piece (not-true (is_in v.closed piece) open_piece) in
    omega (arith, some, none)

-- ---- a take

-- no take found nothing, while pieces are left
none_ended : (taken ended pieces ticket : ℕ) → ticket ≡ taken + ended → (ended ≢ 0 → taken ≡ pieces) → ticket < pieces → ended ≡ 0
none_ended taken zero pieces ticket is all left = refl
none_ended taken (suc e) pieces ticket is all left = let full : taken ≡ pieces = all (λ none. absurd (omega arith)) in absurd (omega arith)

-- all pieces are taken if the ticket is past them
all_taken : (taken ended pieces ticket : ℕ) → ticket ≡ taken + ended → (ended ≢ 0 → taken ≡ pieces) → pieces ≤ ticket → taken ≤ pieces → taken ≡ pieces
all_taken taken zero pieces ticket is all past most = omega arith
all_taken taken (suc e) pieces ticket is all past most = all (λ none. absurd (omega arith))

one_more : (n p : ℕ) → cond (nat_lt p (n + 1)) 1 0 ≡ cond (nat_lt p n) 1 0 + cond (n == p) 1 0
one_more n p = grind arith

module _ (t : Terms) (m : Moment) (k : ℕ) (v : View) (h : RaceRule t m) (at : slice_get m.views k ≡ Some v) (may : 1 ≤ v.may) where
  took : m.ticket < t.pieces → RaceRule t record { ticket = m.ticket + 1; bound = m.bound; views = set m.views k record v { taken = v.taken ++ m.ticket ∷ [] } }
  took left =
      let n = m.ticket in
      let w : View = record v { taken = v.taken ++ n ∷ [] } in
      let ended = sum_set (λ u. u.ends) m.views k v w at in
      let shares = sum_set share m.views k v w at in
      let lengths = sum_set (λ u. length u.taken) m.views k v w at in
      let longer = length_push v.taken n in
      let none = none_ended (length (taken_pieces m.views)) (ended_takes m.views) t.pieces n h.ticket_counts.0 h.ticket_counts.1 left in
      let count : length (taken_pieces (set m.views k w)) ≡ length (taken_pieces m.views) + 1 =
      omega (arith, length-taken (set m.views k w), length-taken m.views, lengths, longer) in
      let low = least-at t.first m.views k v at in
      let least = least-set t.first m.views k v w at (omega arith) in
      let seen = All-at (between m.bound) m.views k v at h.seen_between in
      let closed = All-at closes_taken m.views k v at h.closed_were_taken in
      record {
        bound_is_least = omega (arith, low, least, h.bound_is_least);
        seen_between = All-set (between m.bound) m.views k w seen h.seen_between;
        taken_once = λ p.
            let here = sum_set (λ u. times u.taken p) m.views k v w at in
            let more = times-push v.taken n p in
            let all : times (taken_pieces (set m.views k w)) p ≡ times (taken_pieces m.views) p + cond (n == p) 1 0 =
            omega (arith, times-taken (set m.views k w) p, times-taken m.views p, here, more) in
            let before : times (taken_pieces m.views) p ≡ cond (nat_lt p n) 1 0 = h.taken_once p ∙ ap (λ i. cond (nat_lt p i) 1 0) (omega arith) in
            let after : min (n + 1) t.pieces ≡ n + 1 = omega arith in
            all ∙ ap (λ i. i + cond (n == p) 1 0) before ∙ sym (one_more n p) ∙ ap (λ i. cond (nat_lt p i) 1 0) (sym after);
        closed_were_taken = All-set closes_taken m.views k w (λ p. let before = closed p in omega (arith, before, times-push v.taken n p)) h.closed_were_taken;
        ticket_counts = (omega (arith, h.ticket_counts.0, count, ended), λ some. absurd (some (omega (arith, ended, none))));
        ends_are_shared = (omega (arith, h.ends_are_shared.0, shares), All-set spent_if_none m.views k w (λ nothing. absurd (omega arith)) h.ends_are_shared.1);
      }

  found_none : t.pieces ≤ m.ticket →
      RaceRule t record { ticket = m.ticket + 1; bound = m.bound; views = set m.views k record v { ends = v.ends + 1; may = v.may - 1 } }
  found_none past =
      let n = m.ticket in
      let w : View = record v { ends = v.ends + 1; may = v.may - 1 } in
      let ended = sum_set (λ u. u.ends) m.views k v w at in
      let shares = sum_set share m.views k v w at in
      let lengths = sum_set (λ u. length u.taken) m.views k v w at in
      let count : length (taken_pieces (set m.views k w)) ≡ length (taken_pieces m.views) =
      omega (arith, length-taken (set m.views k w), length-taken m.views, lengths) in
      let all = all_taken (length (taken_pieces m.views)) (ended_takes m.views) t.pieces n h.ticket_counts.0 h.ticket_counts.1 past
      (let count_once = length_of_once (min n t.pieces) (taken_pieces m.views) h.taken_once in omega (arith, count_once)) in
      let low = least-at t.first m.views k v at in
      let least = least-set t.first m.views k v w at (omega arith) in
      let seen = All-at (between m.bound) m.views k v at h.seen_between in
      let closed = All-at closes_taken m.views k v at h.closed_were_taken in
      record {
        bound_is_least = omega (arith, low, least, h.bound_is_least);
        seen_between = All-set (between m.bound) m.views k w seen h.seen_between;
        taken_once = λ p.
            let here = sum_set (λ u. times u.taken p) m.views k v w at in
            let same : times (taken_pieces (set m.views k w)) p ≡ times (taken_pieces m.views) p =
            omega (arith, times-taken (set m.views k w) p, times-taken m.views p, here) in
            let before : min n t.pieces ≡ min (n + 1) t.pieces = omega arith in
            same ∙ h.taken_once p ∙ ap (λ i. cond (nat_lt p i) 1 0) before;
        closed_were_taken = All-set closes_taken m.views k w closed h.closed_were_taken;
        ticket_counts = (omega (arith, h.ticket_counts.0, count, ended), λ some. count ∙ all);
        ends_are_shared = (omega (arith, h.ends_are_shared.0, shares), All-set spent_if_none m.views k w (λ nothing. absurd (omega arith)) h.ends_are_shared.1);
      }

  pub take_keeps : RaceRule t (after_take t m k v)
  take_keeps =
      cond_both (nat_lt m.ticket t.pieces) _ _ (λ w. RaceRule t record { ticket = m.ticket + 1; bound = m.bound; views = set m.views k w })
      (λ left. took (ltb-true m.ticket t.pieces left)) (λ past. found_none (ltb-false m.ticket t.pieces past))

-- ---- a race that is created, and a seat that is split

module _ (t : Terms) (fits : AreTerms t) where
  pub opening_keeps : 1 ≤ t.workers → RaceRule t (opening t)
  opening_keeps some =
      let v = new_view t.workers in
      record {
        bound_is_least = omega (arith, fits.1);
        seen_between = All-cons (between t.first) v [] (omega (arith, fits.1), omega arith) (All-nil (between t.first));
        taken_once = λ p. sym (ap (λ b. cond b 1 0) (le-ltb p (min 0 t.pieces) (omega arith)));
        closed_were_taken = All-cons closes_taken v [] (λ p. omega arith) (All-nil closes_taken);
        ticket_counts = (refl, λ ended. absurd (ended refl));
        ends_are_shared = (omega arith, All-cons spent_if_none v [] (λ none. absurd (omega arith)) (All-nil spent_if_none));
      }

  module _ (m : Moment) (k : ℕ) (v : View) (h : RaceRule t m) (at : slice_get m.views k ≡ Some v) where
    pub split_keeps : 2 ≤ v.may → RaceRule t (after_split m k v)
    split_keeps two =
        let w = view_after_split v in
        let new = new_view 1 in
        let vs = set m.views k w in
        let ended = sum_set (λ u. u.ends) m.views k v w at in
        let shares = sum_set share m.views k v w at in
        let lengths = sum_set (λ u. length u.taken) m.views k v w at in
        let ended' = sum_by_push (λ (u : View). u.ends) vs new in
        let shares' = sum_by_push share vs new in
        let lengths' = sum_by_push (λ (u : View). length u.taken) vs new in
        let ends_same : ended_takes (vs ++ new ∷ []) ≡ ended_takes m.views = omega (arith, ended, ended') in
        let count : length (taken_pieces (vs ++ new ∷ [])) ≡ length (taken_pieces m.views) =
        omega (arith, length-taken (vs ++ new ∷ []), length-taken m.views, lengths, lengths') in
        let low = least-at t.first m.views k v at in
        let top = least-first t.first m.views in
        let least = least-set t.first m.views k v w at (omega arith) in
        let least' = least-push t.first vs new in
        let seen = All-at (between m.bound) m.views k v at h.seen_between in
        let closed = All-at closes_taken m.views k v at h.closed_were_taken in
        record {
          bound_is_least = omega (arith, low, least, least', top, h.bound_is_least, fits.1);
          seen_between = All-push (between m.bound) vs new (All-set (between m.bound) m.views k w seen h.seen_between)
              (omega (arith, top, h.bound_is_least, fits.1), omega arith);
          taken_once = λ p.
              let here = sum_set (λ u. times u.taken p) m.views k v w at in
              let here' = sum_by_push (λ (u : View). times u.taken p) vs new in
              let same : times (taken_pieces (vs ++ new ∷ [])) p ≡ times (taken_pieces m.views) p =
              omega (arith, times-taken (vs ++ new ∷ []) p, times-taken m.views p, here, here') in
              same ∙ h.taken_once p;
          closed_were_taken = All-push closes_taken vs new (All-set closes_taken m.views k w closed h.closed_were_taken) (λ p. omega arith);
          ticket_counts = (omega (arith, h.ticket_counts.0, count, ends_same), λ some. count ∙ h.ticket_counts.1 (λ none. some (ends_same ∙ none)));
          ends_are_shared = (
            omega (arith, h.ends_are_shared.0, shares, shares'),
            All-push spent_if_none vs new (All-set spent_if_none m.views k w (λ none. absurd (omega arith)) h.ends_are_shared.1) (λ none. absurd (omega arith)),
          );
        }

    -- ---- a seat that is joined to another

    pub join_keeps : (i : ℕ) (u : View) → slice_get m.views i ≡ Some u → i ≢ k → share v ≢ 0 → RaceRule t (after_join m k v i u)
    join_keeps i u there apart share_left =
        let both = joined v u in
        let vs = set m.views k both in
        let there' : slice_get vs i ≡ Some u = slice_get-set_other m.views k i both apart ∙ there in
        let here : slice_get (set vs i spent_view) k ≡ Some both = slice_get-set_other vs i k spent_view (λ same. apart (sym same))
        ∙ slice_get-set_same m.views k both v at in
        let ended = sum_set (λ x. x.ends) m.views k v both at in
        let shares = sum_set share m.views k v both at in
        let lengths = sum_set (λ x. length x.taken) m.views k v both at in
        let ended' = sum_set (λ x. x.ends) vs i u spent_view there' in
        let shares' = sum_set share vs i u spent_view there' in
        let lengths' = sum_set (λ x. length x.taken) vs i u spent_view there' in
        let longer = length-append v.taken u.taken in
        let ends_same : ended_takes (set vs i spent_view) ≡ ended_takes m.views = omega (arith, ended, ended') in
        let count : length (taken_pieces (set vs i spent_view)) ≡ length (taken_pieces m.views) =
        omega (arith, length-taken (set vs i spent_view), length-taken m.views, lengths, lengths', longer) in
        let low = least-at t.first m.views k v at in
        let low' = least-at t.first m.views i u there in
        let least = least-set t.first m.views k v both at (omega arith) in
        let lifted = least-lift t.first vs i u spent_view (omega (arith, fits.1)) refl there' in
        let still = least-at t.first (set vs i spent_view) k both here in
        let top = least-first t.first m.views in
        let seen = All-at (between m.bound) m.views k v at h.seen_between in
        let seen' = All-at (between m.bound) m.views i u there h.seen_between in
        let closed = All-at closes_taken m.views k v at h.closed_were_taken in
        let closed' = All-at closes_taken m.views i u there h.closed_were_taken in
        record {
          bound_is_least = omega (arith, low, low', least, lifted, still, h.bound_is_least);
          seen_between = All-set (between m.bound) vs i spent_view (omega (arith, top, h.bound_is_least, fits.1), omega arith)
              (All-set (between m.bound) m.views k both (omega (arith, seen.0, seen'.0), omega (arith, seen.1, seen'.1)) h.seen_between);
          taken_once = λ p.
              let one = sum_set (λ x. times x.taken p) m.views k v both at in
              let two = sum_set (λ x. times x.taken p) vs i u spent_view there' in
              let sum = times-append v.taken u.taken p in
              let same : times (taken_pieces (set vs i spent_view)) p ≡ times (taken_pieces m.views) p =
              omega (arith, times-taken (set vs i spent_view) p, times-taken m.views p, one, two, sum) in
              same ∙ h.taken_once p;
          closed_were_taken = All-set closes_taken vs i spent_view (λ p. omega arith)
              (All-set closes_taken m.views k both (λ p. let a = closed p in let b = closed' p in
              omega (arith, a, b, times-append v.taken u.taken p, times-append v.closed u.closed p)) h.closed_were_taken);
          ticket_counts = (omega (arith, h.ticket_counts.0, count, ends_same), λ some. count ∙ h.ticket_counts.1 (λ none. some (ends_same ∙ none)));
          ends_are_shared = (
            omega (arith, h.ends_are_shared.0, shares, shares'),
            All-set spent_if_none vs i spent_view (λ none. refl)
                (All-set spent_if_none m.views k both (λ none. absurd (share_left (omega arith))) h.ends_are_shared.1),
          );
        }
