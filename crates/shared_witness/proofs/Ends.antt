-- The end of a race: a seat with all ends has all pieces and posts; and what seats that are joined one by one have.
use Rattle.std.proofs.Common.{◌≡◌, ℕ, zero, suc, ◌+◌, ◌≤◌, min, List, [], ◌∷◌, length, get_or, slice_get, sum_by, All, Some, refl, sym, ap, ◌∙◌, subst, arith}
use mathlib.Core.Option.{some}
use lib.ListN.{get_elem?}
use Rattle.std.specs.List.{fold}
use Rattle.std.proofs.lemmas.Option.{get_or_from_slice_get}
use Rattle.atomic_table.specs.Table.{State}
use Rattle.std.proofs.lemmas.List.{append-nil, append_assoc, length-map}
use Rattle.std.proofs.lemmas.List.Elements.{All-cons, All-nil, All-head, All-tail, All-same, All-map}
use Rattle.std.proofs.lemmas.List.Sums.{sum_by-cons}
use Rattle.shared_witness.specs.declared.view.View.{View}
use Rattle.shared_witness.specs.declared.view.Terms.{Terms}
use Rattle.shared_witness.specs.View.{highest, spent_view, joined}
use Rattle.shared_witness.specs.Moment.{Moment, taken_pieces, least_posted, times, EachOnce, RaceRule}
use Rattle.shared_witness.specs.Words.{AreTerms, Holds, moment_of}
use Rattle.shared_witness.specs.Race.{Seated, views_of}
use Rattle.shared_witness.proofs.Lists.{All-at, sum_at, times-taken}
use Rattle.shared_witness.proofs.Allowed.{at_place}
use Rattle.shared_witness.proofs.Keeps.{share, spent_if_none, between}

-- ---- one seat has all ends

none_left : (f : View → ℕ) → f spent_view ≡ 0 → (vs : List View) → All spent_if_none vs → sum_by share vs ≡ 0 → sum_by f vs ≡ 0
none_left f zero_spent [] spent none = refl
none_left f zero_spent (v ∷ vs) spent none =
    let shares = sum_by-cons share v vs in
    let is : v ≡ spent_view = All-head spent_if_none v vs spent (omega (arith, shares, none)) in
    let here : f v ≡ 0 = ap f is ∙ zero_spent in
    let rest = none_left f zero_spent vs (All-tail spent_if_none v vs spent) (omega (arith, shares, none)) in
    omega (arith, sum_by-cons f v vs, here, rest)

sum_alone : (f : View → ℕ) → f spent_view ≡ 0 → (vs : List View) (k : ℕ) (v : View) → slice_get vs k ≡ Some v → All spent_if_none vs →
    sum_by share vs ≡ share v → sum_by f vs ≡ f v
sum_alone f zero_spent [] k v at spent all = cc
sum_alone f zero_spent (u ∷ us) zero v at spent all =
    let same : u ≡ v = cc in
    let shares = sum_by-cons share u us in
    let here : share u ≡ share v = ap share same in
    let rest = none_left f zero_spent us (All-tail spent_if_none u us spent) (omega (arith, shares, here, all)) in
    let equal : f u ≡ f v = ap f same in
    omega (arith, sum_by-cons f u us, rest, equal)
sum_alone f zero_spent (u ∷ us) (suc k) v at spent all =
    let shares = sum_by-cons share u us in
    let most = sum_at share us k v at in
    let is : u ≡ spent_view = All-head spent_if_none u us spent (omega (arith, shares, most, all)) in
    let here : f u ≡ 0 = ap f is ∙ zero_spent in
    let rest = sum_alone f zero_spent us k v at (All-tail spent_if_none u us spent) (omega (arith, shares, most, all)) in
    omega (arith, sum_by-cons f u us, rest, here)

least_none : (first : ℕ) (vs : List View) → first ≤ highest → All spent_if_none vs → sum_by share vs ≡ 0 → least_posted first vs ≡ first
least_none first [] low spent none = refl
least_none first (v ∷ vs) low spent none =
    let shares = sum_by-cons share v vs in
    let is : v ≡ spent_view = All-head spent_if_none v vs spent (omega (arith, shares, none)) in
    let top : v.posted ≡ highest = ap (λ (u : View). u.posted) is in
    let rest = least_none first vs low (All-tail spent_if_none v vs spent) (omega (arith, shares, none)) in
    omega (arith, top, rest)

least_alone : (first : ℕ) (vs : List View) (k : ℕ) (v : View) → first ≤ highest → slice_get vs k ≡ Some v → All spent_if_none vs → sum_by share vs ≡ share v →
    least_posted first vs ≡ min first v.posted
least_alone first [] k v low at spent all = cc
least_alone first (u ∷ us) zero v low at spent all =
    let same : u ≡ v = cc in
    let shares = sum_by-cons share u us in
    let here : share u ≡ share v = ap share same in
    let p : u.posted ≡ v.posted = ap (λ (x : View). x.posted) same in
    let rest = least_none first us low (All-tail spent_if_none u us spent) (omega (arith, shares, here, all)) in
    omega (arith, p, rest)
least_alone first (u ∷ us) (suc k) v low at spent all =
    let shares = sum_by-cons share u us in
    let most = sum_at share us k v at in
    let is : u ≡ spent_view = All-head spent_if_none u us spent (omega (arith, shares, most, all)) in
    let top : u.posted ≡ highest = ap (λ (x : View). x.posted) is in
    let rest = least_alone first us k v low at (All-tail spent_if_none u us spent) (omega (arith, shares, most, all)) in
    omega (arith, top, rest)

module _ (t : Terms) (fits : AreTerms t) (m : Moment) (k : ℕ) (v : View) (h : RaceRule t m) (at : slice_get m.views k ≡ Some v) (all : share v ≡ t.workers)
  where
    alone : sum_by share m.views ≡ share v
    alone = h.ends_are_shared.0 ∙ sym all

    pub end_bound : m.bound ≡ min t.first v.posted
    end_bound = h.bound_is_least ∙ least_alone t.first m.views k v (omega (arith, fits.1)) at h.ends_are_shared.1 alone

    pub end_seen : m.bound ≤ v.seen
    end_seen = (All-at (between m.bound) m.views k v at h.seen_between).0

    pub end_taken : EachOnce (min m.ticket t.pieces) v.taken
    end_taken p = sym (times-taken m.views p ∙ sum_alone (λ u. times u.taken p) refl m.views k v at h.ends_are_shared.1 alone) ∙ h.taken_once p

    pub end_all_taken : 1 ≤ v.ends → EachOnce t.pieces v.taken
    end_all_taken some_end =
        let ended = sum_alone (λ (u : View). u.ends) refl m.views k v at h.ends_are_shared.1 alone in
        let full = h.ticket_counts.1 (λ none. absurd (omega (arith, none, ended, some_end))) in
        let past : min m.ticket t.pieces ≡ t.pieces = omega (arith, full, h.ticket_counts.0) in
        subst (λ n. EachOnce n v.taken) past end_taken

-- ---- seats that are joined one by one

pub joined_taken : (v : View) (vs : List View) → (fold joined v vs).taken ≡ taken_pieces (v ∷ vs)
joined_taken v [] = sym (append-nil v.taken)
joined_taken v (w ∷ ws) = joined_taken (joined v w) ws ∙ append_assoc v.taken w.taken (taken_pieces ws)

pub joined_posted : (first : ℕ) (v : View) (vs : List View) → min first (fold joined v vs).posted ≡ least_posted first (v ∷ vs)
joined_posted first v [] = omega arith
joined_posted first v (w ∷ ws) = let h = joined_posted first (joined v w) ws in omega (arith, h)

pub joined_seen_first : (v : View) (vs : List View) → (fold joined v vs).seen ≤ v.seen
joined_seen_first v [] = omega arith
joined_seen_first v (w ∷ ws) = let h = joined_seen_first (joined v w) ws in omega (arith, h)

pub joined_seen : (v : View) (vs : List View) → All (λ (u : View). (fold joined v vs).seen ≤ u.seen) (v ∷ vs)
joined_seen v vs = All-cons (λ (u : View). (fold joined v vs).seen ≤ u.seen) v vs (joined_seen_first v vs) (others v vs)
  where
    others : (v : View) (vs : List View) → All (λ (u : View). (fold joined v vs).seen ≤ u.seen) vs
    others v [] = All-nil (λ (u : View). v.seen ≤ u.seen)
    others v (w ∷ ws) =
        let h = joined_seen_first (joined v w) ws in
        All-cons (λ (u : View). (fold joined (joined v w) ws).seen ≤ u.seen) w ws (omega (arith, h)) (others (joined v w) ws)

pub joined_ends : (v : View) (vs : List View) → v.ends ≤ (fold joined v vs).ends
joined_ends v [] = omega arith
joined_ends v (w ∷ ws) = let h = joined_ends (joined v w) ws in omega (arith, h)

pub joined_share : (v : View) (vs : List View) → All (λ u. share u ≡ 1) vs → share (fold joined v vs) ≡ share v + length vs
joined_share v [] ones = omega arith
joined_share v (w ∷ ws) ones =
    let one = All-head (λ u. share u ≡ 1) w ws ones in
    let h = joined_share (joined v w) ws (All-tail (λ u. share u ≡ 1) w ws ones) in
    omega (arith, h, one)

-- ---- the words at the end

module _ (t : Terms) (s : State ℕ View) (ns : List ℕ) (k : ℕ) (v : View) (n : ℕ) (h : Holds t s) (at : get_elem? s.views k ≡ some v) (words : s.words ≡ ns)
    (word : get_elem? ns 1 ≡ some n) (all : share v ≡ t.workers) where
  last_word : get_or s.words 1 0 ≡ n
  last_word = get_or_from_slice_get s.words 1 n 0 (at_place s.words 1 n (subst (λ ms. get_elem? ms 1 ≡ some n) (sym words) word))

  pub last_is : n ≡ min t.first v.posted
  last_is = sym last_word ∙ end_bound t h.1 (moment_of s) k v h.2 (at_place s.views k v at) all

  pub last_seen : n ≤ v.seen
  last_seen = let seen = end_seen t h.1 (moment_of s) k v h.2 (at_place s.views k v at) all in omega (arith, seen, last_word)

  pub last_taken : 1 ≤ v.ends → EachOnce t.pieces v.taken
  last_taken some_end = end_all_taken t h.1 (moment_of s) k v h.2 (at_place s.views k v at) all some_end

-- ---- the seats of a race, the first of which takes in the others

module _ (seats : List Seated) (s : Seated) (rest : List Seated) (v : View) (whole : seats ≡ s ∷ rest) (is : v ≡ s.view) where
  abbrev all_joined : View
  all_joined = fold joined v (views_of rest)

  views : v ∷ views_of rest ≡ views_of seats
  views = ap (λ u. u ∷ views_of rest) is ∙ ap views_of (sym whole)

  pub seats_posted : (first : ℕ) → min first all_joined.posted ≡ least_posted first (views_of seats)
  seats_posted first = joined_posted first v (views_of rest) ∙ ap (least_posted first) views

  pub seats_taken : all_joined.taken ≡ taken_pieces (views_of seats)
  seats_taken = joined_taken v (views_of rest) ∙ ap taken_pieces views

  pub seats_seen : (n : ℕ) → n ≤ all_joined.seen → All (λ (d : Seated). n ≤ d.view.seen) seats
  seats_seen n low =
      let each = joined_seen v (views_of rest) in
      let own = All-head (λ (u : View). all_joined.seen ≤ u.seen) v (views_of rest) each in
      let others = All-tail (λ (u : View). all_joined.seen ≤ u.seen) v (views_of rest) each in
      let same : v.seen ≡ s.view.seen = ap (λ (u : View). u.seen) is in
      All-same (λ (d : Seated). n ≤ d.view.seen) seats (s ∷ rest) whole
      (All-cons (λ (d : Seated). n ≤ d.view.seen) s rest (omega (arith, low, own, same))
      (λ k d inside. let here = All-view rest (λ (u : View). all_joined.seen ≤ u.seen) others k d inside in omega (arith, low, here)))
    where
      All-view : (ds : List Seated) (P : View → Type 0) → All P (views_of ds) → All (λ (d : Seated). P d.view) ds
      All-view [] P all = All-nil (λ (d : Seated). P d.view)
      All-view (d ∷ ds) P all = All-cons (λ (e : Seated). P e.view) d ds (All-head P d.view (views_of ds) all)
          (All-view ds P (All-tail P d.view (views_of ds) all))

  pub seats_ended : All (λ (d : Seated). 1 ≤ d.view.ends) seats → 1 ≤ all_joined.ends
  seats_ended each =
      let own = All-head (λ (d : Seated). 1 ≤ d.view.ends) s rest (All-same (λ (d : Seated). 1 ≤ d.view.ends) (s ∷ rest) seats (sym whole) each) in
      let more = joined_ends v (views_of rest) in
      let same : v.ends ≡ s.view.ends = ap (λ (u : View). u.ends) is in
      omega (arith, own, more, same)

  pub seats_share : share v ≡ 1 → All (λ (d : Seated). share d.view ≡ 1) rest → share all_joined ≡ length seats
  seats_share one ones =
      let all = joined_share v (views_of rest) (All-map (λ u. share u ≡ 1) (λ (d : Seated). d.view) rest ones) in
      let count : length (views_of rest) ≡ length rest = length-map rest (λ (d : Seated). d.view) in
      let more : length seats ≡ length (s ∷ rest) = ap length whole in
      omega (arith, all, one, count, more)
