-- The test of a session decides whether it keeps the invariants of a session.
use Rattle.std.proofs.Common.{◌≡◌, ◌==◌, ℕ, suc, ◌<◌, ◌≤◌, true, ◌&&◌, List, [], ◌∷◌, length, get_or, map, All, AllPairs, refl, sym, eqb-true, eq-eqb, arith}
use Rattle.std.specs.Prelude.{nat_le, nat_lt}
use Rattle.std.specs.List.{list_all}
use Rattle.std.specs.Cmp.Lexicographic.{same_text, bytes_decides}
use Rattle.std.proofs.lemmas.Bool.{and_parts, and_from, leb-true, le-leb, ltb-true, lt-ltb}
use Rattle.std.proofs.lemmas.List.{get_or-map, length-map}
use Rattle.std.proofs.lemmas.List.Elements.{All-cons, All-tail}
use Rattle.std.proofs.lemmas.List.Kept.{AllPairs-cons}
use Rattle.std.proofs.lemmas.List.Sums.{AllPass-from_list_all, list_all-from_AllPass}
use Rattle.irv_base.specs.declared.limits.TheConstants.{GREATEST_GAMMA, GREATEST_LIMIT, MOST_CARDS, MOST_DRAWS}
use Rattle.km_risk.specs.Counts.{draws_in}
use Rattle.session_state.specs.Content.{IsWithinLimits}
use Rattle.session_state.specs.Sessions.{IsRound, IsSession, Round, Session, risks_of}
use Rattle.session_file.specs.Sound.{are_margins, are_rounds, counts_all, has_counts, has_risks, is_cards, is_draws, is_gamma, is_limit, is_margin, is_round, is_session, rises_above}

-- ---- margins

pub record AreMargins (cards : ℕ) (margins : List ℕ) : Type 0 where
  pub some : 1 ≤ length margins
  pub each : All (λ margin. (1 ≤ margin) × (margin ≤ cards)) margins

pub margins-are : (cards : ℕ) (margins : List ℕ) → are_margins cards margins ≡ true → AreMargins cards margins
margins-are cards margins h =
    let (some, each) = and_parts (nat_le 1 (length margins)) (list_all (is_margin cards) margins) h in
    record {
      some = leb-true 1 (length margins) some;
      each = λ k d within.
          let m = get_or margins k d in
          let (least, most) = and_parts (nat_le 1 m) (nat_le m cards) (AllPass-from_list_all (is_margin cards) margins each k d within) in
          (leb-true 1 m least, leb-true m cards most);
    }

margins-from : (cards : ℕ) (margins : List ℕ) → AreMargins cards margins → are_margins cards margins ≡ true
margins-from cards margins h =
    and_from (nat_le 1 (length margins)) (list_all (is_margin cards) margins) (le-leb 1 (length margins) h.some)
    (list_all-from_AllPass (is_margin cards) margins (λ k d within.
    let m = get_or margins k d in
    let (least, most) = h.each k d within in and_from (nat_le 1 m) (nat_le m cards) (le-leb 1 m least) (le-leb m cards most)))

-- ---- draws that increase

rises-all : (before : ℕ) (ns : List ℕ) → rises_above before ns ≡ true → All (λ n. before < n) ns
rises-all before [] h = λ k d within. absurd (omega arith)
rises-all before (n ∷ ns) h =
    let (here, later) = and_parts (nat_lt before n) (rises_above n ns) h in
    let above : before < n = ltb-true before n here in
    All-cons (λ m. before < m) n ns above (λ k d within. omega (arith, rises-all n ns later k d within))

rises-pairs : (before : ℕ) (ns : List ℕ) → rises_above before ns ≡ true → AllPairs ◌<◌ ns
rises-pairs before [] h = λ i j d below within. absurd (omega arith)
rises-pairs before (n ∷ ns) h =
    let (here, later) = and_parts (nat_lt before n) (rises_above n ns) h in
    AllPairs-cons ◌<◌ n ns (rises-all n ns later) (rises-pairs n ns later)

rises-from : (before : ℕ) (ns : List ℕ) → All (λ n. before < n) ns → AllPairs ◌<◌ ns → rises_above before ns ≡ true
rises-from before [] above pairs = refl
rises-from before (n ∷ ns) above pairs =
    and_from (nat_lt before n) (rises_above n ns) (lt-ltb before n (above 0 n (omega arith)))
    (rises-from n ns (λ k d within. pairs 0 (suc k) d (omega arith) (omega arith)) (λ i j d below within. pairs (suc i) (suc j) d (omega arith) (omega arith)))

module _ {X : Type 0} (f : X → ℕ) (xs : List X) where
  pairs-unmapped : AllPairs ◌<◌ (map f xs) → AllPairs (λ x y. f x < f y) xs
  pairs-unmapped h i j d below within =
      let e = get_or-map f xs i d (f d) (omega arith) in
      let g = get_or-map f xs j d (f d) within in
      omega (arith, h i j (f d) below (omega (arith, length-map xs f)), e, g)

  pairs-mapped : AllPairs (λ x y. f x < f y) xs → AllPairs ◌<◌ (map f xs)
  pairs-mapped h = at xs h where
    at : (xs : List X) → AllPairs (λ x y. f x < f y) xs → AllPairs ◌<◌ (map f xs)
    at [] h i j d below within = absurd (omega arith)
    at (x ∷ xs) h i j d below within =
        let p = x in
        let e = get_or-map f (x ∷ xs) i p d (omega (arith, length-map (x ∷ xs) f)) in
        let g = get_or-map f (x ∷ xs) j p d (omega (arith, length-map (x ∷ xs) f)) in
        omega (arith, h i j p below (omega (arith, length-map (x ∷ xs) f)), e, g)

  all-mapped : (n : ℕ) → All (λ x. n < f x) xs → All (λ m. n < m) (map f xs)
  all-mapped n h = at xs h where
    at : (xs : List X) → All (λ x. n < f x) xs → All (λ m. n < m) (map f xs)
    at [] h = λ k d within. absurd (omega arith)
    at (x ∷ xs) h = All-cons (λ m. n < m) (f x) (map f xs) (h 0 x (omega arith)) (at xs (All-tail (λ x. n < f x) x xs h))

-- ---- a round

pub record IsLimitedRound (session : Session) (round : Round) : Type 0 where
  pub most : round.draws ≤ MOST_DRAWS
  pub round_is : IsRound session round

module _ (session : Session) (round : Round) where
  pub round-is : is_round session.cards session.gamma session.margins round ≡ true → IsLimitedRound session round
  round-is h =
      let cards = session.cards in
      let gamma = session.gamma in
      let margins = session.margins in
      let (three, risks) = and_parts (is_draws round.draws && has_counts margins round && counts_all round) (has_risks cards gamma margins round) h in
      let (two, all) = and_parts (is_draws round.draws && has_counts margins round) (counts_all round) three in
      let (draws, counts) = and_parts (is_draws round.draws) (has_counts margins round) two in
      let (least, most) = and_parts (nat_le 1 round.draws) (nat_le round.draws MOST_DRAWS) draws in
      record {
        most = leb-true round.draws MOST_DRAWS most;
        round_is = record {
          some = leb-true 1 round.draws least;
          each = eqb-true (length round.counts) (length margins) counts;
          all_draws =
              λ k d within. eqb-true (draws_in (get_or round.counts k d)) round.draws
              (AllPass-from_list_all (λ counts. draws_in counts == round.draws) round.counts all k d within);
          printed = same_text round.risks (risks_of cards gamma margins round.counts) (sym risks);
        };
      }

  pub round-from : IsLimitedRound session round → is_round session.cards session.gamma session.margins round ≡ true
  round-from h =
      let cards = session.cards in
      let gamma = session.gamma in
      let margins = session.margins in
      let r = h.round_is in
      let draws = and_from (nat_le 1 round.draws) (nat_le round.draws MOST_DRAWS) (le-leb 1 round.draws r.some) (le-leb round.draws MOST_DRAWS h.most) in
      let two = and_from (is_draws round.draws) (has_counts margins round) draws (eq-eqb (length round.counts) (length margins) r.each) in
      let all = list_all-from_AllPass (λ counts. draws_in counts == round.draws) round.counts
      (λ k d within. eq-eqb (draws_in (get_or round.counts k d)) round.draws (r.all_draws k d within)) in
      let three = and_from (is_draws round.draws && has_counts margins round) (counts_all round) two all in
      and_from (is_draws round.draws && has_counts margins round && counts_all round) (has_risks cards gamma margins round) three
      ((bytes_decides round.risks (risks_of cards gamma margins round.counts)).1 r.printed)

-- ---- the session

pub record IsLimited (session : Session) : Type 0 where
  pub limits : IsWithinLimits session
  pub session_is : IsSession session

pub session-is : (session : Session) → is_session session ≡ true → IsLimited session
session-is session h =
    let limited = is_cards session.cards && is_limit session.limit && is_gamma session.gamma in
    let (four, rounds) = and_parts (limited && are_margins session.cards session.margins) (are_rounds session) h in
    let (three, margins) = and_parts limited (are_margins session.cards session.margins) four in
    let (two, gamma) = and_parts (is_cards session.cards && is_limit session.limit) (is_gamma session.gamma) three in
    let (cards, limit) = and_parts (is_cards session.cards) (is_limit session.limit) two in
    let (least_gamma, most_gamma) = and_parts (nat_le 1 session.gamma) (nat_le session.gamma GREATEST_GAMMA) gamma in
    let (least_limit, most_limit) = and_parts (nat_le 1 session.limit) (nat_le session.limit GREATEST_LIMIT) limit in
    let test = is_round session.cards session.gamma session.margins in
    let (rise, all) = and_parts (rises_above 0 (map (λ round. round.draws) session.rounds)) (list_all test session.rounds) rounds in
    let m = margins-are session.cards session.margins margins in
    record {
      limits = record {
        most_cards = leb-true session.cards MOST_CARDS cards;
        some_limit = leb-true 1 session.limit least_limit;
        most_limit = leb-true session.limit GREATEST_LIMIT most_limit;
        some_gamma = leb-true 1 session.gamma least_gamma;
        most_gamma = leb-true session.gamma GREATEST_GAMMA most_gamma;
        most_draws = λ k d within. (round-is session (get_or session.rounds k d) (AllPass-from_list_all test session.rounds all k d within)).most;
      };
      session_is = record {
        some = m.some;
        margins = m.each;
        rising = pairs-unmapped (λ round. round.draws) session.rounds (rises-pairs 0 (map (λ round. round.draws) session.rounds) rise);
        rounds = λ k d within. (round-is session (get_or session.rounds k d) (AllPass-from_list_all test session.rounds all k d within)).round_is;
      };
    }

pub session-from : (session : Session) → IsLimited session → is_session session ≡ true
session-from session h =
    let limited = is_cards session.cards && is_limit session.limit && is_gamma session.gamma in
    let l = h.limits in
    let s = h.session_is in
    let test = is_round session.cards session.gamma session.margins in
    let limit = and_from (nat_le 1 session.limit) (nat_le session.limit GREATEST_LIMIT) (le-leb 1 session.limit l.some_limit)
    (le-leb session.limit GREATEST_LIMIT l.most_limit) in
    let gamma = and_from (nat_le 1 session.gamma) (nat_le session.gamma GREATEST_GAMMA) (le-leb 1 session.gamma l.some_gamma)
    (le-leb session.gamma GREATEST_GAMMA l.most_gamma) in
    let two = and_from (is_cards session.cards) (is_limit session.limit) (le-leb session.cards MOST_CARDS l.most_cards) limit in
    let three = and_from (is_cards session.cards && is_limit session.limit) (is_gamma session.gamma) two gamma in
    let margins = margins-from session.cards session.margins (record { some = s.some; each = s.margins }) in
    let rise = rises-from 0 (map (λ round. round.draws) session.rounds) (all-mapped (λ round. round.draws) session.rounds 0
    (λ k d within. (s.rounds k d within).some)) (pairs-mapped (λ round. round.draws) session.rounds s.rising) in
    let all = list_all-from_AllPass test session.rounds
    (λ k d within. round-from session (get_or session.rounds k d) (record { most = l.most_draws k d within; round_is = s.rounds k d within })) in
    let rounds = and_from (rises_above 0 (map (λ round. round.draws) session.rounds)) (list_all test session.rounds) rise all in
    and_from (limited && are_margins session.cards session.margins) (are_rounds session)
    (and_from limited (are_margins session.cards session.margins) three margins) rounds
