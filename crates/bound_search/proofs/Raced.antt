-- From the ends of all workers to the best margin.
use Rattle.std.proofs.Common.{◌≡◌, ◌≢◌, ◌⊎◌, inl, inr, ℕ, ◌+◌, ◌<◌, ◌≤◌, ◌==◌, nat_lt, Bool, true, false, cond, count_by, List, [], ◌∷◌, ◌++◌, map, length, All, Contains, Option, None, Some, take, get_or, slice_get, refl, sym, ap, subst, arith, le_antisymm, append_assoc, length-append, ◌∙◌}
use Rattle.std.proofs.lemmas.List.{length-map}
use Rattle.std.specs.Option.{MatchOption}
use Rattle.std.specs.List.{range_with_len}
use Rattle.std.proofs.lemmas.Bool.{lt-ltb, eqb-true}
use Rattle.std.proofs.lemmas.Bool.{cases_Bool, and_parts, eqb-false, ltb-true}
use Rattle.std.proofs.lemmas.Option.{slice_get_read}
use Rattle.std.proofs.lemmas.List.Elements.{All-contains, All-weaker, All-head, All-tail, All-map, All-same}
use Rattle.std.proofs.lemmas.List.Sums.{sum_by-cons}
use Rattle.irv_base.specs.Candidates.{candidates}
use Rattle.irv_base.specs.Orders.{is_order, EndsIn, Elects}
use Rattle.irv_base.proofs.Members.{Member, here, there, member-append_right, member-map, contains-from_member, member-from_contains}
use Rattle.irv_base.proofs.Orders.{order_facts}
use Rattle.assertions.specs.Suffixes.{IsAlternative}
use Rattle.assertions.specs.Hardness.{low, best_margin, first_bound, start_order}
use Rattle.assertions.proofs.Alternatives.{best-le, best_is}
use Rattle.assertions.proofs.Endings.{from_alternative, alternative-member}
use Rattle.assertions.proofs.Greatest.{greatest-member}
use Rattle.irv_tabulator.specs.declared.tabulated.Tabulated.{Tabulated}
use Rattle.set_tallies.specs.Bags.{Kept, Source, IsOf}
use Rattle.irv_base.specs.declared.limits.TheConstants.{FEWEST_CANDIDATES}
use Rattle.shared_witness.specs.Moment.{EachOnce, times, taken_pieces, least_posted}
use Rattle.shared_witness.specs.Race.{SharedRace, views_of}
use Rattle.shared_witness.proofs.Lists.{least-first}
use Rattle.suffix_tree.specs.Suffixes.{Suffix}
use Rattle.bound_search.specs.Race.{AreReportsOf, IsBest, IsBestOver, IsPieceEnd, ArePiecesOver, IsSpentOver, pieces, piece_of, is_part_below, parts_below, suffixes_of, work, work_for}
use Rattle.bound_search.specs.Reached.{IsReached, IsFoundIn, IsClosedAt, IsCostly}
use Rattle.std.proofs.Math.Seq.{take-append_seam}
use Rattle.bound_search.proofs.Turns.{if_ok}
use Rattle.bound_search.specs.Reached.{IsWorkerEnd}
use Rattle.bound_search.specs.Team.{HasFewEnds, WorkerRan, TeamRan, IsClosedUnder, IsEntryOfOne, IsJoined}
use Rattle.bound_search.specs.Raced.{IsStart, IsClosedEntry, IsRaced, spent_above}
use Rattle.bound_search.specs.declared.run.Raced.{Raced}
use Rattle.bound_search.specs.declared.start.Start.{Start}
use Rattle.shared_witness.specs.View.{highest}
use Rattle.bound_search.specs.declared.team.Worker.{Worker}
use Rattle.bound_search.specs.declared.limits.TheConstants.{MOST_PIECES}
use Rattle.bound_search.specs.declared.ends.Best.{Best}
use Rattle.bound_search.specs.declared.ends.PieceEnd.{PieceEnd}
use Rattle.bound_search.specs.declared.ends.RaceEnd.{RaceEnd}
use Rattle.bound_search.specs.declared.ends.RaceFault.{RaceFault}
use Rattle.bound_search.specs.declared.ends.RaceFault.TheVariants.{Spent}
use Rattle.bound_search.specs.declared.join.Joined.{Joined}
use Rattle.bound_search.proofs.Reporting.{times-at, at, candidates-once, same_sum, reports-same}
use Rattle.bound_search.proofs.Cutting.{IsPiece, tail_facts, ends_in_piece}

-- ---- the entry of a piece

abbrev pub numbers : List PieceEnd → List ℕ
numbers ends = map (λ p. p.piece) ends

pub entry_at : (ends : List PieceEnd) (k : ℕ) → 1 ≤ times (numbers ends) k → (p : PieceEnd) × Member p ends × (p.piece ≡ k)
entry_at [] k some = absurd (omega arith)
entry_at (p ∷ ps) k some =
    elim (cases_Bool (p.piece == k)) [
      | inl same ↦ (p, here, eqb-true p.piece k same)
      | inr apart ↦
          let more : times (numbers (p ∷ ps)) k ≡ cond (p.piece == k) 1 0 + times (numbers ps) k = sum_by-cons (λ q. cond (q == k) 1 0) p.piece (numbers ps) in
          let zero : ◌≡◌ {A = ℕ} (cond (p.piece == k) 1 0) 0 = ap (λ b. cond b 1 0) apart in
          let (q, m, is) = entry_at ps k (omega (arith, some, more, zero)) in
          (q, there m, is)
    ]

get_at_seam : (pre : List Suffix) (t : Suffix) (ts : List Suffix) → slice_get (pre ++ t ∷ ts) (length pre) ≡ Some t
get_at_seam [] t ts = refl
get_at_seam (x ∷ pre) t ts = get_at_seam pre t ts

pub some_one : (o : Option Suffix) (a b : Suffix) → o ≡ Some a → o ≡ Some b → a ≡ b
some_one o a b e e' = cc

-- entries in the order of the pieces have the suffixes of the pieces
tails_in_order : (pre tails : List Suffix) (ps : List PieceEnd) → numbers ps ≡ range_with_len (length pre) (length tails) →
    All (λ p. slice_get (pre ++ tails) p.piece ≡ Some p.tail) ps → map (λ p. p.tail) ps ≡ tails
tails_in_order pre [] [] same all = refl
tails_in_order pre [] (p ∷ ps) same all = cc
tails_in_order pre (t ∷ tails) [] same all = cc
tails_in_order pre (t ∷ tails) (p ∷ ps) same all =
    let number : p.piece ≡ length pre = cc in
    let rest : numbers ps ≡ range_with_len (length pre + 1) (length tails) = cc in
    let P : PieceEnd → Type 0 = λ q. slice_get (pre ++ t ∷ tails) q.piece ≡ Some q.tail in
    let first : slice_get (pre ++ t ∷ tails) (length pre) ≡ Some p.tail =
    subst (λ k. slice_get (pre ++ t ∷ tails) k ≡ Some p.tail) number (All-head P p ps all) in
    let is : p.tail ≡ t = some_one (slice_get (pre ++ t ∷ tails) (length pre)) p.tail t first (get_at_seam pre t tails) in
    let longer : length (pre ++ t ∷ []) ≡ length pre + 1 = length-append pre (t ∷ []) in
    let others : All (λ q. slice_get ((pre ++ t ∷ []) ++ tails) q.piece ≡ Some q.tail) ps =
    subst (λ xs. All (λ q. slice_get xs q.piece ≡ Some q.tail) ps) (sym (append_assoc pre (t ∷ []) tails)) (All-tail P p ps all) in
    let same_rest = tails_in_order (pre ++ t ∷ []) tails ps (rest ∙ ap (λ k. range_with_len k (length tails)) (sym longer)) others in
    ap (λ x. x ∷ map (λ (q : PieceEnd). q.tail) ps) is ∙ ap (λ xs. t ∷ xs) same_rest

-- ---- the best order

abbrev pub tails_are : ℕ → ℕ → List Suffix
tails_are n winner = map (piece_of n) (pieces n winner)

pub electing_last : (n winner : ℕ) (piece order : List ℕ) → IsPiece n winner piece → EndsIn order piece → (c : ℕ) × (c ≢ winner) × Elects order c
electing_last n winner piece order h (before, split) =
    let is : order ≡ before ++ h.other ∷ h.last ∷ [] = split ∙ ap (λ p. before ++ p) h.is in
    (h.last, h.apart, (before ++ h.other ∷ [], is ∙ sym (append_assoc before (h.other ∷ []) (h.last ∷ []))))

pub found_reached : (bag : Kept) (winner : ℕ) (best : Best) → IsFoundIn bag (tails_are bag.n winner) best → IsReached bag winner best
found_reached bag winner best h =
    let (k, low, is) = h.one in
    let at = slice_get_read (tails_are bag.n winner) (length (tails_are bag.n winner)) k h.tail refl low (sym is) in
    let piece = (tail_facts bag.n winner k h.tail at).1 in
    record { alternative = (h.found.whole, electing_last bag.n winner h.tail.list best.order piece h.found.inside); hardness = h.found.hardness }

pub elected_below : (n c : ℕ) (order : List ℕ) → is_order n order ≡ true → Elects order c → c < n
elected_below n c order h (before, same) = (order_facts n order h).below c (subst (Member c) (sym same) (member-append_right before here))

pub all_searched : (bag : Kept) (records : List (List ℕ)) (winner : ℕ) (best : Best) (end : RaceEnd) → end.margin ≡ best.margin → end.order ≡ best.order →
    IsOf bag records → winner < bag.n → 1 < bag.n →
    IsReached bag winner best → ((c : ℕ) (order : List ℕ) → c ≢ winner → is_order bag.n order ≡ true → Elects order c →
    best.margin ≤ low bag.n records order) → IsBest bag.n records winner end
all_searched bag records winner best end same_margin same_order of below two reached searched =
    let (order, m, same) = best_is bag.n winner (low bag.n records) below two in
    let (h, (c, ne, elects)) = from_alternative bag.n winner order m in
    let up : best.margin ≤ low bag.n records order = searched c order ne h elects in
    let (whole, (d, other, ends)) = reached.alternative in
    let down : best_margin bag.n winner (low bag.n records) ≤ low bag.n records best.order =
    best-le bag.n winner (low bag.n records) best.order (alternative-member bag.n winner d best.order whole other ends) in
    record {
      best = same_margin ∙ le_antisymm (omega (arith, up, same)) (omega (arith, down, reached.hardness records of));
      alternative = subst (IsAlternative bag.n winner) (sym same_order) reached.alternative;
      hardness = ap (low bag.n records) same_order ∙ reached.hardness records of ∙ sym same_margin;
    }

-- there is at least one piece
pub some_pieces : (bag : Kept) (winner : ℕ) (first : Best) (tails : List Suffix) → 1 < bag.n → IsReached bag winner first → tails ≡ tails_are bag.n winner →
    1 ≤ length tails
some_pieces bag winner first tails two reached tails_is =
    let (whole, (c, apart, elects)) = reached.alternative in
    let (piece, ends, k, low, at) = ends_in_piece bag.n winner c first.order whole two apart elects in
    let count = ap length tails_is ∙ length-map (pieces bag.n winner) (piece_of bag.n) in
    omega (arith, low, count)

pub of_contest : (bag : Kept) (winner : ℕ) (tails : List Suffix) → tails ≡ tails_are bag.n winner → All (λ t. t.n ≡ bag.n) tails
of_contest bag winner tails is = All-same (λ (t : Suffix). t.n ≡ bag.n) tails (tails_are bag.n winner) is
    (All-map (λ (t : Suffix). t.n ≡ bag.n) (piece_of bag.n) (pieces bag.n winner) (λ k d inside. refl))

pub start_for : (bag : Kept) (tab : Tabulated) (tallies moved : Source) (n : ℕ) (start : Start) → tallies.bag ≡ bag → moved ≡ tallies → n ≡ moved.bag.n →
    FEWEST_CANDIDATES ≤ n → IsReached tallies.bag tab.winner start.first →
    start.first.order ≡ start_order tab.order → start.tails.items ≡ tails_are n tab.winner → IsStart bag tab start
start_for bag tab tallies moved n start same kept n_is fewest reached order tails_is =
    let all : n ≡ bag.n = n_is ∙ ap (λ (s : Source). s.bag.n) kept ∙ ap (λ (b : Kept). b.n) same in
    let own : IsReached bag tab.winner start.first = subst (λ b. IsReached b tab.winner start.first) same reached in
    record {
      two = omega (arith, all, fewest);
      tails = tails_is ∙ ap (λ m. tails_are m tab.winner) all;
      reached = own;
      first = λ records of. sym (own.hardness records of) ∙ ap (low bag.n records) order;
    }

-- the start order, or an order that was found
pub joined_reached : (bag : Kept) (winner : ℕ) (start best : Best) (tails : List Suffix) → tails ≡ tails_are bag.n winner → IsReached bag winner start →
    (best ≡ start) ⊎ IsFoundIn bag tails best → IsReached bag winner best
joined_reached bag winner start best tails is reached (inl same) = subst (IsReached bag winner) (sym same) reached
joined_reached bag winner start best tails is reached (inr found) = found_reached bag winner best (subst (λ ts. IsFoundIn bag ts best) is found)

-- a slice as long as the whole team is that team
pub whole_team : {A : Type 0} (n : ℕ) (xs ys : List A) → length xs ≡ n → take n (xs ++ ys) ≡ xs
whole_team n xs ys len = ap (λ k. take k (xs ++ ys)) (sym len) ∙ take-append_seam xs ys

few_ends : (bag : Kept) (nodes : ℕ) (tails : List Suffix) (race : SharedRace) (number : ℕ) (w : Worker) → length tails ≤ MOST_PIECES →
    WorkerRan bag nodes tails race number w → HasFewEnds w
few_ends bag nodes tails race number w few ran =
    if_ok (IsWorkerEnd bag race.terms.first nodes number tails w.seat.view) (λ e. length e.ends.items ≤ MOST_PIECES) w.end
    (λ e h. let took = ap length h.took in let mapped = length-map e.ends.items (λ (p : PieceEnd). p.piece) in let le = h.few in
    omega (arith, few, le, took, mapped)) ran.end

-- the team that ran, none of whose workers has more ends than there are pieces
pub few_of_all : (bag : Kept) (nodes : ℕ) (tails : List Suffix) (race : SharedRace) (team : List Worker) → length tails ≤ MOST_PIECES →
    TeamRan bag nodes tails race team → All HasFewEnds team
few_of_all bag nodes tails race team few ran i d low = few_ends bag nodes tails race i (get_or team i d) few (ran i d low)

-- ---- nothing is below 0

nothing-below_0 : (n : ℕ) (records : List (List ℕ)) (xs : List (List ℕ)) → count_by (is_part_below n records 0) xs ≡ 0
nothing-below_0 n records [] = refl
nothing-below_0 n records (s ∷ xs) =
    let more = sum_by-cons (λ s. cond (is_part_below n records 0 s) 1 0) s xs in
    let here' : ◌≡◌ {A = ℕ} (cond (is_part_below n records 0 s) 1 0) 0 = ap (λ b. cond b 1 0) (none_is s) in
    omega (arith, more, here', nothing-below_0 n records xs)
  where
    none_is : (s : List ℕ) → is_part_below n records 0 s ≡ false
    none_is s = elim (cases_Bool (is_part_below n records 0 s)) [
      | inr f ↦ f
      | inl t ↦ let lt : low n records s < 0 = ltb-true (low n records s) 0 (and_parts (nat_lt (length s) n) (nat_lt (low n records s) 0) t).1 in
          absurd (omega (arith, lt))
    ]

closed-at_0 : (bag : Kept) (p : PieceEnd) → IsClosedEntry bag 0 p
closed-at_0 bag p = record {
  above = λ records of order o e. omega arith;
  least = λ records of. let zero = nothing-below_0 bag.n records (suffixes_of bag.n p.tail.list) in omega (arith, zero);
}

-- ---- what follows from the joined ends, the seats, and the bound at the end

module _ (bag : Kept) (nodes workers bound : ℕ) (tails : List Suffix) (race : SharedRace) (start : Best) (j : Joined) (r : Raced)
    (joined : IsJoined bag nodes tails race start j)
    (first : race.terms.first ≡ start.margin) (pieces_are : race.terms.pieces ≡ length tails) (fits : start.margin ≤ highest)
    (count : length j.seats.items ≡ workers)
    (bound_is : bound ≡ least_posted race.terms.first (views_of j.seats.items)) (seen : All (λ s. bound ≤ s.view.seen) j.seats.items)
    (once : EachOnce race.terms.pieces (taken_pieces (views_of j.seats.items)))
    (r_is : r ≡ record { ends = j.ends; reports = j.reports; best = j.best; spent = spent_above j.best.margin j.spent }) where
  margin_is : j.best.margin ≡ bound
  margin_is = joined.least fits ∙ ap (λ f. least_posted f (views_of j.seats.items)) (sym first) ∙ sym bound_is

  closed_of : (o : Option ℕ) → MatchOption o (All (IsClosedUnder bag j.seats.items) j.ends.items) (IsCostly bag race.terms.first nodes tails) →
      MatchOption o (All (IsClosedEntry bag j.best.margin) j.ends.items) (IsCostly bag start.margin nodes tails)
  closed_of None all =
      All-weaker (IsClosedUnder bag j.seats.items) (IsClosedEntry bag j.best.margin)
      (λ p h. subst (λ b. IsClosedEntry bag b p) (sym margin_is) (h bound seen)) j.ends.items all
  closed_of (Some piece) costly = subst (λ f. IsCostly bag f nodes tails piece) first costly

  -- at 0, a piece that was left open says nothing less
  above_0 : (b : Bool) → (j.best.margin == 0) ≡ b →
      MatchOption (cond b None j.spent) (All (IsClosedEntry bag j.best.margin) j.ends.items) (λ p. (1 ≤ j.best.margin) × IsCostly bag start.margin nodes tails p)
  above_0 true zero = λ k d low.
      subst (λ m. IsClosedEntry bag m (get_or j.ends.items k d)) (sym (eqb-true j.best.margin 0 zero)) (closed-at_0 bag (get_or j.ends.items k d))
  above_0 false some =
      with_some (let apart = eqb-false j.best.margin 0 some in omega (arith, apart)) j.spent (closed_of j.spent joined.spent)
    where
      with_some : 1 ≤ j.best.margin → (o : Option ℕ) →
          MatchOption o (All (IsClosedEntry bag j.best.margin) j.ends.items) (IsCostly bag start.margin nodes tails) →
          MatchOption o (All (IsClosedEntry bag j.best.margin) j.ends.items) (λ p. (1 ≤ j.best.margin) × IsCostly bag start.margin nodes tails p)
      with_some le None all = all
      with_some le (Some piece) costly = (le, costly)

  pub is_raced : IsRaced bag nodes tails workers start r
  is_raced = subst (IsRaced bag nodes tails workers start) (sym r_is) (record {
    took = subst (EachOnce (length tails)) (sym joined.took) (subst (λ n. EachOnce n (taken_pieces (views_of j.seats.items))) pieces_are once);
    entries = subst (λ f. All (IsEntryOfOne bag f nodes workers tails) j.ends.items) first
        (subst (λ k. All (IsEntryOfOne bag race.terms.first nodes k tails) j.ends.items) (joined.count ∙ count) joined.entries);
    count = joined.count ∙ count;
    reports = joined.reports;
    paced = joined.paced;
    best = joined.best;
    upper = let low = least-first start.margin (views_of j.seats.items) in omega (arith, joined.least fits, low);
    spent = above_0 (j.best.margin == 0) refl;
  })

-- ---- some piece ran out of budget, or none did

-- above a bound of 0
pub spent_where : (bag : Kept) (nodes : ℕ) (tails : List Suffix) (workers : ℕ) (start : Best) (r : Raced) → IsRaced bag nodes tails workers start r →
    (piece : ℕ) → r.spent ≡ Some piece →
    (1 ≤ r.best.margin) × IsCostly bag start.margin nodes tails piece
spent_where bag nodes tails workers start r raced piece spent =
    subst (λ o. MatchOption o (All (IsClosedEntry bag r.best.margin) r.ends.items) (λ p. (1 ≤ r.best.margin) × IsCostly bag start.margin nodes tails p)) spent raced.spent

pub costly_where : (bag : Kept) (nodes : ℕ) (tails : List Suffix) (workers : ℕ) (start : Best) (r : Raced) → IsRaced bag nodes tails workers start r →
    (piece : ℕ) → r.spent ≡ Some piece →
    IsCostly bag start.margin nodes tails piece
costly_where bag nodes tails workers start r raced piece spent = (spent_where bag nodes tails workers start r raced piece spent).1

pub closed_where : (bag : Kept) (nodes : ℕ) (tails : List Suffix) (workers : ℕ) (start : Best) (r : Raced) → IsRaced bag nodes tails workers start r →
    r.spent ≡ None →
    All (IsClosedEntry bag r.best.margin) r.ends.items
closed_where bag nodes tails workers start r raced none =
    subst (λ o. MatchOption o (All (IsClosedEntry bag r.best.margin) r.ends.items) (λ p. (1 ≤ r.best.margin) × IsCostly bag start.margin nodes tails p)) none raced.spent

-- ---- all that the race says

module _ (bag : Kept) (nodes winner workers : ℕ) (tails : List Suffix) (start : Best) (r : Raced) (tails_is : tails ≡ tails_are bag.n winner)
    (two : 1 < bag.n) (raced : IsRaced bag nodes tails workers start r) where
  -- each piece has an entry
  pub taken_entry : (k : ℕ) → k < length tails → (p : PieceEnd) × Member p r.ends.items × (p.piece ≡ k)
  taken_entry k low =
      let one : ◌≡◌ {A = ℕ} (cond (nat_lt k (length tails)) 1 0) 1 = ap (λ b. cond b 1 0) (lt-ltb k (length tails) low) in
      entry_at r.ends.items k (omega (arith, raced.took k, one))

  entry_facts : (p : PieceEnd) → Contains r.ends.items p → IsEntryOfOne bag start.margin nodes workers tails p
  entry_facts p m = All-contains (IsEntryOfOne bag start.margin nodes workers tails) r.ends.items p raced.entries m

  module _ (closed : All (IsClosedEntry bag r.best.margin) r.ends.items) where
    closed_facts : (p : PieceEnd) → Contains r.ends.items p → IsClosedAt bag r.best.margin p.tail.list p.expanded
    closed_facts p m = All-contains (IsClosedEntry bag r.best.margin) r.ends.items p closed m

    -- no alternative order is less hard than the bound
    none_below : (records : List (List ℕ)) → IsOf bag records → (c : ℕ) (order : List ℕ) → c ≢ winner → is_order bag.n order ≡ true → Elects order c →
        r.best.margin ≤ low bag.n records order
    none_below records of c order apart whole elects =
        let (piece, ends, k, low, at) = ends_in_piece bag.n winner c order whole two apart elects in
        let count : length tails ≡ length (pieces bag.n winner) = ap length tails_is ∙ length-map (pieces bag.n winner) (piece_of bag.n) in
        let (p, m, number) = taken_entry k (omega (arith, low, count)) in
        let entry = entry_facts p (contains-from_member m) in
        let got : slice_get tails k ≡ Some p.tail = subst (λ i. slice_get tails i ≡ Some p.tail) number entry.1.tail in
        let is : p.tail ≡ piece_of bag.n piece = some_one (slice_get tails k) p.tail (piece_of bag.n piece) got (ap (λ ts. slice_get ts k) tails_is ∙ at) in
        let inside : EndsIn order p.tail.list = subst (EndsIn order) (sym (ap (λ (s : Suffix). s.list) is)) ends in
        (closed_facts p (contains-from_member m)).above records of order whole inside

    pub best_race : (end : RaceEnd) → end.margin ≡ r.best.margin → end.order ≡ r.best.order → winner < bag.n → IsReached bag winner r.best →
        IsBestOver bag winner end
    best_race end same_margin same_order below reached records of =
        all_searched bag records winner r.best end same_margin same_order of below two reached (none_below records of)

    pub pieces_race : (tab : Tabulated) (end : RaceEnd) → tab.winner ≡ winner → end.margin ≡ r.best.margin →
        numbers end.pieces.items ≡ candidates (length tails) → All (Contains r.ends.items) end.pieces.items →
        ((records : List (List ℕ)) → IsOf bag records → start.margin ≡ first_bound bag.n records tab.order) → ArePiecesOver bag tab end
    pieces_race tab end won same_margin in_order each first records of =
        let count : length tails ≡ length (pieces bag.n winner) = ap length tails_is ∙ length-map (pieces bag.n winner) (piece_of bag.n) in
        let own = All-weaker (Contains r.ends.items) (λ (p : PieceEnd). slice_get tails p.piece ≡ Some p.tail) (λ p m. (entry_facts p m).1.tail)
        end.pieces.items each in
        record {
          all = tails_in_order [] tails end.pieces.items in_order own ∙ tails_is ∙ ap (λ v. map (piece_of bag.n) (pieces bag.n v)) (sym won);
          numbers = in_order ∙ ap candidates count ∙ ap (λ v. candidates (length (pieces bag.n v))) (sym won);
          each = All-weaker (Contains r.ends.items) (IsPieceEnd bag.n records tab.order end.margin)
              (λ p m. record {
                most = subst (λ f. p.expanded ≤ work bag.n records f p.tail.list) (first records of) ((entry_facts p m).1.most records of);
                least = subst (λ b. parts_below bag.n records b p.tail.list ≤ p.expanded) (sym same_margin) ((closed_facts p m).least records of);
              }) end.pieces.items each;
        }

  pub within_race : (ps : List PieceEnd) → All (Contains r.ends.items) ps → All (λ p. p.expanded ≤ nodes) ps
  within_race ps each = All-weaker (Contains r.ends.items) (λ (p : PieceEnd). p.expanded ≤ nodes) (λ p m. (entry_facts p m).1.within) ps each

  pub named_race : (ps : List PieceEnd) → All (Contains r.ends.items) ps → All (λ p. p.worker < workers) ps
  named_race ps each = All-weaker (Contains r.ends.items) (λ (p : PieceEnd). p.worker < workers) (λ p m. (entry_facts p m).0) ps each

  -- the same entries in the order of the pieces
  pub told_race : (ps : List PieceEnd) → numbers ps ≡ candidates (length tails) → All (Contains r.ends.items) ps → AreReportsOf ps r.reports.items
  told_race ps in_order each = reports-same ps r.ends.items r.reports.items (λ f. same_sum f ps r.ends.items same once inside) raced.reports where
    own : (k : ℕ) → times (numbers ps) k ≡ cond (nat_lt k (length tails)) 1 0
    own k = ap (λ xs. times xs k) in_order ∙ candidates-once (length tails) k

    same : (k : ℕ) → at k r.ends.items ≡ at k ps
    same k = sym (times-at k r.ends.items) ∙ raced.took k ∙ sym (own k) ∙ times-at k ps

    once : (k : ℕ) → at k ps ≤ 1
    once k = elim (cases_Bool (nat_lt k (length tails))) [
      | inl t ↦ let e : at k ps ≡ 1 = sym (times-at k ps) ∙ own k ∙ ap (λ b. cond b 1 0) t in omega arith
      | inr f ↦ let e : at k ps ≡ 0 = sym (times-at k ps) ∙ own k ∙ ap (λ b. cond b 1 0) f in omega arith
    ]

    inside : (p : PieceEnd) → Member p ps → Member p r.ends.items
    inside p m = member-from_contains p r.ends.items (All-contains (Contains r.ends.items) ps p each (contains-from_member m))

-- ---- a piece that is spent

pub spent_race : (bag : Kept) (nodes winner number first : ℕ) (tab : Tabulated) (tail : Suffix) (best : Best) (fault : RaceFault) → tab.winner ≡ winner →
    IsReached bag winner best → 1 ≤ best.margin →
    ((records : List (List ℕ)) → IsOf bag records → (first ≡ first_bound bag.n records tab.order) × (best.margin ≤ first)) →
    slice_get (tails_are bag.n winner) number ≡ Some tail → IsCostly bag first nodes (tails_are bag.n winner) number →
    ((last : ℕ) (other : ℕ) → tail.list ≡ other ∷ last ∷ [] → fault ≡ Spent last best.margin best.order) → IsSpentOver bag tab nodes fault
spent_race bag nodes winner number first tab tail best fault won reached some upper at (tail', at', over) says =
    let piece = (tail_facts bag.n winner number tail at).1 in
    let same : tail' ≡ tail = some_one (slice_get (tails_are bag.n winner) number) tail' tail at' at in
    subst (IsSpentOver bag tab nodes) (sym (says piece.last piece.other piece.is)) (λ records of.
    let u = upper records of in
    let costs : nodes < work bag.n records first tail.list = subst (λ (t : Suffix). nodes < work bag.n records first t.list) same (over records of) in
    let costs' : nodes < work bag.n records (first_bound bag.n records tab.order) tail.list = subst (λ f. nodes < work bag.n records f tail.list) u.0 costs in
    let most : work bag.n records (first_bound bag.n records tab.order) tail.list ≤ work_for bag.n records tab.order piece.last =
    greatest-member (member-map (work bag.n records (first_bound bag.n records tab.order)) piece.electing) in
    record {
      candidate = piece.below;
      other = λ e. piece.apart (e ∙ won);
      more = omega (arith, costs', most);
      alternative = subst (λ v. IsAlternative bag.n v best.order) (sym won) reached.alternative;
      hardness = reached.hardness records of;
      reached = omega (arith, u.0, u.1);
      some = some;
    })
