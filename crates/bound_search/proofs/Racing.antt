-- The result of the turns of one piece.
use Rattle.std.proofs.Common.{◌≡◌, inl, inr, ℕ, ◌+◌, ◌<◌, ◌≤◌, true, nat_lt, List, [], ◌++◌, length, min, All, get_or, sym, ap, subst, arith, le_trans, length-append, lt-ltb, ltb-true, ◌∙◌}
use Rattle.std.proofs.lemmas.Bool.{and_from, and_parts, cases_lt}
use Rattle.std.proofs.lemmas.List.{nil_from_length}
use Rattle.std.proofs.lemmas.List.Elements.{All-append, All-nil}
use Rattle.assertions.specs.Suffixes.{is_suffix}
use Rattle.assertions.specs.Hardness.{low}
use Rattle.assertions.proofs.Tallies.{count_by-le}
use Rattle.set_tallies.specs.Bags.{Kept, Source, IsOf}
use Rattle.suffix_tree.specs.Suffixes.{Suffix}
use Rattle.bound_search.specs.Fronts.{Frontier, IsAfter, IsFront, IsWithin, HasGrown, Grows, IsFound, IsTurn}
use Rattle.bound_search.specs.Reached.{IsClosedAt, IsOverBudget, IsInWork}
use Rattle.bound_search.specs.Race.{is_part_below, parts_below, suffixes_of, value_of}
use Rattle.bound_search.specs.declared.limits.TheConstants.{MOST_EXPANDED}
use Rattle.bound_search.specs.declared.turn.Turn.{Turn}
use Rattle.bound_search.specs.declared.turn.Turn.TheVariants.{Closed, Found, More, Spent}
use Rattle.bound_search.proofs.Counting.{closed_above, least_expanded, most_below, one_more, orders_stay_open}
use Rattle.bound_search.proofs.Endings.{low_in, order_is_suffix}
use Rattle.bound_search.proofs.Keeping.{open_low}
use Rattle.bound_search.proofs.Works.{value_reached}
use Rattle.bound_search.specs.Fronts.{IsOpen}
use Rattle.std.proofs.lemmas.List.Elements.{All-contains}

-- what holds over the bag of some tallies holds over the bag of equal tallies
pub over : (P : Kept → Type 0) {s t : Source} → s ≡ t → P s.bag → P t.bag
over P e h = subst (λ (x : Source). P x.bag) e h

-- ---- a front that has expanded only what is in the work of its piece

abbrev pub work_limit : ℕ → List (List ℕ) → ℕ → List ℕ → ℕ
work_limit n records first piece = min first (value_of n records piece + 1)

abbrev pub IsUnder : Kept → ℕ → Frontier → Type 0
IsUnder bag first f = (done : List (List ℕ)) × IsAfter bag done f × ((records : List (List ℕ)) → IsOf bag records →
    All (λ s. low bag.n records s < work_limit bag.n records first f.piece.list) done)

pub under_front : (bag : Kept) (first : ℕ) (f : Frontier) → IsUnder bag first f → IsFront bag f
under_front bag first f (done, k, below) = (done, k)

-- a suffix below the bound and within the orders of the piece is in the piece's work
in_work : (bag : Kept) (records : List (List ℕ)) (first bound : ℕ) (piece s : List ℕ) → is_suffix bag.n piece ≡ true → bound ≤ first →
    low bag.n records s < bound → IsWithin bag records piece s →
    low bag.n records s < work_limit bag.n records first piece
in_work bag records first bound piece s proper le below within =
    let (order, whole, ends, value) = value_reached bag.n records piece proper in
    let up = within order whole ends in
    omega (arith, up, value, below, le)

pub under_turn : (bag : Kept) (first bound : ℕ) (old new : Frontier) → is_suffix bag.n old.piece.list ≡ true → IsUnder bag first old → bound ≤ first →
    bound ≤ old.least → Grows bag bound old new → new.piece ≡ old.piece →
    IsUnder bag first new
under_turn bag first bound old new proper (done, k, below) le least grows same =
    let g : HasGrown bag done bound old new = grows done k in
    let piece : old.piece.list ≡ new.piece.list = ap (λ (p : Suffix). p.list) (sym same) in (
      done ++ g.more,
      g.after,
      λ records of.
          let P : List ℕ → Type 0 = λ s. low bag.n records s < work_limit bag.n records first old.piece.list in
          let more : All P g.more =
          λ i d inside. in_work bag records first bound old.piece.list (get_or g.more i d) proper le (g.below records of i d inside)
          (g.within least records of i d inside) in
          subst (λ p. All (λ s. low bag.n records s < work_limit bag.n records first p) (done ++ g.more)) piece
          (All-append P done g.more (below records of) more),
    )

pub under_most : (bag : Kept) (first : ℕ) (f : Frontier) → IsUnder bag first f → IsInWork bag first f.piece.list f.expanded
under_most bag first f (done, k, below) records of = most_below bag records done (work_limit bag.n records first f.piece.list) f k (below records of)

-- ---- what each answer of a turn says

parts_below-le : (n : ℕ) (records : List (List ℕ)) (a b : ℕ) (piece : List ℕ) → a ≤ b → parts_below n records a piece ≤ parts_below n records b piece
parts_below-le n records a b piece le =
    count_by-le (is_part_below n records a) (is_part_below n records b) (suffixes_of n piece)
    (λ s h.
    let (short, below) = and_parts (nat_lt (length s) n) (nat_lt (low n records s) a) h in
    let lt : low n records s < a = ltb-true (low n records s) a below in
    and_from (nat_lt (length s) n) (nat_lt (low n records s) b) short (lt-ltb (low n records s) b (omega (arith, lt, le))))

-- what is closed at a bound is closed at a lower one
pub closed_lower : (bag : Kept) (a b : ℕ) (piece : List ℕ) (expanded : ℕ) → b ≤ a → IsClosedAt bag a piece expanded → IsClosedAt bag b piece expanded
closed_lower bag a b piece expanded le h = record {
  above = λ records of order whole ends. le_trans le (h.above records of order whole ends);
  least = λ records of. le_trans (parts_below-le bag.n records b a piece le) (h.least records of);
}

pub after_closed : (bag : Kept) (left seen : ℕ) (old new : Frontier) (t : Turn) → t ≡ Closed → IsTurn bag left old new t → IsFront bag new →
    is_suffix bag.n new.piece.list ≡ true → seen ≤ new.bound → seen ≤ old.least →
    IsClosedAt bag seen new.piece.list new.expanded
after_closed bag left seen old new t e h k proper bound least =
    let h' : IsTurn bag left old new Closed = subst (IsTurn bag left old new) e h in
    record {
      above = λ records of order whole ends. elim (closed_above bag records new of k h'.1 order whole ends) [
        | inl le ↦ omega (arith, le, bound)
        | inr le ↦ omega (arith, le, least, h'.0)
      ];
      least = λ records of.
          let more = parts_below-le bag.n records seen (min new.bound new.least) new.piece.list (omega (arith, bound, least, h'.0)) in
          le_trans more (least_expanded bag records new of proper k h'.1);
    }

pub after_found : (bag : Kept) (left : ℕ) (old new : Frontier) (t : Turn) (order : List ℕ) (margin : ℕ) → t ≡ Found order margin → IsTurn bag left old new t →
    IsFound bag old.piece.list order margin × (margin < new.bound) × (new.least ≡ min old.least margin)
after_found bag left old new t order margin e h =
    let h' : IsTurn bag left old new (Found order margin) = subst (IsTurn bag left old new) e h in
    (h'.0, h'.2, h'.3)

pub after_more : (bag : Kept) (left : ℕ) (old new : Frontier) (t : Turn) → t ≡ More → IsTurn bag left old new t →
    (new.least ≡ old.least) × (new.expanded ≡ old.expanded + MOST_EXPANDED)
after_more bag left old new t e h = let h' : IsTurn bag left old new More = subst (IsTurn bag left old new) e h in (h'.0, h'.1)

-- a suffix that is left is in the work of the piece, and wasn't expanded
pub after_spent : (bag : Kept) (left nodes first : ℕ) (old new : Frontier) (t : Turn) → t ≡ Spent → IsTurn bag left old new t → IsUnder bag first new →
    is_suffix bag.n new.piece.list ≡ true → new.bound ≤ first →
    new.bound ≤ old.least → old.expanded + left ≡ nodes → IsOverBudget bag first nodes new.piece.list
after_spent bag left nodes first old new t e h (done, k, below) proper bound least all records of =
    let h' : IsTurn bag left old new Spent = subst (IsTurn bag left old new) e h in
    let (order, whole, ends, value) = value_reached bag.n records new.piece.list proper in
    let limit = work_limit bag.n records first new.piece.list in
    elim (cases_lt (low bag.n records order) new.bound) [
      | inr ge ↦
          let one = h'.3.one in
          let more = one_more bag records done limit new one of k (below records of) h'.3.still_open (h'.3.parts one h'.3.still_open h'.3.below)
          (omega (arith, h'.3.below, ge, value, bound)) in
          omega (arith, more, h'.1, all)
      | inl lt ↦
          let (o, still, inside) = orders_stay_open bag records new of (done, k) order whole ends lt (omega (arith, lt, least, h'.0)) in
          let low_o = open_low bag new.piece.list o (All-contains (IsOpen bag new.piece.list) new.suffixes o k.each still) records of in
          let up = low_in bag.n records order o.tail.list (order_is_suffix bag.n order whole) inside in
          let lower : o.low < new.bound = omega (arith, low_o, up, lt) in
          let more = one_more bag records done limit new o of k (below records of) still (h'.3.parts o still lower)
          (omega (arith, lower, low_o, up, value, bound)) in
          omega (arith, more, h'.1, all)
    ]

pub expanded_le : (bag : Kept) (bound : ℕ) (old new : Frontier) → IsFront bag old → Grows bag bound old new → old.expanded ≤ new.expanded
expanded_le bag bound old new (done, k) grows =
    let g : HasGrown bag done bound old new = grows done k in
    omega (arith, k.count, g.after.count, length-append done g.more)
