use Rattle.std.proofs.Common.{◌∷◌, [], ◌≡◌, ◌-◌, ◌<◌, ◌++◌, List, ℕ, true, sym, ap, subst, arith, ◌∙◌}
use Rattle.assertions.specs.Suffixes.{is_suffix}
use Rattle.shared_witness.specs.declared.view.View.{View}
use Rattle.suffix_tree.specs.Suffixes.{Suffix}
use Rattle.bound_search.specs.Fronts.{IsFront, Grows, IsTurn, IsFound}
use Rattle.bound_search.specs.Reached.{IsNewest, IsInWork, IsOverBudget, IsClosedAt}
use Rattle.bound_search.proofs.Racing.{IsUnder, over, under_front, under_turn, under_most, after_closed, after_found, after_more, after_spent, expanded_le}
use Rattle.bound_search.proofs.Views.{posted_view, closed_view}
use Rattle.bound_search.proofs.piece.search.Goals as goal
use Rattle.bound_search.proofs.piece.search.Goals.{In_ok-turn}

-- ---- a turn, over the tallies with which the search began

turned : (g : _) (c : In_ok-turn g) → IsTurn c.args.tallies.now.bag (c.args.nodes - c.expanded.result) c.turns.front c.turn.new.self c.in_ok-turn.field-0
turned g c =
    over (λ b. IsTurn b (c.args.nodes - c.expanded.result) c.turns.front c.turn.new.self c.in_ok-turn.field-0) c.turns.invariant.same c.in_ok-turn.ensures.turn

grown : (g : _) (c : In_ok-turn g) → Grows c.args.tallies.now.bag c.look-bound.result c.turns.front c.turn.new.self
grown g c = over (λ b. Grows b c.look-bound.result c.turns.front c.turn.new.self) c.turns.invariant.same c.in_ok-turn.ensures.grows

suffix : (g : _) (c : In_ok-turn g) → is_suffix c.args.tallies.now.bag.n c.args.tail.now.list ≡ true
suffix g c =
    subst (λ n. is_suffix n c.args.tail.now.list ≡ true) c.requires.contest
    (subst (λ (s : Suffix). is_suffix s.n s.list ≡ true) (c.in_ok-front.ensures.piece ∙ c.in_ok-score.ensures.tail) c.in_ok-front.ensures.suffix)

below : (g : _) (c : In_ok-turn g) → IsUnder c.args.tallies.now.bag c.args.race.now.terms.first c.turn.new.self
below g c =
    let bag = c.args.tallies.now.bag in
    let inv = c.turns.invariant in
    let low = c.look-bound.ensures.least in
    let proper = ap (λ (s : Suffix). is_suffix bag.n s.list) inv.piece ∙ suffix g c in
    under_turn bag c.args.race.now.terms.first c.look-bound.result c.turns.front c.turn.new.self proper inv.under low.0 (omega (arith, low.1, inv.least))
    (grown g c)
    c.in_ok-turn.ensures.piece

pub returns-in-Closed-clause-searched : goal.returns-in-Closed-clause-searched
returns-in-Closed-clause-searched g c =
    let bag = c.args.tallies.now.bag in
    let first = c.args.race.now.terms.first in
    let tail = c.args.tail.now in
    let left = c.args.nodes - c.expanded.result in
    let inv = c.turns.invariant in
    let old = c.turns.front in
    let new = c.turn.new.self in
    let bound = c.look-bound.result in
    let v = c.turns.seat.view in
    let w = c.close_piece.new.seat.view in
    let t = (goal.at.returns-in-Closed-clause-searched g c).In_ok-turn in
    let turn = turned g t in
    let front = over (λ b. IsFront b new) inv.same c.in_ok-turn.ensures.front in
    let of_tail : new.piece ≡ tail = c.in_ok-turn.ensures.piece ∙ inv.piece in
    let list : new.piece.list ≡ tail.list = ap (λ (s : Suffix). s.list) of_tail in
    let proper = suffix g t in
    let proper_new : is_suffix bag.n new.piece.list ≡ true = ap (is_suffix bag.n) list ∙ proper in
    let low = c.look-bound.ensures.least in
    let under = below g t in
    let expanded = c.expanded-in-Closed.ensures in
    let is = closed_view bound c.close_piece.result v c.look-bound.new.seat.view w c.look-bound.ensures.view c.args.piece c.close_piece.ensures.view in
    let closing = c.close_piece.ensures.least.1 in
    let seen = ap (λ (u : View). u.seen) is in
    let looked = ap (λ (u : View). u.seen) c.look-bound.ensures.view in
    let posted = ap (λ (u : View). u.posted) is in
    let looks = ap (λ (u : View). u.looks) is in
    let within = c.in_ok-turn.ensures.within in
    let closed_at : IsClosedAt bag w.seen new.piece.list new.expanded =
    after_closed bag left w.seen old new c.in_ok-turn.field-0 c.in-Closed.is turn front proper_new
    (omega (arith, seen, closing, looked, c.in_ok-turn.ensures.bound)) (omega (arith, seen, closing, looked, low.1, inv.least)) in
    record {
      taken = ap (λ (u : View). u.taken) is ∙ inv.taken;
      ends = ap (λ (u : View). u.ends) is ∙ inv.ends;
      closed = ap (λ (u : View). u.closed) is ∙ ap (λ (xs : List ℕ). xs ++ c.args.piece ∷ []) inv.closed;
      looks = omega (arith, looks, inv.looked);
      falls = omega (arith, seen, closing, looked, low.1, inv.lower);
      between = omega (arith, seen, closing, looked, low.1, inv.between, posted);
      found = subst (λ p. IsNewest bag tail.list c.args.seat.now.view.posted p c.turns.found) (sym posted) inv.newest;
      within = omega (arith, expanded, within, inv.within, c.expanded.ensures);
      paced = omega (arith, expanded, c.in_ok-turn.ensures.most, inv.paced);
      few_looks = omega (arith, seen, closing, looked, low.1, inv.few_looks, inv.within);
      most = subst (λ k. IsInWork bag first tail.list k) (sym expanded) (subst (λ p. IsInWork bag first p new.expanded) list (under_most bag first new under));
      searched = λ e. subst (λ k. IsClosedAt bag w.seen tail.list k) (sym expanded) (subst (λ p. IsClosedAt bag w.seen p new.expanded) list closed_at);
      over = λ e searched. cc;
    }

pub turns-smaller-in-Found : goal.turns-smaller-in-Found
turns-smaller-in-Found g c =
    let inv = c.turns.invariant in
    let old = c.turns.front in
    let new = c.turn.new.self in
    let bound = c.look-bound.result in
    let left = c.args.nodes - c.expanded.result in
    let bag = c.args.tallies.now.bag in
    let t = (goal.at.turns-smaller-in-Found g c).In_ok-turn in
    let turn = turned g t in
    let grows = grown g t in
    let more = expanded_le bag bound old new (under_front bag c.args.race.now.terms.first old inv.under) grows in
    let f = after_found bag left old new c.in_ok-turn.field-0 c.in-Found.order c.in-Found.margin c.in-Found.is turn in
    let is = posted_view bound c.post.result c.turns.seat.view c.look-bound.new.seat.view c.post.new.seat.view c.look-bound.ensures.view c.in-Found.margin
    c.post.ensures.view in
    let seen = ap (λ (u : View). u.seen) is in
    omega (arith, more, f.1, seen, c.look-bound.ensures.least.1, c.in_ok-turn.ensures.bound, c.post.ensures.least.0)

pub turns-preserved-in-Found : goal.turns-preserved-in-Found
turns-preserved-in-Found g c =
    let bag = c.args.tallies.now.bag in
    let first = c.args.race.now.terms.first in
    let tail = c.args.tail.now in
    let left = c.args.nodes - c.expanded.result in
    let inv = c.turns.invariant in
    let old = c.turns.front in
    let new = c.turn.new.self in
    let bound = c.look-bound.result in
    let margin = c.in-Found.margin in
    let v = c.turns.seat.view in
    let w = c.post.new.seat.view in
    let t = (goal.at.turns-preserved-in-Found g c).In_ok-turn in
    let turn = turned g t in
    let low = c.look-bound.ensures.least in
    let f = after_found bag left old new c.in_ok-turn.field-0 c.in-Found.order margin c.in-Found.is turn in
    let is = posted_view bound c.post.result v c.look-bound.new.seat.view w c.look-bound.ensures.view margin c.post.ensures.view in
    let seen = ap (λ (u : View). u.seen) is in
    let posted = ap (λ (u : View). u.posted) is in
    let looks = ap (λ (u : View). u.looks) is in
    let under_bound = c.in_ok-turn.ensures.bound in
    let lowered : w.seen < v.seen = omega (arith, seen, c.post.ensures.least.0, f.1, under_bound, low.1) in
    let newest : w.posted ≡ margin = omega (arith, posted, f.1, under_bound, low.1, inv.between) in
    let more = expanded_le bag bound old new (under_front bag first old inv.under) (grown g t) in
    record {
      of_race = c.post.ensures.race;
      under = below g t;
      piece = c.in_ok-turn.ensures.piece ∙ inv.piece;
      falls = omega (arith, seen, c.post.ensures.least.0, f.1);
      least = omega (arith, seen, c.post.ensures.least.0, f.2, lowered, inv.least);
      taken = ap (λ (u : View). u.taken) is ∙ inv.taken;
      closed = ap (λ (u : View). u.closed) is ∙ inv.closed;
      ends = ap (λ (u : View). u.ends) is ∙ inv.ends;
      looked = omega (arith, looks, inv.looked);
      lower = omega (arith, lowered, inv.lower);
      between = omega (arith, seen, posted, c.post.ensures.least.0, lowered, inv.between);
      newest = (
        subst (λ (p : Suffix). IsFound bag p.list c.in-Found.order margin) inv.piece f.0,
        sym newest,
        omega (arith, newest, f.1, under_bound, low.1, inv.lower, c.requires.holds.seen),
      );
      within = omega (arith, c.in_ok-turn.ensures.within, inv.within, c.expanded.ensures);
      paced = omega (arith, c.in_ok-turn.ensures.most, inv.paced);
      few_looks = omega (arith, lowered, inv.few_looks, more);
      same = c.in_ok-turn.ensures.same ∙ inv.same;
    }

pub turns-preserved : goal.turns-preserved
turns-preserved g c =
    let bag = c.args.tallies.now.bag in
    let first = c.args.race.now.terms.first in
    let tail = c.args.tail.now in
    let left = c.args.nodes - c.expanded.result in
    let inv = c.turns.invariant in
    let old = c.turns.front in
    let new = c.turn.new.self in
    let bound = c.look-bound.result in
    let t = (goal.at.turns-preserved g c).In_ok-turn in
    let turn = turned g t in
    let low = c.look-bound.ensures.least in
    let m = after_more bag left old new c.in_ok-turn.field-0 c.in-More.is turn in
    let is = c.look-bound.ensures.view in
    let seen = ap (λ (u : View). u.seen) is in
    let posted = ap (λ (u : View). u.posted) is in
    let looks = ap (λ (u : View). u.looks) is in
    record {
      of_race = c.look-bound.ensures.race;
      under = below g t;
      piece = c.in_ok-turn.ensures.piece ∙ inv.piece;
      falls = omega (arith, seen, c.in_ok-turn.ensures.bound);
      least = omega (arith, seen, m.0, low.1, inv.least);
      taken = ap (λ (u : View). u.taken) is ∙ inv.taken;
      closed = ap (λ (u : View). u.closed) is ∙ inv.closed;
      ends = ap (λ (u : View). u.ends) is ∙ inv.ends;
      looked = omega (arith, looks, inv.looked);
      lower = omega (arith, seen, low.1, inv.lower);
      between = omega (arith, seen, posted, low.1, inv.between);
      newest = subst (λ p. IsNewest bag tail.list c.args.seat.now.view.posted p c.turns.found) (sym posted) inv.newest;
      within = omega (arith, c.in_ok-turn.ensures.within, inv.within, c.expanded.ensures);
      paced = omega (arith, c.in_ok-turn.ensures.most, inv.paced);
      few_looks = omega (arith, seen, low.1, inv.few_looks, m.1);
      same = c.in_ok-turn.ensures.same ∙ inv.same;
    }

pub returns-in-Spent-clause-searched : goal.returns-in-Spent-clause-searched
returns-in-Spent-clause-searched g c =
    let bag = c.args.tallies.now.bag in
    let first = c.args.race.now.terms.first in
    let tail = c.args.tail.now in
    let left = c.args.nodes - c.expanded.result in
    let inv = c.turns.invariant in
    let old = c.turns.front in
    let new = c.turn.new.self in
    let bound = c.look-bound.result in
    let t = (goal.at.returns-in-Spent-clause-searched g c).In_ok-turn in
    let turn = turned g t in
    let of_tail : new.piece ≡ tail = c.in_ok-turn.ensures.piece ∙ inv.piece in
    let list : new.piece.list ≡ tail.list = ap (λ (s : Suffix). s.list) of_tail in
    let proper = suffix g t in
    let proper_new : is_suffix bag.n new.piece.list ≡ true = ap (is_suffix bag.n) list ∙ proper in
    let low = c.look-bound.ensures.least in
    let under = below g t in
    let expanded = c.expanded-in-Spent.ensures in
    let is = c.look-bound.ensures.view in
    let seen = ap (λ (u : View). u.seen) is in
    let posted = ap (λ (u : View). u.posted) is in
    let looks = ap (λ (u : View). u.looks) is in
    let spent : IsOverBudget bag first c.args.nodes new.piece.list =
    after_spent bag left c.args.nodes first old new c.in_ok-turn.field-0 c.in-Spent.is turn under proper_new
    (omega (arith, c.in_ok-turn.ensures.bound, low.0)) (omega (arith, c.in_ok-turn.ensures.bound, low.1, inv.least))
    (omega (arith, inv.within, c.expanded.ensures)) in
    record {
      taken = ap (λ (u : View). u.taken) is ∙ inv.taken;
      ends = ap (λ (u : View). u.ends) is ∙ inv.ends;
      closed = ap (λ (u : View). u.closed) is ∙ inv.closed;
      looks = omega (arith, looks, inv.looked);
      falls = omega (arith, seen, low.1, inv.lower);
      between = omega (arith, seen, low.1, inv.between, posted);
      found = subst (λ p. IsNewest bag tail.list c.args.seat.now.view.posted p c.turns.found) (sym posted) inv.newest;
      within = omega (arith, expanded, c.in_ok-turn.ensures.within, inv.within, c.expanded.ensures);
      paced = omega (arith, expanded, c.in_ok-turn.ensures.most, inv.paced);
      few_looks = omega (arith, seen, low.1, inv.few_looks, inv.within);
      most = subst (λ k. IsInWork bag first tail.list k) (sym expanded) (subst (λ p. IsInWork bag first p new.expanded) list (under_most bag first new under));
      searched = λ e. cc;
      over = λ e searched. subst (IsOverBudget bag first c.args.nodes) list spent;
    }
