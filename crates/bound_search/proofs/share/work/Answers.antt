-- Either a take finds no piece, and the worker is done; or it finds one, which is searched and noted.
use Rattle.std.proofs.Common.{◌≡◌, ◌≤◌, ◌<◌, ◌+◌, ◌*◌, ◌++◌, ◌∷◌, [], ℕ, List, All, Some, slice_get, sum_by, length, vec_len, map, sym, ap, subst, arith, false, not, ◌==◌, ◌∙◌}
use Rattle.std.proofs.lemmas.Option.{slice_get_read}
use Rattle.std.proofs.lemmas.List.{map_push, length_push}
use Rattle.std.proofs.lemmas.List.Elements.{All-push, All-same}
use Rattle.shared_witness.specs.declared.view.View.{View}
use Rattle.shared_witness.specs.Moment.{times}
use Rattle.bound_search.specs.Reached.{AreLeftOpen, IsPieceSearched, IsEntry, IsDoneWith, IsBestFound}
use Rattle.bound_search.specs.declared.ends.PieceEnd.{PieceEnd}
use Rattle.bound_search.specs.declared.limits.TheConstants.{MOST_EXPANDED}
use Rattle.bound_search.proofs.Racing.{over}
use Rattle.bound_search.proofs.Views.{took_piece, took_none}
use Rattle.bound_search.proofs.Sharing.{once_more, taken_now, left_now, entry_now, done_now, costly_now, paced_now, found_now, high_now, contains_got, none_skipped, open_now}
use Rattle.bound_search.proofs.share.work.Goals as goal

pub returns-then-piece-tails-clause-end : goal.returns-then-piece-tails-clause-end
returns-then-piece-tails-clause-end g c =
    let v = c.loop-turn.seat.view in
    let inv = c.loop-turn.invariant in
    let tails = c.args.tails.now in
    let pieces = c.args.race.now.terms.pieces in
    let past : pieces ≤ c.take-piece.result = omega (arith, c.if-piece-tails.true, c.requires.pieces) in
    let is = took_none pieces c.take-piece.result v c.take-piece.new.seat.view past c.take-piece.ensures.view in
    let ends = ap (λ (u : View). u.ends) is in
    record {
      done = omega (arith, ends, inv.going);
      looks = inv.looked ∙ sym (ap (λ (u : View). u.looks) is);
      took = inv.took ∙ sym (ap (λ (u : View). u.taken) is);
      few = subst (λ (u : View). length u.taken ≤ length tails) (sym is) inv.few;
      once = subst (λ (u : View). (p : ℕ) → times u.taken p ≤ 1) (sym is) inv.once;
      spent = subst (λ (u : View). (p : ℕ) → times u.taken p ≡ times u.closed p + times (c.loop-turn.spent.items ++ c.loop-turn.skipped.items) p) (sym is)
          inv.left;
      entries = inv.entries;
      done_with = subst (λ (u : View). All (IsDoneWith c.args.tallies.now.bag u (c.loop-turn.spent.items ++ c.loop-turn.skipped.items))
          c.loop-turn.ends.items) (sym is) inv.done_with;
      costly = inv.costly;
      unclosed = inv.unclosed;
      paced = inv.paced;
      best = subst (λ (u : View). IsBestFound c.args.tallies.now.bag tails u.posted c.loop-turn.best) (sym is) inv.found;
    }

pub note-requires : goal.note-requires
note-requires g c = record { cause = none_skipped c.loop-turn.ends.items c.loop-turn.spent.items c.loop-turn.skipped.items c.loop-turn.invariant.unclosed }

pub loop-turn-preserved : goal.loop-turn-preserved
loop-turn-preserved g c =
    let bag = c.args.tallies.now.bag in
    let first = c.args.race.now.terms.first in
    let nodes = c.args.nodes in
    let worker = c.args.worker in
    let tails = c.args.tails.now in
    let inv = c.loop-turn.invariant in
    let pieces = c.args.race.now.terms.pieces in
    let piece = c.take-piece.result in
    let tail = c.index-tails-piece.result in
    let v = c.loop-turn.seat.view in
    let t = c.take-piece.new.seat.view in
    let w = c.search_or_skip.new.seat.view in
    let s = c.in_ok-searched.searched in
    let spent = c.loop-turn.spent.items ++ c.loop-turn.skipped.items in
    let noted = c.note.new.spent.items ++ c.note.new.skipped.items in
    let skipped = not c.is_empty-is_spent.result in
    let none_skipped : c.loop-turn.spent.items ≡ [] → skipped ≡ false = λ none.
    let empty : vec_len c.loop-turn.spent ≡ 0 = omega (arith, ap length none) in
    ap not (c.is_empty-is_spent.ensures ∙ ap (λ n. n == 0) empty) in
    let some_spent = λ (number : ℕ) (rest : List ℕ) (some : c.loop-turn.spent.items ≡ number ∷ rest).
    let full : (vec_len c.loop-turn.spent == 0) ≡ false = grind (arith, ap length some, c.loop-turn.spent.ok) in
    ap not (c.is_empty-is_spent.ensures ∙ full) in
    let left : piece < pieces = omega (arith, c.take-piece.ensures.most, c.if-piece-tails.false, c.requires.pieces) in
    let take = took_piece pieces piece v t left c.take-piece.ensures.view in
    let inside : slice_get tails piece ≡ Some tail = slice_get_read tails pieces piece tail c.requires.pieces left c.index-tails-piece.is in
    let did : IsPieceSearched bag first nodes piece tail.list skipped t w s =
    over (λ b. IsPieceSearched b first nodes piece tail.list skipped t w s) inv.same c.in_ok-searched.ensures.searched in
    let notes = c.in_ok-note.ensures.left in
    let taken = taken_now bag first nodes worker tails piece tail v t w spent noted s inside take skipped did notes in
    let entry : PieceEnd = record { piece = piece; tail = tail; worker = worker; expanded = s.expanded } in
    let items = c.in_ok-push.ensures.items in
    let ends = c.loop-turn.ends.items in
    let looked = ap (λ (u : View). u.looks) take in
    let looks = did.looks in
    record {
      of_race = c.in_ok-searched.ensures.race;
      going = did.ends ∙ ap (λ (u : View). u.ends) take ∙ inv.going;
      turn = ap length taken ∙ length_push v.taken piece ∙ ap (λ n. n + 1) inv.turn;
      few = omega (arith, ap length did.taken, c.take-piece.ensures.few, c.requires.pieces);
      looked = omega (arith, looks, looked, inv.looked);
      few_looks = omega (arith, inv.few_looks, did.few_looks, ap (λ (u : View). u.seen) take, inv.between, inv.high);
      took = ap (map (λ (p : PieceEnd). p.piece)) items ∙ map_push (λ (p : PieceEnd). p.piece) ends entry ∙ ap (λ xs. xs ++ piece ∷ []) inv.took ∙ sym taken;
      once = subst (λ (xs : List ℕ). (p : ℕ) → times xs p ≤ 1) (sym taken) (once_more v.taken piece inv.once (c.take-piece.ensures.fresh left));
      left = left_now bag first nodes worker tails piece tail v t w spent noted s inside take skipped did notes inv.left;
      entries = All-same (IsEntry bag first nodes worker tails) _ _ items
          (All-push (IsEntry bag first nodes worker tails) ends entry inv.entries
          (entry_now bag first nodes worker tails piece tail v t w spent noted s inside take skipped did notes));
      done_with = All-same (IsDoneWith bag w noted) _ _ items
          (done_now bag first nodes worker tails piece tail v t w spent noted s inside take skipped did notes ends inv.done_with);
      costly = costly_now bag first nodes worker tails piece tail v t w spent noted s inside take skipped did notes c.loop-turn.spent.items
          c.note.new.spent.items none_skipped c.in_ok-note.ensures.spent inv.costly;
      unclosed = subst (λ (xs : List PieceEnd). AreLeftOpen xs c.note.new.spent.items c.note.new.skipped.items) (sym items)
          (open_now bag first nodes worker tails piece tail v t w spent noted s inside take skipped did notes ends c.loop-turn.spent.items
          c.note.new.spent.items c.loop-turn.skipped.items c.note.new.skipped.items inv.unclosed some_spent c.in_ok-searched.ensures.idle
          c.in_ok-note.ensures.spent c.in_ok-note.ensures.skipped);
      paced = subst (λ (xs : List PieceEnd). sum_by (λ p. p.expanded) xs ≤ MOST_EXPANDED * (c.loop-turn.looks + s.looks)) (sym items)
          (paced_now bag first nodes worker tails piece tail v t w spent noted s inside take skipped did notes ends c.loop-turn.looks inv.paced);
      between = did.between;
      high = high_now bag first nodes worker tails piece tail v t w spent noted s inside take skipped did notes did.found inv.high;
      found = found_now bag first nodes worker tails piece tail v t w spent noted s inside take skipped did notes (contains_got tails piece tail inside)
          c.loop-turn.best inv.high inv.found _ c.or-best.ensures;
      same = c.in_ok-searched.ensures.same ∙ inv.same;
    }
