use Rattle.std.proofs.Common.{◌≡◌, length, map, take}
use Rattle.audit_session.specs.Going.{all_seen, drawn_at, drawn_cards}
use Rattle.audit_session.proofs.drawn.drawn_cards.Given as goal

abbrev pub invariant-loop-i : goal.invariant-loop-i
invariant-loop-i l =
    l.all.items ≡ take l.i (map (drawn_at l.l (all_seen l.fn.seen (length l.l))) (drawn_cards l.seed (length l.l) l.draws))
