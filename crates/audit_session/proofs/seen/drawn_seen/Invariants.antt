use Rattle.std.proofs.Common.{◌≡◌, ◌+◌, ◌-◌, map, not}
use Rattle.std.specs.Prelude.{find, is_some}
use Rattle.std.specs.List.{range_with_len}
use Rattle.sampler.specs.Draws.{drawn_card}
use Rattle.seen_file.specs.Seen.{seen_in}
use Rattle.audit_session.specs.Going.{all_seen, drawn_cards, seen_card}
use Rattle.audit_session.proofs.seen.drawn_seen.Given as goal

abbrev pub invariant-loop-i : goal.invariant-loop-i
invariant-loop-i l = record {
  cards : l.all.items ≡ map (seen_card (all_seen l.seen l.cards)) (drawn_cards l.seed l.cards l.i);
  left : find (λ k. not (is_some (seen_in l.seen (drawn_card l.seed k l.cards)))) (range_with_len 1 l.draws)
      ≡ find (λ k. not (is_some (seen_in l.seen (drawn_card l.seed k l.cards)))) (range_with_len (1 + l.i) (l.draws - l.i));
}
