use Rattle.std.proofs.Common.{◌≡◌, drop, map}
use Rattle.std.specs.List.{list_all}
use Rattle.session_file.specs.Sound.{is_round, rises_above}
use Rattle.session_file.proofs.sound.are_rounds.Given as goal

abbrev pub invariant-loop-round : goal.invariant-loop-round
invariant-loop-round l = record {
  rising : rises_above 0 (map (λ round. round.draws) l.rounds) ≡ rises_above l.before (map (λ round. round.draws) (drop l.round-index l.rounds));
  sound : list_all (is_round l.cards l.gamma l.margins) l.rounds ≡ list_all (is_round l.cards l.gamma l.margins) (drop l.round-index l.rounds);
}
