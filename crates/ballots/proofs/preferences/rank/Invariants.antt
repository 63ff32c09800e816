use Rattle.std.proofs.Common.{◌≡◌}
use Rattle.ballots.proofs.Chosen.{IsLast}
use Rattle.ballots.proofs.preferences.rank.Given as goal

abbrev pub invariant-loop-preference : goal.invariant-loop-preference
invariant-loop-preference g l = record {
  room : g.T.RankingTaker.room l.rankings ≡ g.T.RankingTaker.room l.fn.rankings;
  last : IsLast l.candidates l.fn.preferences (g.T.RankingTaker.rankings l.fn.rankings) (g.T.RankingTaker.rankings l.rankings) l.seen l.preference-iterator;
}
