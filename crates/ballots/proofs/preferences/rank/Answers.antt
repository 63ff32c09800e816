use Rattle.std.proofs.Common.{◌∙◌, sym}
use Rattle.ballots.proofs.Chosen.{last-again, last-blank, last-more, last-none}
use Rattle.ballots.proofs.preferences.rank.Goals as goal

pub loop-preference-init : goal.loop-preference-init
loop-preference-init g c = rw (c.empty-seen.ensures, c.into_iter-preference-iterator.ensures.into_iter_gives) (record {
  room = c.begin.ensures.room;
  last = last-none c.args.candidates.now c.args.preferences (g.T.RankingTaker.rankings c.args.rankings.now)
      (g.T.RankingTaker.rankings c.begin.new.self) c.in_ok-begin.ensures.begun;
})

pub loop-preference-preserved-then-is_empty : goal.loop-preference-preserved-then-is_empty
loop-preference-preserved-then-is_empty g c = record {
  room = c.loop-preference.invariant.room;
  last = last-blank c.args.candidates.now c.args.preferences (g.T.RankingTaker.rankings c.args.rankings.now)
      (g.T.RankingTaker.rankings c.loop-preference.rankings) c.loop-preference.seen c.in-Some.preference.now c.next.new.self
      (rw c.in-Some.ensures.steps at c.loop-preference.invariant.last) (sym c.is_empty.ensures ∙ c.if-is_empty.true);
}

pub loop-preference-preserved-then-not-has : goal.loop-preference-preserved-then-not-has
loop-preference-preserved-then-not-has g c = record {
  room = c.lengthen.ensures.room ∙ c.loop-preference.invariant.room;
  last = last-more c.args.candidates.now c.args.preferences (g.T.RankingTaker.rankings c.args.rankings.now) (g.T.RankingTaker.rankings c.loop-preference.rankings)
      (g.T.RankingTaker.rankings c.lengthen.new.self) c.loop-preference.seen
      c.with-seen.result c.in-Some.preference.now c.next.new.self c.in-Some-candidate_of.candidate
      (rw c.in-Some.ensures.steps at c.loop-preference.invariant.last) (sym c.is_empty.ensures ∙ c.if-is_empty.false) (sym c.in-Some-candidate_of.ensures)
      (sym c.has.ensures ∙ c.if-not-has.true) c.in_ok-lengthen.ensures.longer c.with-seen.ensures.members;
}

pub loop-preference-preserved : goal.loop-preference-preserved
loop-preference-preserved g c = record {
  room = c.loop-preference.invariant.room;
  last = last-again c.args.candidates.now c.args.preferences (g.T.RankingTaker.rankings c.args.rankings.now)
      (g.T.RankingTaker.rankings c.loop-preference.rankings) c.loop-preference.seen
      c.in-Some.preference.now c.next.new.self c.in-Some-candidate_of.candidate
      (rw c.in-Some.ensures.steps at c.loop-preference.invariant.last) (sym c.is_empty.ensures ∙ c.if-is_empty.false) (sym c.in-Some-candidate_of.ensures)
      (sym c.has.ensures ∙ c.if-not-has.false);
}
