use Rattle.std.proofs.Common.{rules}
use Rattle.desk.proofs.Pieces.{one_piece_more}
use Rattle.desk.proofs.whole.read_begun.Goals as goal

pub loop-count-preserved : goal.loop-count-preserved
loop-count-preserved g c = record {
  begun = search rules;
  held = search rules;
  unfailed = search rules;
  taken = one_piece_more g.T.Taker.sought g.T.Taker.has_taken _ _ _ _ _ _ _ _ _ _ c.loop-count.invariant.taken c.in_ok-count.ensures.bytes (search rules) (search rules) c.in_ok-take.ensures.taken;
  ready = c.in_ok-take.ensures.ready;
  begins = search rules;
  misses = search rules;
  all = search rules;
  longest = search rules;
  over = search rules;
}
