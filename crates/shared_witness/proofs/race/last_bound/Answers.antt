use Rattle.std.proofs.Common.{arith}
use Rattle.shared_witness.proofs.Ends.{last_is, last_seen, last_taken}
use Rattle.shared_witness.proofs.race.last_bound.Goals as goal

pub overflow_cast-result : goal.overflow_cast-result
overflow_cast-result c =
    let f = c.close_with-closed.ensures.values.2 in
    let is = last_is c.args.words.shared.key f.0 _ c.args.all.id c.args.all.me.0 c.word-bound.result f.1.0 f.1.1 f.2 c.word-bound.ensures c.requires.share in
    omega (arith, is, c.requires.words.fits.1)

pub returns-clause-bound : goal.returns-clause-bound
returns-clause-bound c = let f = c.close_with-closed.ensures.values.2 in
    last_is c.args.words.shared.key f.0 _ c.args.all.id c.args.all.me.0 c.word-bound.result f.1.0 f.1.1 f.2 c.word-bound.ensures c.requires.share

pub returns-clause-seen : goal.returns-clause-seen
returns-clause-seen c = let f = c.close_with-closed.ensures.values.2 in
    last_seen c.args.words.shared.key f.0 _ c.args.all.id c.args.all.me.0 c.word-bound.result f.1.0 f.1.1 f.2 c.word-bound.ensures c.requires.share

pub returns-clause-taken : goal.returns-clause-taken
returns-clause-taken c = let f = c.close_with-closed.ensures.values.2 in
    last_taken c.args.words.shared.key f.0 _ c.args.all.id c.args.all.me.0 c.word-bound.result f.1.0 f.1.1 f.2 c.word-bound.ensures c.requires.share
