use Rattle.std.proofs.Common.{◌≡◌, ◌∙◌, ◌*◌, length, sym, ap, arith}
use Rattle.set_tallies.specs.Befores.{has_missed}
use Rattle.set_tallies.specs.Sums.{column, apart}
use Rattle.set_tallies.proofs.Sharing.{counted-more}
use Rattle.set_tallies.proofs.Tables.{all-written}
use Rattle.set_tallies.proofs.shares.share_of.Goals as goal

pub loop-k-preserved : goal.loop-k-preserved
loop-k-preserved c =
    let n = c.args.n in
    let table = c.loop-k.table in
    let new = c.count.new.table in
    let long : length new ≡ table.len = c.count.ensures.long ∙ sym c.loop-k.invariant.long ∙ sym table.ok.0 in
    rw (all-written table.len new table.items long) (record {
      long = c.count.ensures.long;
      counted = λ s d l.
          omega (
            arith,
            c.count.ensures.more s d l,
            ap (λ t. apart s (column n n t d)) c.deref_mut.ensures.value,
            c.loop-k.invariant.counted s d l,
            counted-more (has_missed s d) c.args.rankings.now (c.args.i * c.args.size) c.loop-k.k c.at.result.now c.at.ensures.there,
          );
    })
