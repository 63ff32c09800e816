use Rattle.std.proofs.Common.{◌≡◌, length, arith}
use Rattle.irv_base.specs.Candidates.{members}
use Rattle.irv_tabulator.proofs.Leasts.{got-has, lowest-first, lowest-next, lowest-other, lowest-whole}
use Rattle.irv_tabulator.proofs.least.lowest.Goals as goal
use Rattle.irv_tabulator.proofs.least.lowest.Goals.{then-votes, else-votes}

pub loop-i-init : goal.loop-i-init
loop-i-init c = record {
  remains = got-has c.args.remaining 0 c.nth-lowest.result c.nth-lowest.ensures;
  least = lowest-first c.args.row.now c.args.remaining c.nth-lowest.result c.nth-lowest.ensures;
}

pub votes-requires : goal.votes-requires
votes-requires c = c.requires.within c.nth-c.result (got-has c.args.remaining c.loop-i.i c.nth-c.result c.nth-c.ensures)

pub loop-i-preserved : goal.loop-i-preserved
loop-i-preserved c =
    elim c.if-votes.branch [
      | then-votes w ↦ rw w.lowest-is (record {
        remains = got-has c.args.remaining c.loop-i.i c.nth-c.result c.nth-c.ensures;
        least = lowest-next c.args.row.now c.args.remaining c.loop-i.i c.loop-i.lowest c.nth-c.result c.nth-c.ensures
            (omega (arith, w.if-votes.true, c.votes.ensures, c.votes-in-loop-i.ensures)) c.loop-i.invariant.least;
      })
      | else-votes w ↦ rw w.lowest-is (record {
        remains = c.loop-i.invariant.remains;
        least = lowest-other c.args.row.now c.args.remaining c.loop-i.i c.loop-i.lowest c.nth-c.result c.nth-c.ensures
            (omega (arith, w.if-votes.false, c.votes.ensures, c.votes-in-loop-i.ensures)) c.loop-i.invariant.least;
      })
    ]

pub returns-clause-first : goal.returns-clause-first
returns-clause-first c =
    let all : c.loop-i.i ≡ length (members c.args.remaining) = omega (arith, c.loop-i-test.false, c.loop-i.auto.i-end, c.len-i-end.ensures, c.requires.some) in
    lowest-whole c.args.row.now c.args.remaining c.loop-i.lowest (λ d h. let l = c.requires.within d h in
    omega (arith, l, c.requires.room)) (rw all at c.loop-i.invariant.least)
