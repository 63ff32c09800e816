use Rattle.std.proofs.Common.{inl, inr, replicate, subst, arith}
use Rattle.irv_base.specs.declared.limits.TheConstants.{ROOM}
use Rattle.trimmer.specs.Counts.{Scanned}
use Rattle.trimmer.specs.Remaining.{assertions_in}
use Rattle.trimmer.proofs.Trials.{filled-le, all-counts, never-stands, never-unclear}
use Rattle.trimmer.proofs.counts.counts_of.Goals as goal

pub scanned-requires-clause-within : goal.scanned-requires-clause-within
scanned-requires-clause-within c = λ at. let le = filled-le 0 at in omega (arith, le)

pub unreachable-requires : goal.unreachable-requires
unreachable-requires c =
    let w = c.args.claims.now in
    let list = assertions_in w.others.now in
    elim c.in-Stands.is [
      | inl stands ↦
          never-stands c.args.nodes w.n c.args.winner list w.claim c.requires.none c.requires.room c.requires.number c.requires.covered
          (subst (Scanned c.args.nodes w.n c.args.winner list w.claim (replicate ROOM 0)) stands c.scanned.ensures)
      | inr unclear ↦
          never-unclear c.args.nodes w.n c.args.winner list w.claim c.requires.none c.requires.room c.requires.number c.requires.covered
          (subst (Scanned c.args.nodes w.n c.args.winner list w.claim (replicate ROOM 0)) unclear c.scanned.ensures)
    ]

pub returns-clause-counts : goal.returns-clause-counts
returns-clause-counts c =
    let w = c.args.claims.now in
    all-counts c.args.nodes w.n c.args.winner (assertions_in w.others.now) w.claim c.requires.none c.requires.room c.in-Covered.counts c.in-Covered.ensures
