use Rattle.std.proofs.Common.{Some, None, sym, ap, subst, ◌∙◌}
use Rattle.assertions.specs.Steps.{more}
use Rattle.set_flow.proofs.Rooms.{closed-is, one-is, many-is}
use Rattle.nen_cut.specs.Floors.{IsCutter}
use Rattle.nen_cut.proofs.Cutting.{cuttable-where, not_cuttable-where}
use Rattle.nen_cut.proofs.by_tallies.ByTalliesSteps.room.Goals as goal

pub returns-then-not-stands-clause-room : goal.returns-then-not-stands-clause-room
returns-then-not-stands-clause-room c = λ rooms (records, of, same).
    let s = c.args.self.now in
    sym (ap (λ r. r c.args.set c.args.c) same
    ∙ closed-is s.tallies.bag.n s.winner records s.least c.args.set c.args.c (sym (c.stands.ensures records of) ∙ c.if-not-stands.true))

pub returns-in-Some-clause-room : goal.returns-in-Some-clause-room
returns-in-Some-clause-room c = λ rooms (records, of, same).
    let s = c.args.self.now in
    let n = s.tallies.bag.n in
    let cutter : IsCutter n records s.least c.args.c (more c.args.set c.args.c) (Some c.in-Some.field-0) =
    subst (IsCutter n records s.least c.args.c (more c.args.set c.args.c)) c.in-Some.is (c.in_ok-cutter.ensures.cutter records of) in
    sym (ap (λ r. r c.args.set c.args.c) same
    ∙ one-is n s.winner records s.least c.args.set c.args.c (sym (c.stands.ensures records of) ∙ c.if-not-stands.false)
    (cuttable-where n records s.least c.args.set c.args.c c.in-Some.field-0.loser c.in-Some.field-0.margin cutter))

pub returns-in-None-clause-room : goal.returns-in-None-clause-room
returns-in-None-clause-room c = λ rooms (records, of, same).
    let s = c.args.self.now in
    let n = s.tallies.bag.n in
    let none : IsCutter n records s.least c.args.c (more c.args.set c.args.c) None =
    subst (IsCutter n records s.least c.args.c (more c.args.set c.args.c)) c.in-None.is (c.in_ok-cutter.ensures.cutter records of) in
    sym (ap (λ r. r c.args.set c.args.c) same
    ∙ many-is n s.winner records s.least c.args.set c.args.c (sym (c.stands.ensures records of) ∙ c.if-not-stands.false)
    (not_cuttable-where n records s.least c.args.set c.args.c none))
