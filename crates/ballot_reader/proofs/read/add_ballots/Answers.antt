use Rattle.std.proofs.Common.{◌∙◌, ◌++◌, ◌∷◌, [], length, refl, sym, ap, arith, length-append}
use Rattle.ballots.specs.Grammar.{ballot_of}
use Rattle.ballot_reader.proofs.Adding.{each_counts_own, keeps_audited, length-met, length-parts}
use Rattle.ballot_reader.proofs.Behind.{ballots-more}
use Rattle.ballot_reader.proofs.read.add_ballots.Goals as goal

pub records-init : goal.records-init
records-init c = λ wanted earlier before. (earlier, record { split = refl; up_to = before })

pub add-requires-clause-noted : goal.add-requires-clause-noted
add-requires-clause-noted c =
    let (wanted, earlier, before) = c.requires.kept in
    let (ballots, so_far) = c.records.invariant wanted earlier before in
    length-met ballots c.args.contests.now c.records.kept.met so_far.up_to.is_kept.noted

pub add-requires-clause-parted : goal.add-requires-clause-parted
add-requires-clause-parted c =
    let (wanted, earlier, before) = c.requires.kept in
    let (ballots, so_far) = c.records.invariant wanted earlier before in
    ap length so_far.up_to.is_kept.parted ∙ length-parts 0 wanted ballots c.args.contests.now

pub add-requires-clause-sized : goal.add-requires-clause-sized
add-requires-clause-sized c =
    let (wanted, earlier, before) = c.requires.kept in
    let (ballots, so_far) = c.records.invariant wanted earlier before in
    keeps_audited c.args.contests.now wanted ballots c.records.kept.parts so_far.up_to.sized so_far.up_to.is_kept.parted

pub add-requires-clause-own : goal.add-requires-clause-own
add-requires-clause-own c =
    let (wanted, earlier, before) = c.requires.kept in
    let (ballots, so_far) = c.records.invariant wanted earlier before in
    each_counts_own c.args.contests.now wanted ballots c.records.kept.parts so_far.up_to.is_kept.parted

pub records-preserved : goal.records-preserved
records-preserved c = λ wanted earlier before.
    let (ballots, so_far) = c.records.invariant wanted earlier before in
    let next = rw c.if-branch.true at c.in_ok-read.ensures in
    let (ballot, judged, kept) = c.in_ok-add.ensures.kept wanted ballots so_far.up_to.is_kept in (
      ballots ++ ballot ∷ [],
      record {
        split = ballots-more c.args.contests.now earlier c.args.first c.args.records.now.left ballots c.records.at c.read.new.self.row
            c.read.new.self.left ballot (rw next at so_far.split)
            (ap (ballot_of c.args.contests.now ballots c.records.at) (sym c.fields.ensures) ∙ judged);
        up_to = record {
          is_kept = kept;
          sized = so_far.up_to.sized;
          numbered = omega (arith, so_far.up_to.numbered, length-append ballots (ballot ∷ []));
        };
      },
    )
