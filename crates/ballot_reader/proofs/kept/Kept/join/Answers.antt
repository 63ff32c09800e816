use Rattle.std.proofs.Common.{◌+◌, refl, sym, subst, subst₂}
use Rattle.ballot_reader.specs.Kept.{IsKeptUpTo, KeptBallots}
use Rattle.ballot_reader.specs.Parts.{CanJoin, IsReadAlone, IsReadBehind}
use Rattle.ballot_reader.specs.declared.wanted.Wanted.TheVariants.{VotesOf}
use Rattle.ballot_reader.proofs.PutBehind.{kept-behind}
use Rattle.ballot_reader.proofs.kept.Kept.join.Goals as goal

pub returns : goal.returns
returns c = λ contests audited earlier at rows before alone.
    let old = subst (IsKeptUpTo contests (VotesOf audited) earlier at) (sym c.self.view_is) before in
    let its = subst (IsReadAlone contests (VotesOf audited) rows) (sym c.part.view_is) alone in
    let can = subst₂ CanJoin (sym c.self.view_is) (sym c.part.view_is) c.requires in
    let new : KeptBallots = record {
      met = c.join_all.new.sets.items;
      parts = c.put_all.new.parts.items;
      count = c.self.inside.count + c.part.inside.count;
    } in
    subst (λ (part : KeptBallots). IsReadBehind contests (VotesOf audited) earlier at rows (at + part.count) new) c.part.view_is
    (kept-behind contests audited earlier at rows _ _ new can (rw c.deref.ensures.value at c.in_ok-join_all.ensures)
    (rw c.deref-2.ensures.value at c.in_ok-put_all.ensures) refl old its)
