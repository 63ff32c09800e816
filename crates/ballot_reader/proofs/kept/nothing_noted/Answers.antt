use Rattle.std.proofs.Common.{[], sym, subst, arith}
use Rattle.std.specs.Prelude.{All}
use Rattle.std.proofs.lemmas.List.Elements.{All-push}
use Rattle.ballot_ids.specs.Noted.{AreNoted}
use Rattle.ballot_reader.proofs.kept.nothing_noted.Goals as goal

pub loop-alloc-preserved : goal.loop-alloc-preserved
loop-alloc-preserved c =
    let (few, none) = c.loop-alloc.invariant in (
      omega (arith, c.loop-alloc-test.true, c.len.ensures, c.in_ok-push.ensures.len, few),
      subst (All (AreNoted [])) (sym c.in_ok-push.ensures.items) (All-push (AreNoted []) c.loop-alloc.sets.items c.nothing.result none c.nothing.ensures),
    )
