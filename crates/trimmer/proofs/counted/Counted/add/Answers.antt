use Rattle.std.proofs.Common.{◌≡◌, ◌+◌, ◌++◌, Some, cond, subst, arith}
use Rattle.std.specs.BTreeMap.{get}
use Rattle.std.specs.Ordering.{is_eq}
use Rattle.assertions.specs.FixedOrder.{fixed_order}
use Rattle.cover_checker.proofs.Indexing.{both-ok}
use Rattle.trimmer.specs.Counted.{count_in}
use Rattle.trimmer.specs.declared.counted.Counted.{Counted}
use Rattle.trimmer.proofs.Counting.{added-times, times-le}
use Rattle.trimmer.proofs.counted.Counted.add.Goals as goal

pub returns : goal.returns
returns c = λ before after few h.
    let a = c.args.a.now in
    let old = c.args.self.now in
    let was = c.times.ensures in
    let there = h.times_are a in
    let le = times-le a (before ++ after) in
    let more : c.saturating_add-times.result ≡ count_in old a + 1 = omega (arith, c.saturating_add-times.ensures, was, there, le, few) in
    let new : Counted = record { refuting = c.add.new.self; times = c.insert.new.self } in
    let index = c.add.ensures before after h.index in
    both-ok c.add.result index index
    (λ index _. record {
      times_are = added-times a old new c.saturating_add-times.result
          (λ other. subst (λ key. get fixed_order c.insert.new.self other
          ≡ cond (is_eq (fixed_order key other)) (Some c.saturating_add-times.result) (get fixed_order old.times other)) c.alike.ensures
          (c.in_ok-insert.ensures.updates.0 other)) before after h.times_are more;
      index = index;
    })
