use Rattle.std.proofs.Common.{◌≡◌, ◌-◌, Some, cond, subst, arith}
use Rattle.std.specs.BTreeMap.{get}
use Rattle.std.specs.Ordering.{is_eq}
use Rattle.assertions.specs.FixedOrder.{fixed_order}
use Rattle.cover_checker.proofs.Indexing.{both-ok}
use Rattle.trimmer.specs.Counted.{count_in}
use Rattle.trimmer.specs.declared.counted.Counted.{Counted}
use Rattle.trimmer.proofs.Counting.{fewer-index, fewer-times, left-times}
use Rattle.trimmer.proofs.counted.Counted.forget.Goals as goal

pub returns : goal.returns
returns c = λ before after h.
    let a = c.args.a.now in
    let old = c.args.self.now in
    let number = c.saturating_sub-times.result in
    let less : number ≡ count_in old a - 1 = omega (arith, c.saturating_sub-times.ensures, c.times.ensures) in
    let new : Counted = record { refuting = c.put.new.self; times = c.insert.new.self } in
    both-ok c.put.result c.put.ensures.winners c.put.ensures.nens
    (λ winners nens. record {
      times_are = fewer-times a old new number
          (λ other. subst (λ key. get fixed_order c.insert.new.self other
          ≡ cond (is_eq (fixed_order key other)) (Some number) (get fixed_order old.times other)) c.alike.ensures
          (c.in_ok-insert.ensures.updates.0 other)) before after h.times_are less;
      index = fewer-index a before after number (left-times a before after number (count_in old a) (h.times_are a) less) old.refuting c.put.new.self winners nens
          h.index;
    })
