use Rattle.std.proofs.Common.{◌≡◌, true, Result, Ok, Err, sym, subst, ◌∙◌}
use Rattle.std.specs.Result.{OnOk}
use Rattle.std.proofs.lemmas.Bool.{both_ways}
use Rattle.irv_base.specs.Candidates.{has}
use Rattle.fewest.specs.Flows.{HasOneMore}
use Rattle.set_flow.specs.Kept.{carried}
use Rattle.set_flow.proofs.Turning.{without-less}
use Rattle.set_flow.proofs.rising.undo.Goals as goal

on_ok : {T E P Q : Type 0} (r : Result T E) → (P → Q) → OnOk r P → OnOk r Q
on_ok (Ok x) f h = f h
on_ok (Err e) f h = h

pub returns-then-has : goal.returns-then-has
returns-then-has c =
    let t : has c.args.set c.args.c ≡ true = sym c.has.ensures ∙ c.if-has.true in
    on_ok c.put.result
    (λ (one : HasOneMore (carried c.args.flow.now.kept) (carried c.put.new.self.kept) c.without.result c.args.c). record {
      on = λ _. subst (λ s. HasOneMore (carried c.args.flow.now.kept) (carried c.put.new.self.kept) s c.args.c)
          (without-less c.args.set c.args.c c.without.result t c.without.ensures) one;
      back = λ f _. absurd (both_ways (has c.args.set c.args.c) f t);
    })
    c.put.ensures
