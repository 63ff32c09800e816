use Rattle.std.proofs.Common.{◌≡◌, ◌∙◌, ◌++◌, false, List, Option, Some, None, refl, sym, subst}
use Rattle.std.specs.Prelude.{is_some, option_copied}
use Rattle.csv_rows.specs.Rows.{Fields}
use Rattle.ballot_reader.specs.Stages.{HasReached, HoldsLittle, LacksContests}
use Rattle.ballot_reader.proofs.Staged.{held-none}
use Rattle.ballot_reader.proofs.stage.Stage.after.Goals as goal

absent : {X : Type 0} (o : Option X) → ((x : X) → o ≡ Some x → ⊥) → is_some o ≡ false
absent None h = refl
absent (Some x) h = absurd (h x refl)

pub returns-then-waits-clause-held : goal.returns-then-waits-clause-held
returns-then-waits-clause-held g c = λ unread. c.waits.ensures c.if-waits.true (option_copied c.args.asked)

pub returns-in_default-clause-held : goal.returns-in_default-clause-held
returns-in_default-clause-held g c = λ unread.
    held-none (option_copied c.args.asked) c.args.holds c.args.pieces.now.lines
    (sym c.lines.ensures.told ∙ absent c.lines.result c.in_default.not-Some) c.args.self

pub returns-in-Some-2-clause-read : goal.returns-in-Some-2-clause-read
returns-in-Some-2-clause-read g c = λ read rows reached.
    let asked = option_copied c.args.asked in
    let there = rw c.in-Some-2.is at c.in_ok-stage.ensures.read in
    subst (λ (l : List Fields). HasReached asked (rows ++ l) c.in-Some-2.stage) c.in-Some.ensures.records (there rows reached)

pub returns-in-None-clause-held : goal.returns-in-None-clause-held
returns-in-None-clause-held g c = λ unread.
    let asked = option_copied c.args.asked in
    let (contests, lacks) = rw c.in-None.is at c.in_ok-stage.ensures.none in
    subst (HoldsLittle asked c.args.holds c.args.pieces.now.lines) (sym contests)
    (λ readable few. subst (LacksContests asked) c.in-Some.ensures.records lacks)
