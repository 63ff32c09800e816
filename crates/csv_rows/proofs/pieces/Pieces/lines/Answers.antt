use Rattle.std.proofs.Common.{◌≡◌, ◌≤◌, ◌∙◌, ◌==◌, length, sym, ap, subst, arith}
use Rattle.std.specs.Prelude.{IfSome, true}
use Rattle.std.proofs.lemmas.Bool.{false≢true}
use Rattle.std.proofs.lemmas.List.{take_all}
use Rattle.csv_rows.specs.Fields.{without_mark}
use Rattle.csv_rows.specs.Lines.{is_plain}
use Rattle.csv_rows.specs.Pieces.{AtHand, StandApart}
use Rattle.csv_rows.proofs.Passing.{apart, plain-unmarked, some-apart}
use Rattle.csv_rows.proofs.pieces.Pieces.lines.Goals as goal

pub returns-then-self-len-clause-apart : goal.returns-then-self-len-clause-apart
returns-then-self-len-clause-apart c =
    let lines = c.self.inside.lines.items in
    let unmarked : c.without_mark-lines.result.now ≡ without_mark lines = c.without_mark-lines.ensures ∙ ap without_mark c.deref.ensures.value in
    let long : 3 ≤ length lines = omega (arith, c.if-len-lt3.false, c.len.ensures) in
    let some : length (without_mark lines) == 0 ≡ true → ⊥ = λ none.
    false≢true (sym c.if-is_empty.false ∙ c.is_empty.ensures ∙ ap (λ l. length l == 0) unmarked ∙ none) in
    let all : c.self.inside.plain ≡ length lines = omega (arith, c.if-self-len.true, c.len-2.ensures) in
    let plain : is_plain lines ≡ true = ap is_plain (sym (take_all c.self.inside.plain lines (omega (arith, all)))) ∙ c.self.invariant.1 in
    subst (λ (at_hand : AtHand). StandApart at_hand.lines) c.self.view_is (apart lines long (plain-unmarked lines plain) some)

pub returns-clause-apart : goal.returns-clause-apart
returns-clause-apart c =
    let lines = c.self.inside.lines.items in
    let unmarked : c.without_mark-lines.result.now ≡ without_mark lines = c.without_mark-lines.ensures ∙ ap without_mark c.deref.ensures.value in
    let long : 3 ≤ length lines = omega (arith, c.if-len-lt3.false, c.len.ensures) in
    let some : length (without_mark lines) == 0 ≡ true → ⊥ = λ none.
    false≢true (sym c.if-is_empty.false ∙ c.is_empty.ensures ∙ ap (λ l. length l == 0) unmarked ∙ none) in
    subst (λ (at_hand : AtHand). IfSome c.of.result (λ _. StandApart at_hand.lines)) c.self.view_is
    (some-apart c.of.result lines long (c.of.ensures.plain ∙ ap is_plain unmarked) some)
