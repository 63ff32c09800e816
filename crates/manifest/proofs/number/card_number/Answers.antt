use Rattle.std.proofs.Common.{◌∙◌, length, sym, arith}
use Rattle.manifest.proofs.Numbers.{padded, empty, no_length, unread, too_many, written}
use Rattle.manifest.proofs.number.card_number.Goals as goal

pub returns-then-is_empty-clause-none : goal.returns-then-is_empty-clause-none
returns-then-is_empty-clause-none c = empty c.args.text.now (no_length (length c.args.text.now) (sym c.is_empty.ensures ∙ c.if-is_empty.true))

pub returns-then-text-eq48-clause-none : goal.returns-then-text-eq48-clause-none
returns-then-text-eq48-clause-none c = padded c.args.text.now (omega (arith, c.if-text-eq48.true))

pub returns-in_default-clause-none : goal.returns-in_default-clause-none
returns-in_default-clause-none c = unread c.args.text.now (sym c.in_default.ensures)

pub returns-then-k-from-clause-none : goal.returns-then-k-from-clause-none
returns-then-k-from-clause-none c = too_many c.args.text.now c.in-Some.k (sym c.in-Some.ensures) (omega (arith, c.if-k-from.true, c.from.ensures))

pub returns-clause-written : goal.returns-clause-written
returns-clause-written c = (written c.args.text.now c.in-Some.k (λ z. omega (arith, z, c.if-text-eq48.false)) (sym c.in-Some.ensures)).0

pub returns-clause-first : goal.returns-clause-first
returns-clause-first c = (written c.args.text.now c.in-Some.k (λ z. omega (arith, z, c.if-text-eq48.false)) (sym c.in-Some.ensures)).1
