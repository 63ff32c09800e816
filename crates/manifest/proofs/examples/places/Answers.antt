use Rattle.std.proofs.Common.{refl, arith}
use Rattle.std.proofs.lemmas.Fmt.{decimal_digit}
use Rattle.manifest.proofs.examples.places.Goals as goal

pub returns-clause-first : goal.returns-clause-first
returns-clause-first c = rw (decimal_digit 1 (omega arith)) refl

pub returns-clause-last : goal.returns-clause-last
returns-clause-last c = rw (decimal_digit 1 (omega arith), decimal_digit 2 (omega arith)) refl

pub returns-clause-none : goal.returns-clause-none
returns-clause-none c = rw (decimal_digit 1 (omega arith), decimal_digit 2 (omega arith)) refl

pub returns-clause-over : goal.returns-clause-over
returns-clause-over c = rw (decimal_digit 1 (omega arith), decimal_digit 2 (omega arith)) refl

pub returns-clause-leading_zero : goal.returns-clause-leading_zero
returns-clause-leading_zero c = rw (decimal_digit 1 (omega arith), decimal_digit 2 (omega arith)) refl
