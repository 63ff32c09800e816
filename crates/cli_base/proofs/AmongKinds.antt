-- Which kinds of answer are among some, as a test.
use Rattle.std.proofs.Common.{◌≡◌, ◌∙◌, Bool, true, false, List, Contains, nat_eq, sym, eqb-true}
use Rattle.std.specs.Cmp.{IsEquivalence, nat_eq_equiv}
use Rattle.std.specs.List.{list_any}
use Rattle.std.proofs.lemmas.Bool.{false≢true}
use Rattle.std.proofs.lemmas.Map.Views.{Contains-from_any, list_any-from_Contains}
use Rattle.cli_base.specs.Outcome.{status_of}
use Rattle.cli_base.specs.declared.outcome.AnswerKind.{AnswerKind}
use Rattle.cli_base.proofs.Statuses.{same_kind}

abbrev is_same : AnswerKind → AnswerKind → Bool
is_same kind other = nat_eq (status_of kind) (status_of other)

abbrev pub is_among : List AnswerKind → AnswerKind → Bool
is_among kinds kind = list_any (is_same kind) kinds

pub among : (kinds : List AnswerKind) (kind : AnswerKind) → is_among kinds kind ≡ true → Contains kinds kind
among kinds kind is = Contains-from_any (λ a b e. same_kind a b (eqb-true (status_of a) (status_of b) e)) kind kinds is

laws : IsEquivalence is_same
laws =
    record {
      refl = λ x. nat_eq_equiv.refl (status_of x);
      symm = λ x y. nat_eq_equiv.symm (status_of x) (status_of y);
      congr = λ x y z. nat_eq_equiv.congr (status_of x) (status_of y) (status_of z);
    }

pub not_among : (kinds : List AnswerKind) (kind : AnswerKind) → is_among kinds kind ≡ false → Contains kinds kind → ⊥
not_among kinds kind none is = false≢true (sym none ∙ list_any-from_Contains laws kind kinds is)
