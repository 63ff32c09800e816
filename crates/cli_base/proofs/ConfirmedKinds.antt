-- An answer that says whether everything is confirmed is done if it is, and otherwise unconfirmed.
use Rattle.std.proofs.Common.{◌≡◌, Bool, true, false, IsTrue, refl}
use Rattle.std.proofs.lemmas.Bool.{false≢true}
use Rattle.cli_base.specs.Confirmed.{confirmed_kind}
use Rattle.cli_base.specs.declared.outcome.AnswerKind.TheVariants.{Done, Unconfirmed}

pub done_is_confirmed : (all : Bool) → Done ≡ confirmed_kind all → IsTrue all
done_is_confirmed true is = refl
done_is_confirmed false is = absurd (cc is)

pub unconfirmed_is_not : (all : Bool) → Unconfirmed ≡ confirmed_kind all → IsTrue all → ⊥
unconfirmed_is_not true is confirmed = cc is
unconfirmed_is_not false is confirmed = false≢true confirmed
