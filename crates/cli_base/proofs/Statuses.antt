-- The status that a verdict, or a file that stops a call, ends it with.
use Rattle.std.proofs.Common.{◌≡◌, ◌⊎◌, inl, inr, ℕ, List, Option, [], None, Some, ◌==◌, if◌then◌else◌, nat_eq, true, false, refl, sym, ◌∙◌, ap, eq-eqb}
use Rattle.cli_base.specs.Outcome.{Outcome, Verdict, Answered, Refused, outcome, status_of, read_fault, too_long, no_such_file}
use Rattle.cli_base.specs.declared.outcome.AnswerKind.{AnswerKind}
use Rattle.cli_base.specs.declared.outcome.AnswerKind.TheVariants.{Done, Tie, Spent, FullCount, Differs, Unconfirmed}
use Rattle.cli_base.specs.Script.{Reading, Bytes, Missing, TooLong, Fault, IsBudgeted, stop_of}
use Rattle.cli_base.specs.Statuses.{IsUndone, IsForErr}
use Rattle.cli_base.proofs.Scripts.{some_is}

abbrev pub status_in : Outcome → ℕ
status_in due = due.status

-- two numbers that a test distinguishes
pub differ : (m n : ℕ) → m ≡ n → nat_eq m n ≡ false → ⊥
differ m n e test = let yes : nat_eq m n ≡ true = eq-eqb m n e in cc (yes, test)

pub free : (n : ℕ) → nat_eq n 7 ≡ false → nat_eq n 8 ≡ false → nat_eq n 9 ≡ false → IsUndone n → ⊥
free n a b c (inl e) = differ n 7 e a
free n a b c (inr (inl e)) = differ n 8 e b
free n a b c (inr (inr e)) = differ n 9 e c

pub unbudgeted : (n : ℕ) → nat_eq n 0 ≡ false → nat_eq n 3 ≡ false → nat_eq n 4 ≡ false → nat_eq n 5 ≡ false → IsBudgeted n → ⊥
unbudgeted n a b c d (inl e) = differ n 0 e a
unbudgeted n a b c d (inr (inl e)) = differ n 3 e b
unbudgeted n a b c d (inr (inr (inl e))) = differ n 4 e c
unbudgeted n a b c d (inr (inr (inr e))) = differ n 5 e d

-- ---- the kinds of answer

-- the kind that has this status
abbrev kind_at : ℕ → Option AnswerKind
kind_at status =
    if status == 0 then Some Done
    else if status == 3 then Some Tie
    else if status == 4 then Some Spent
    else if status == 5 then Some FullCount
    else if status == 6 then Some Differs
    else if status == 10 then Some Unconfirmed
    else None

kind_is : (kind : AnswerKind) → kind_at (status_of kind) ≡ Some kind
kind_is Done = refl
kind_is Tie = refl
kind_is Spent = refl
kind_is FullCount = refl
kind_is Differs = refl
kind_is Unconfirmed = refl

pub same_kind : (kind other : AnswerKind) → status_of kind ≡ status_of other → kind ≡ other
same_kind kind other is = some_is (sym (kind_is kind) ∙ ap kind_at is ∙ kind_is other)

-- no kind has this status
pub of_no_kind : (n : ℕ) → kind_at n ≡ None → (kind : AnswerKind) → status_of kind ≡ n → ⊥
of_no_kind n none kind is = let e : Some kind ≡ None = sym (kind_is kind) ∙ ap kind_at is ∙ none in cc

pub kind_free : (kind : AnswerKind) → IsUndone (status_of kind) → ⊥
kind_free kind (inl e) = of_no_kind 7 refl kind e
kind_free kind (inr (inl e)) = of_no_kind 8 refl kind e
kind_free kind (inr (inr e)) = of_no_kind 9 refl kind e

-- ---- verdicts

pub refused_verdict : (v : Verdict) (due : Outcome) → due ≡ outcome v → due.status ≡ 2 → (name text : List ℕ) × (v ≡ Refused name text)
refused_verdict (Answered kind text) due is two = absurd (of_no_kind 2 refl kind (sym (ap status_in is) ∙ two))
refused_verdict (Refused name text) due is two = (name, text, refl)

pub answer_verdict : (kind : AnswerKind) (v : Verdict) (due : Outcome) → due ≡ outcome v → due.status ≡ status_of kind →
    (text : List ℕ) × (v ≡ Answered kind text)
answer_verdict kind (Answered other text) due is n = (text, ap (λ k. Answered k text) (same_kind other kind (sym (ap status_in is) ∙ n)))
answer_verdict kind (Refused name text) due is n = absurd (of_no_kind 2 refl kind (sym n ∙ ap status_in is))

-- it has no status that doesn't belong to a kind, except 2
pub verdict_free : (n : ℕ) → kind_at n ≡ None → nat_eq 2 n ≡ false → (v : Verdict) (due : Outcome) → due ≡ outcome v → due.status ≡ n → ⊥
verdict_free n none other (Answered kind text) due is e = of_no_kind n none kind (sym (ap status_in is) ∙ e)
verdict_free n none other (Refused name text) due is e = differ 2 n (sym (ap status_in is) ∙ e) other

for_err_free : (kind : AnswerKind) → IsForErr (status_of kind) → ⊥
for_err_free kind (inl e) = of_no_kind 1 refl kind e
for_err_free kind (inr (inl e)) = of_no_kind 2 refl kind e
for_err_free kind (inr (inr (inl e))) = of_no_kind 7 refl kind e
for_err_free kind (inr (inr (inr (inl e)))) = of_no_kind 9 refl kind e
for_err_free kind (inr (inr (inr (inr (inl e))))) = of_no_kind 11 refl kind e
for_err_free kind (inr (inr (inr (inr (inr e))))) = of_no_kind 12 refl kind e

-- a refusal has nothing for `out`
pub verdict_out : (v : Verdict) → IsForErr (status_in (outcome v)) → (outcome v).out ≡ []
verdict_out (Answered kind text) for_err = absurd (for_err_free kind for_err)
verdict_out (Refused name text) for_err = refl

-- ---- files that stop a call

-- why a file stops a call
pub data Stop (name : List ℕ) (reading : Reading) (due : Outcome) : Type 0 where
  missing : reading ≡ Missing → no_such_file name ≡ due → Stop name reading due
  too_long_file : reading ≡ TooLong → too_long name ≡ due → Stop name reading due
  fault : reading ≡ Fault → read_fault name ≡ due → Stop name reading due

pub stop : (name : List ℕ) (reading : Reading) (due : Outcome) → stop_of name reading ≡ Some due → Stop name reading due
stop name (Bytes bytes) due is = absurd (cc is)
stop name Missing due is = missing refl (some_is is)
stop name TooLong due is = too_long_file refl (some_is is)
stop name Fault due is = fault refl (some_is is)

pub stop_status : (name : List ℕ) (reading : Reading) (due : Outcome) → Stop name reading due → (due.status ≡ 7) ⊎ (due.status ≡ 11) ⊎ (due.status ≡ 12)
stop_status name reading due (missing r is) = inr (inr (sym (ap status_in is)))
stop_status name reading due (too_long_file r is) = inr (inl (sym (ap status_in is)))
stop_status name reading due (fault r is) = inl (sym (ap status_in is))

pub stop_out : (name : List ℕ) (reading : Reading) (due : Outcome) → Stop name reading due → due.out ≡ []
stop_out name reading due (missing r is) = sym (ap (λ (o : Outcome). o.out) is)
stop_out name reading due (too_long_file r is) = sym (ap (λ (o : Outcome). o.out) is)
stop_out name reading due (fault r is) = sym (ap (λ (o : Outcome). o.out) is)

pub stopped : (status : ℕ) (name : List ℕ) (reading : Reading) (due : Outcome) → stop_of name reading ≡ Some due → due.status ≡ status →
    nat_eq 12 status ≡ false → nat_eq 11 status ≡ false → nat_eq 7 status ≡ false → ⊥
stopped status name reading due stops is a b c = elim (stop name reading due stops) [
  | missing r e ↦ differ 12 status (ap status_in e ∙ is) a
  | too_long_file r e ↦ differ 11 status (ap status_in e ∙ is) b
  | fault r e ↦ differ 7 status (ap status_in e ∙ is) c
]

pub no_answer : (kind : AnswerKind) (due : Outcome) → due.status ≡ status_of kind → (due.status ≡ 7) ⊎ (due.status ≡ 11) ⊎ (due.status ≡ 12) → ⊥
no_answer kind due n (inl seven) = of_no_kind 7 refl kind (sym n ∙ seven)
no_answer kind due n (inr (inl eleven)) = of_no_kind 11 refl kind (sym n ∙ eleven)
no_answer kind due n (inr (inr twelve)) = of_no_kind 12 refl kind (sym n ∙ twelve)
