-- What is judged of files, one thing at a time.
use Rattle.std.proofs.Common.{◌≡◌, ◌∙◌, inl, inr, ℕ, List, Option, None, Some, ok_or, Result, Ok, Err, refl, sym, ap, ap₂, subst}
use Rattle.file_fault.specs.Refusals.{Refusal, Refuses}
use Rattle.file_fault.specs.declared.fault.Fault.{Fault}
use Rattle.file_fault.specs.declared.fault.Fault.TheVariants.{Refused as Breaks, Memory}
use Rattle.cli_base.specs.Outcome.{Outcome, Verdict, outcome}
use Rattle.cli_base.specs.Due.{due_refusal, IsOrMemory}
use Rattle.cli_base.specs.declared.outcome.Refusal.{Refusal as Stop}
use Rattle.input_files.specs.Judged.{told, unless, then_judged, IsTold, IsStopped, IsJudged}
use Rattle.input_files.specs.Refusals.{refused_fault, refused_file}

-- ---- one file

-- a fault stops the call that reads it
pub refused_for : {A R : Type 0} (rule_name : R → List ℕ) (name : List ℕ) (read : Result A (Refusal R)) (fault : Fault R) (refusal : Stop) →
    Refuses read fault → IsTold (refused_fault rule_name name fault) (due_refusal refusal) → IsStopped (told (refused_file rule_name name) read) refusal
refused_for rule_name name read (Breaks rule at) refusal is (inl due) = inl (_, ap (told (refused_file rule_name name)) is, due)
refused_for rule_name name read (Breaks rule at) refusal is (inr memory) = inr memory
refused_for rule_name name read Memory refusal is memory = inr memory

-- what is reported about the file is what it says
pub said : {A Why : Type 0} (words : Why → Verdict) (read : Result A Why) (value : A) → told words read ≡ Ok value → read ≡ Ok value
said words (Ok x) value is = cc
said words (Err why) value is = absurd (cc is)

-- ---- what is wrong comes first

pub unless_stopped : {A : Type 0} (wrong : Option Verdict) (judged : Result A Verdict) (refusal : Stop) → IsTold wrong (due_refusal refusal) →
    IsStopped (unless wrong judged) refusal
unless_stopped None judged refusal memory = inr memory
unless_stopped (Some verdict) judged refusal (inl due) = inl (verdict, refl, due)
unless_stopped (Some verdict) judged refusal (inr memory) = inr memory

pub unless_passed : {A : Type 0} (wrong : Option Verdict) (judged : Result A Verdict) → wrong ≡ None → unless wrong judged ≡ judged
unless_passed wrong judged none = ap (λ w. unless w judged) none

pub unless_judged : {A : Type 0} (wrong : Option Verdict) (judged : Result A Verdict) (result : Result A Stop) → wrong ≡ None → IsJudged judged result →
    IsJudged (unless wrong judged) result
unless_judged wrong judged result none is = subst (λ j. IsJudged j result) (sym (unless_passed wrong judged none)) is

-- ---- in order

pub then_passed : {A B : Type 0} (first : Result A Verdict) (next : A → Result B Verdict) (value : A) → first ≡ Ok value → then_judged first next ≡ next value
then_passed first next value is = ap (λ f. then_judged f next) is

pub then_stopped : {A B : Type 0} (first : Result A Verdict) (next : A → Result B Verdict) (refusal : Stop) → IsStopped first refusal →
    IsStopped (then_judged first next) refusal
then_stopped first next refusal (inl (verdict, is, due)) = inl (verdict, ap (λ f. then_judged f next) is, due)
then_stopped first next refusal (inr memory) = inr memory

pub next_stopped : {A B : Type 0} (first : Result A Verdict) (next : A → Result B Verdict) (value : A) (refusal : Stop) → first ≡ Ok value →
    IsStopped (next value) refusal → IsStopped (then_judged first next) refusal
next_stopped first next value refusal is stopped = subst (λ j. IsStopped j refusal) (sym (then_passed first next value is)) stopped

-- ---- nothing is said

pub refused_or : {A : Type 0} (content : Option A) (verdict : Verdict) (refusal : Stop) → content ≡ None → IsOrMemory (outcome verdict) (due_refusal refusal) →
    IsStopped (ok_or content verdict) refusal
refused_or content verdict refusal none (inl due) = inl (verdict, ap (λ s. ok_or s verdict) none, due)
refused_or content verdict refusal none (inr memory) = inr memory

pub told_as : (wrong : Option Verdict) (verdict : Verdict) (due : Outcome) → wrong ≡ Some verdict → IsOrMemory (outcome verdict) due → IsTold wrong due
told_as wrong verdict due is told = subst (λ w. IsTold w due) (sym is) told
