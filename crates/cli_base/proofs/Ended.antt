-- How a command ends, once a file is read.
use Rattle.std.proofs.Common.{◌≡◌, true, List, ℕ, inl, inr, sym, ap, subst, ◌∙◌}
use Rattle.std.proofs.Common.{Vec, String, string_bytes}
use Rattle.std.specs.String.{string_vec}
use Rattle.std.specs.declared.alloc.Global.{Global}
use Rattle.cli_base.specs.Outcome.{Outcome, Verdict, Answered, Refused, One, outcome}
use Rattle.cli_base.specs.declared.outcome.AnswerKind.{AnswerKind}
use Rattle.cli_base.specs.Script.{IsOfKind, SameButBudget}
use Rattle.cli_base.specs.Due.{IsOneOrMemory}
use Rattle.cli_base.proofs.AmongKinds.{among, is_among}

-- ---- a file that is refused

-- ---- the bytes of a text

pub bytes_of : (bytes : Vec ℕ Global) (text : String Global) → bytes ≡ string_vec text → bytes.items ≡ string_bytes text
bytes_of bytes text is = ap (λ (v : Vec ℕ Global). v.items) is

-- ---- a single verdict

pub told_as : (verdicts : Verdict → Type 0) (verdict : Verdict) (due : Outcome) → verdicts verdict → IsOneOrMemory (λ v. v ≡ verdict) due →
    IsOneOrMemory verdicts due
told_as verdicts verdict due holds (inl (v, is, ends)) = inl (verdict, holds, ends ∙ ap outcome is)
told_as verdicts verdict due holds (inr memory) = inr memory

-- ---- one of several verdicts

pub told_among : (some more : Verdict → Type 0) (due : Outcome) → ((verdict : Verdict) → some verdict → more verdict) → IsOneOrMemory some due →
    IsOneOrMemory more due
told_among some more due each (inl (verdict, holds, ends)) = inl (verdict, each verdict holds, ends)
told_among some more due each (inr memory) = inr memory

-- ---- answers of a kind

pub one-same : (texts : List ℕ → Type 0) (kind : AnswerKind) → ((text other : List ℕ) → texts text → texts other → text ≡ other) → (v w : Verdict) →
    One texts kind v → One texts kind w → v ≡ w
one-same texts kind one v w (text, holds, is) (other, holds', is') = is ∙ ap (Answered kind) (one text other holds holds') ∙ sym is'

pub one-kind : (kinds : List AnswerKind) (texts : List ℕ → Type 0) (kind : AnswerKind) → is_among kinds kind ≡ true → (v : Verdict) → One texts kind v →
    IsOfKind kinds v
one-kind kinds texts kind is v (text, holds, e) = subst (IsOfKind kinds) (sym e) (among kinds kind is)

pub answer-kind : (kinds : List AnswerKind) (kind : AnswerKind) (text : List ℕ) (v : Verdict) → is_among kinds kind ≡ true → v ≡ Answered kind text →
    IsOfKind kinds v
answer-kind kinds kind text v is e = subst (IsOfKind kinds) (sym e) (among kinds kind is)

pub refused-kind : (kinds : List AnswerKind) (v : Verdict) (name text : List ℕ) → v ≡ Refused name text → IsOfKind kinds v
refused-kind kinds v name text e = subst (IsOfKind kinds) (sym e) tt

pub of_answers : (k l : AnswerKind) (text other : List ℕ) (v w : Verdict) → v ≡ Answered k text → w ≡ Answered l other →
    SameButBudget (outcome (Answered k text)) (outcome (Answered l other)) → SameButBudget (outcome v) (outcome w)
of_answers k l text other v w i j agree =
    subst (λ v. SameButBudget (outcome v) (outcome w)) (sym i) (subst (λ w. SameButBudget (outcome (Answered k text)) (outcome w)) (sym j) agree)
