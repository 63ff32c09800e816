-- A command continues from one file to the next, and ends after the last one.
use Rattle.std.proofs.Common.{◌≡◌, ◌∙◌, inl, inr, ℕ, ◌+◌, ◌≤◌, max, List, Option, refl, sym, ap, subst, arith}
use Rattle.desk.specs.Count.{Rose, one_more}
use Rattle.desk.specs.declared.served.Served.{Served}
use Rattle.desk.specs.Desk.{File}
use Rattle.cli_base.specs.Accounts.{IsBroken, IsAccountedFor}
use Rattle.cli_base.specs.Due.{IsOneOrMemory}
use Rattle.cli_base.specs.Outcome.{Outcome, Verdict, Answered, Refused}
use Rattle.cli_base.specs.Begun.{HasCome}
use Rattle.cli_base.specs.Script.{Reading, Bytes, Script, Read, Runs, AsTold, ByDesk, limit}
use Rattle.cli_base.proofs.Begun.{begun_on}
use Rattle.cli_base.proofs.Statuses.{differ, of_no_kind, status_in}

-- the desk over a longer time
pub longer : (held h : Option (List File)) (a b c d : ℕ) → h ≡ held → a ≤ b → c ≤ d → (name : List ℕ) (reading : Reading) → ByDesk h (Rose b c) name reading →
    ByDesk held (Rose a d) name reading
longer held h a b c d same before after name reading (inl told) = inl (subst (λ x. AsTold x name reading) same told)
longer held h a b c d same before after name reading (inr (fault, rose)) = inr (fault, omega (arith, rose))

-- after a file was read, what comes of the rest
pub gone_on : {x y z : Served} (held h : Option (List File)) (a b c : ℕ) (name bytes : List ℕ) (next : List ℕ → Script) (due : Outcome) → h ≡ held → a ≤ b →
    b ≤ c → y.begins ≡ one_more x.begins → ByDesk held (Rose a b) name (Bytes bytes) → HasCome (ByDesk h (Rose b c)) y z (Runs (next bytes)) due →
    HasCome (ByDesk held (Rose a c)) x z (Runs (Read name next)) due
gone_on held h a b c name bytes next due same before after one there come =
    begun_on (ByDesk h (Rose b c)) (ByDesk held (Rose a c)) name bytes next due (longer held h a b c c same before (omega arith)) one
    (longer held held a a b c refl (omega arith) after name (Bytes bytes) there) come

-- what the desk served of both
pub accounted_on : {m n : ℕ} (a b c : Served) (status : ℕ) → IsAccountedFor m a b 0 → IsAccountedFor n b c status → IsAccountedFor (m + n) a c status
accounted_on {m} {n} a b c status first rest = record {
  begins = let now = first.begins in let later = rest.begins in omega (arith, now, later);
  all_begun = λ is. let now = first.all_begun refl in let later = rest.all_begun is in omega (arith, now, later);
  missing = λ is. rest.missing is ∙ ap one_more same;
  found = λ no whole. rest.found no whole ∙ same;
  too_long = rest.too_long;
  over = λ is. rest.over is ∙ ap one_more same_over;
  within = λ no whole. rest.within no whole ∙ same_over;
  short = λ no whole. let after = rest.short no whole in omega (arith, short, after);
}
  where
    unbroken : IsBroken 0 → ⊥
    unbroken broken = omega (arith, broken)

    same : b.misses ≡ a.misses
    same = first.found (λ e. omega (arith, e)) unbroken

    same_over : b.too_long ≡ a.too_long
    same_over = first.within (λ e. omega (arith, e)) unbroken

    short : b.longest ≤ max a.longest limit
    short = first.short (λ e. omega (arith, e)) unbroken

-- ---- the last file

-- what the desk served, if the status says nothing about a file
pub accounted_as : {n : ℕ} (a b : Served) (status : ℕ) → (status ≡ 12 → ⊥) → (status ≡ 11 → ⊥) → IsAccountedFor n a b 0 → IsAccountedFor n a b status
accounted_as a b status no_miss no_length first = record {
  begins = first.begins;
  all_begun = λ is. first.all_begun refl;
  missing = λ is. absurd (no_miss is);
  found = λ no whole. first.found (λ e. omega (arith, e)) unbroken;
  too_long = λ is. absurd (no_length is);
  over = λ is. absurd (no_length is);
  within = λ no whole. first.within (λ e. omega (arith, e)) unbroken;
  short = λ no whole. first.short (λ e. omega (arith, e)) unbroken;
}
  where
    unbroken : IsBroken 0 → ⊥
    unbroken broken = omega (arith, broken)

-- a command that ends with a verdict reads nothing more
pub ended_accounted : {n : ℕ} (a b : Served) (verdicts : Verdict → Type 0) (due : Outcome)
    → IsOneOrMemory verdicts due → IsAccountedFor n a b 0 → IsAccountedFor n a b due.status
ended_accounted a b verdicts due (inl (Answered kind text, h, is)) first =
    accounted_as a b due.status (λ e. of_no_kind 12 refl kind (sym (ap status_in is) ∙ e)) (λ e. of_no_kind 11 refl kind (sym (ap status_in is) ∙ e)) first
ended_accounted a b verdicts due (inl (Refused name text, h, is)) first =
    accounted_as a b due.status (λ e. differ 2 12 (sym (ap status_in is) ∙ e) refl) (λ e. differ 2 11 (sym (ap status_in is) ∙ e) refl) first
ended_accounted a b verdicts due (inr memory) first =
    accounted_as a b due.status (λ e. differ 9 12 (sym (ap status_in memory) ∙ e) refl) (λ e. differ 9 11 (sym (ap status_in memory) ∙ e) refl) first
