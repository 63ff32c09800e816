-- How a script may end.
use Rattle.std.proofs.Common.{◌≡◌, ◌⊎◌, inl, inr, ⊎_elim, ℕ, List, Option, None, Some, refl, sym, ◌∙◌, ap, subst}
use Rattle.desk.specs.Desk.{File}
use Rattle.cli_base.specs.Outcome.{Outcome, Verdict, outcome, read_fault}
use Rattle.cli_base.specs.declared.outcome.AnswerKind.{AnswerKind}
use Rattle.cli_base.specs.Script.{Reading, Bytes, Fault, Script, Read, Ends, Readings, AsHeld, AsTold, ByDesk, stop_of, May, Reaches, Concludes, Agree, IsOfKind, AreOfKind}

-- It concludes with a verdict, or a file stops it.
pub ended : (readings : Readings) (script : Script) (due : Outcome) → May readings script due
    → ((v : Verdict) × Concludes readings script v × (due ≡ outcome v))
    ⊎ ((name : List ℕ) × (reading : Reading) × Reaches readings script name × readings name reading × (stop_of name reading ≡ Some due))
ended readings (Ends verdicts) due (v, may, is) = inl (v, may, is)
ended readings (Read name next) due (inl (reading, may, stop)) = inr (name, reading, inl refl, may, stop)
ended readings (Read name next) due (inr (bytes, may, rest)) = elim (ended readings (next bytes) due rest) [
  | inl (v, concludes, is) ↦ inl (v, (bytes, may, concludes), is)
  | inr (file, reading, reaches, there, stop) ↦ inr (file, reading, inr (bytes, may, reaches), there, stop)
]

pub concludes_may : (readings : Readings) (script : Script) (v : Verdict) → Concludes readings script v → May readings script (outcome v)
concludes_may readings (Ends verdicts) v concludes = (v, concludes, refl)
concludes_may readings (Read name next) v (bytes, may, rest) = inr (bytes, may, concludes_may readings (next bytes) v rest)

pub stops_may : (readings : Readings) (script : Script) (name : List ℕ) (reading : Reading) (due : Outcome) → Reaches readings script name →
    readings name reading → stop_of name reading ≡ Some due
    → May readings script due
stops_may readings (Ends verdicts) name reading due reaches there stop = absurd reaches
stops_may readings (Read first next) name reading due (inl is) there stop =
    inl (reading, subst (λ n. readings n reading) (sym is) there, ap (λ n. stop_of n reading) is ∙ stop)
stops_may readings (Read first next) name reading due (inr (bytes, may, rest)) there stop =
    inr (bytes, may, stops_may readings (next bytes) name reading due rest there stop)

pub no_fault : (held : Option (List File)) (failed : Type 0) (name bytes : List ℕ) → ByDesk held failed name (Bytes bytes) → AsTold held name (Bytes bytes)
no_fault held failed name bytes (inl told) = told
no_fault held failed name bytes (inr (fault, f)) = absurd (cc fault)

pub some_is : {A : Type 0} {x y : A} → Some x ≡ Some y → x ≡ y
some_is e = cc

stopped_by_fault : (name : List ℕ) (reading : Reading) (due : Outcome) → reading ≡ Fault → stop_of name reading ≡ Some due → due.status ≡ 7
stopped_by_fault name reading due fault stop =
    let is : read_fault name ≡ due = some_is (sym (ap (λ r. stop_of name r) fault) ∙ stop) in
    ap (λ (o : Outcome). o.status) (sym is)

-- It is what the files make it, or 7.
pub told_or_fault : (held : Option (List File)) (failed : Type 0) (script : Script) (due : Outcome) → May (ByDesk held failed) script due →
    May (AsTold held) script due ⊎ (due.status ≡ 7)
told_or_fault held failed (Ends verdicts) due may = inl may
told_or_fault held failed (Read name next) due (inl (reading, inl told, stop)) = inl (inl (reading, told, stop))
told_or_fault held failed (Read name next) due (inl (reading, inr (fault, f), stop)) = inr (stopped_by_fault name reading due fault stop)
told_or_fault held failed (Read name next) due (inr (bytes, inl told, rest)) =
    ⊎_elim (λ may. inl (inr (bytes, told, may))) (λ seven. inr seven) (told_or_fault held failed (next bytes) due rest)
told_or_fault held failed (Read name next) due (inr (bytes, inr (fault, f), rest)) = absurd (cc fault)

not_bytes : (name bytes : List ℕ) (reading : Reading) (due : Outcome) → reading ≡ Bytes bytes → stop_of name reading ≡ Some due → ⊥
not_bytes name bytes reading due is stop = let none : None ≡ Some due = sym (ap (λ r. stop_of name r) is) ∙ stop in cc

pub agree-weaker : (R S : Outcome → Outcome → Type 0) → ((d e : Outcome) → R d e → S d e) → (script : Script) → Agree R script → Agree S script
agree-weaker R S weaker (Ends verdicts) agree = λ v w p q. weaker (outcome v) (outcome w) (agree v w p q)
agree-weaker R S weaker (Read name next) agree = λ bytes. agree-weaker R S weaker (next bytes) (agree bytes)

-- What files are held decides it, as far as R goes.
pub determined : (R : Outcome → Outcome → Type 0) → ((d : Outcome) → R d d) → (files : List File) (script : Script) (d e : Outcome) → Agree R script
    → May (AsHeld files) script d → May (AsHeld files) script e → R d e
determined R itself files (Ends verdicts) d e agree (v, may_v, is_d) (w, may_w, is_e) =
    subst (λ x. R x e) (sym is_d) (subst (R (outcome v)) (sym is_e) (agree v w may_v may_w))
determined R itself files (Read name next) d e agree (inl (r, there_r, stop_d)) (inl (s, there_s, stop_e)) =
    subst (R d) (some_is (sym stop_d ∙ ap (λ x. stop_of name x) (there_r ∙ sym there_s) ∙ stop_e)) (itself d)
determined R itself files (Read name next) d e agree (inl (r, there_r, stop_d)) (inr (bytes, there, rest)) =
    absurd (not_bytes name bytes r d (there_r ∙ sym there) stop_d)
determined R itself files (Read name next) d e agree (inr (bytes, there, rest)) (inl (s, there_s, stop_e)) =
    absurd (not_bytes name bytes s e (there_s ∙ sym there) stop_e)
determined R itself files (Read name next) d e agree (inr (bytes, there_d, rest_d)) (inr (others, there_e, rest_e)) =
    let same : bytes ≡ others = (let is : Bytes bytes ≡ Bytes others = there_d ∙ sym there_e in cc) in
    determined R itself files (next others) d e (agree others) (subst (λ b. May (AsHeld files) (next b) d) same rest_d) rest_e

-- What a script concludes with is of its kinds.
pub of_kind : (kinds : List AnswerKind) (readings : Readings) (script : Script) (v : Verdict) → AreOfKind kinds script → Concludes readings script v →
    IsOfKind kinds v
of_kind kinds readings (Ends verdicts) v are concludes = are v concludes
of_kind kinds readings (Read name next) v are (bytes, there, rest) = of_kind kinds readings (next bytes) v (are bytes) rest
