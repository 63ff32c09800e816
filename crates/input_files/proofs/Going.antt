-- A command continues with what a file says, or stops.
use Rattle.std.proofs.Common.{◌≡◌, ◌⊎◌, inl, inr, ℕ, ◌+◌, ◌≤◌, List, Option, None, Some, IfSome, option_map, Result, Ok, Err, refl, sym, ap, subst, ◌∙◌, arith}
use Rattle.std.specs.Prelude.{⊤}
use Rattle.desk.specs.Count.{Rose, one_more}
use Rattle.desk.specs.Desk.{File}
use Rattle.desk.specs.declared.served.Served.{Served}
use Rattle.cli_base.specs.Outcome.{Outcome, Verdict, Answered, Refused, outcome}
use Rattle.cli_base.specs.Accounts.{IsAccountedFor}
use Rattle.cli_base.specs.Due.{due_refusal}
use Rattle.cli_base.specs.declared.outcome.AnswerKind.{AnswerKind}
use Rattle.cli_base.specs.declared.outcome.Refusal.{Refusal as Stop}
use Rattle.cli_base.specs.declared.outcome.Refusal.TheVariants.{Words, Memory as NoMemory, Line}
use Rattle.cli_base.specs.declared.outcome.RefusalKind.TheVariants.{Input, Missing as NoFile, TooLong as IsTooLong, ReadFault as NoRead}
use Rattle.cli_base.specs.Begun.{HasCome}
use Rattle.cli_base.specs.Script.{Bytes, Readings, Script, Read, Runs, ByDesk, Agree, AreOfKind, IsOfKind, Same}
use Rattle.cli_base.proofs.Begun.{EndsNow, begun_on, come_now, memory_now, stopped_at}
use Rattle.cli_base.proofs.Statuses.{status_in}
use Rattle.cli_base.proofs.Steps.{accounted_as, gone_on}
use Rattle.irv_base.specs.Names.{Id}
use Rattle.ballots.specs.Ballots.{BallotFile}
use Rattle.ballots.specs.Grammar.{ballots_of}
use Rattle.manifest.specs.Cards.{Batches}
use Rattle.manifest.specs.Manifest.{manifest_of}
use Rattle.manifest.specs.Linked.{first_without_card}
use Rattle.input_files.specs.Cards.{cards_for, without_card}
use Rattle.input_files.specs.Refusals.{no_card, refused_ballots, refused_manifest}
use Rattle.input_files.specs.Votes.{AreVotes, ballots_said}
use Rattle.input_files.specs.Judged.{told, unless, then_judged, go_on, IsStopped}

-- ---- what is judged

pub judged_on : {A : Type 0} {x y : Served} (readings : Readings) (judged : Result A Verdict) (next : A → Script) (value : A) (due : Outcome) →
    judged ≡ Ok value → HasCome readings x y (Runs (next value)) due → HasCome readings x y (Runs (go_on judged next)) due
judged_on {A} {x} {y} readings judged next value due is come = subst (λ j. HasCome readings x y (Runs (go_on j next)) due) (sym is) come

pub judged_now : {A : Type 0} (judged : Result A Verdict) (next : A → Script) (value : A) (due : Outcome) → judged ≡ Ok value → EndsNow (next value) due →
    EndsNow (go_on judged next) due
judged_now judged next value due is now = subst (λ j. EndsNow (go_on j next) due) (sym is) now

pub stopped_now : {A : Type 0} (judged : Result A Verdict) (next : A → Script) (refusal : Stop) → IsStopped judged refusal →
    EndsNow (go_on judged next) (due_refusal refusal)
stopped_now judged next refusal (inl (verdict, is, due)) = subst (λ j. EndsNow (go_on j next) (due_refusal refusal)) (sym is) (inl (verdict, refl, due))
stopped_now judged next refusal (inr memory) = memory_now (go_on judged next) (due_refusal refusal) memory

-- ---- a file is read and judged

-- a file is read, and the command continues with what is judged of it
abbrev reading : {A : Type 0} → List ℕ → (List ℕ → Result A Verdict) → (List ℕ → A → Script) → Script
reading name judged next = Read name (λ bytes. go_on (judged bytes) (next bytes))

module _ {A : Type 0} {x y : Served} (held : Option (List File)) (a b : ℕ) (name bytes : List ℕ) (judged : List ℕ → Result A Verdict)
    (next : List ℕ → A → Script) (begun : y.begins ≡ one_more x.begins) (there : ByDesk held (Rose a b) name (Bytes bytes)) where
  -- the rest reads on
  pub read_on : {z : Served} (h : Option (List File)) (c : ℕ) (value : A) (due : Outcome) → h ≡ held → a ≤ b → b ≤ c → judged bytes ≡ Ok value →
      HasCome (ByDesk h (Rose b c)) y z (Runs (next bytes value)) due → HasCome (ByDesk held (Rose a c)) x z (Runs (reading name judged next)) due
  read_on {z} h c value due same before after is come =
      gone_on held h a b c name bytes (λ bytes. go_on (judged bytes) (next bytes)) due same before after begun there
      (subst (λ j. HasCome (ByDesk h (Rose b c)) y z (Runs (go_on j (next bytes))) due) (sym is) come)

  -- the rest reads nothing more
  read_now : (due : Outcome) → EndsNow (go_on (judged bytes) (next bytes)) due → HasCome (ByDesk held (Rose a b)) x y (Runs (reading name judged next)) due
  read_now due now =
      begun_on (ByDesk held (Rose a b)) (ByDesk held (Rose a b)) name bytes (λ bytes. go_on (judged bytes) (next bytes)) due (λ name reading given. given) begun
      there (come_now (ByDesk held (Rose a b)) y (go_on (judged bytes) (next bytes)) due now)

  pub read_last : (value : A) (due : Outcome) → judged bytes ≡ Ok value → EndsNow (next bytes value) due → HasCome (ByDesk held (Rose a b)) x y (Runs (reading name judged next)) due
  read_last value due is now = read_now due (judged_now (judged bytes) (next bytes) value due is now)

  pub read_stopped : (refusal : Stop) → IsStopped (judged bytes) refusal → HasCome (ByDesk held (Rose a b)) x y (Runs (reading name judged next)) (due_refusal refusal)
  read_stopped refusal stopped = read_now (due_refusal refusal) (stopped_now (judged bytes) (next bytes) refusal stopped)

-- ---- what the desk served

-- of a command that isn't done, more files might have been begun
pub raised : (rest n : ℕ) (a b : Served) (status : ℕ) → (status ≡ 0 → ⊥) → IsAccountedFor n a b status → IsAccountedFor (rest + n) a b status
raised rest n a b status not_done so_far = record {
  begins = let now = so_far.begins in omega (arith, now);
  all_begun = λ is. absurd (not_done is);
  missing = so_far.missing;
  found = so_far.found;
  too_long = so_far.too_long;
  over = so_far.over;
  short = so_far.short;
  within = so_far.within;
}

-- ---- one end

pub go_on-agrees : {A : Type 0} (judged : Result A Verdict) (next : A → Script) → ((value : A) → Agree Same (next value)) → Agree Same (go_on judged next)
go_on-agrees (Ok value) next each = each value
go_on-agrees (Err verdict) next each = λ v w p q. ap outcome (p ∙ sym q)

-- ---- the kinds of answers

-- a file is refused, and nothing is answered
abbrev pub IsRefusal : Verdict → Type 0
IsRefusal (Answered kind text) = ⊥
IsRefusal (Refused name text) = ⊤

abbrev pub OnlyRefuses : {A : Type 0} → Result A Verdict → Type 0
OnlyRefuses (Ok value) = ⊤
OnlyRefuses (Err verdict) = IsRefusal verdict

refusal-kind : (kinds : List AnswerKind) (w v : Verdict) → IsRefusal w → v ≡ w → IsOfKind kinds v
refusal-kind kinds (Answered kind text) v is e = absurd is
refusal-kind kinds (Refused name text) v is e = subst (IsOfKind kinds) (sym e) tt

pub go_on-kinds : {A : Type 0} (kinds : List AnswerKind) (judged : Result A Verdict) (next : A → Script) → OnlyRefuses judged →
    ((value : A) → AreOfKind kinds (next value)) → AreOfKind kinds (go_on judged next)
go_on-kinds kinds (Ok value) next only each = each value
go_on-kinds kinds (Err verdict) next only each = λ v is. refusal-kind kinds verdict v only is

pub told-only : {A Why : Type 0} (words : Why → Verdict) (read : Result A Why) → ((why : Why) → IsRefusal (words why)) → OnlyRefuses (told words read)
told-only words (Ok value) each = tt
told-only words (Err why) each = each why

pub unless-only : {A : Type 0} (wrong : Option Verdict) (judged : Result A Verdict) → IfSome wrong IsRefusal → OnlyRefuses judged →
    OnlyRefuses (unless wrong judged)
unless-only None judged refusal only = only
unless-only (Some verdict) judged refusal only = refusal

pub then-only : {A B : Type 0} (first : Result A Verdict) (next : A → Result B Verdict) → OnlyRefuses first → ((value : A) → OnlyRefuses (next value)) →
    OnlyRefuses (then_judged first next)
then-only (Ok value) next only each = each value
then-only (Err verdict) next only each = only

-- ---- what the desk served for a file that is refused

early : (rest : ℕ) (a b : Served) (status : ℕ) → (status ≡ 2) ⊎ (status ≡ 9) → IsAccountedFor 1 a b 0 → IsAccountedFor (rest + 1) a b status
early rest a b status stopped first =
    raised rest 1 a b status (λ is. omega (arith, is, stopped))
    (accounted_as a b status (λ e. omega (arith, e, stopped)) (λ e. omega (arith, e, stopped)) first)

refusal-status : (verdict : Verdict) (status : ℕ) → IsRefusal verdict → status ≡ status_in (outcome verdict) → status ≡ 2
refusal-status (Answered kind text) status is e = absurd is
refusal-status (Refused name text) status is e = e

-- the file stops the command, and the remaining files aren't begun
pub stopped_accounted : {A : Type 0} (rest : ℕ) (a b : Served) (judged : Result A Verdict) (refusal : Stop) → OnlyRefuses judged → IsStopped judged refusal →
    IsAccountedFor 1 a b 0 →
    IsAccountedFor (rest + 1) a b (due_refusal refusal).status
stopped_accounted rest a b judged refusal only (inl (verdict, is, due)) first =
    early rest a b _ (inl (refusal-status verdict _ (subst OnlyRefuses is only) (ap status_in due))) first
stopped_accounted rest a b judged refusal only (inr memory) first = early rest a b _ (inr (ap status_in memory)) first

-- ---- the cards of ballots

placed-only : (name : List ℕ) (ballots : BallotFile) (batches : Batches) → IfSome (without_card name ballots batches) IsRefusal
placed-only name ballots batches = by (first_without_card batches ballots) where
  by : (first : Option ℕ) → IfSome (option_map (no_card name) first) IsRefusal
  by None = tt
  by (Some at) = tt

pub cards-only : (name : List ℕ) (ballots : BallotFile) (manifest bytes : List ℕ) → OnlyRefuses (cards_for name ballots manifest bytes)
cards-only name ballots manifest bytes =
    then-only (told (refused_manifest manifest) (manifest_of bytes)) _ (told-only (refused_manifest manifest) (manifest_of bytes) (λ why. tt))
    (λ batches. unless-only (without_card name ballots batches) _ (placed-only name ballots batches) tt)

-- ---- the votes in a ballot file

-- the file isn't read, or is refused
pub votes_stopped : {x y : Served} (held : Option (List File)) (a b : ℕ) (name : List ℕ) (asked : Option Id) (next : List ℕ → BallotFile → Script)
    (refusal : Stop) → y.begins ≡ one_more x.begins → AreVotes (ByDesk held (Rose a b)) name asked (Err refusal) →
    HasCome (ByDesk held (Rose a b)) x y (Runs (reading name (ballots_said name asked) next)) (due_refusal refusal)
votes_stopped held a b name asked next refusal begun (inl stops) = stopped_at _ name _ refusal begun stops
votes_stopped held a b name asked next refusal begun (inr (bytes, there, stopped)) =
    read_stopped held a b name bytes (ballots_said name asked) next begun there refusal stopped

pub said-only : (name : List ℕ) (asked : Option Id) (bytes : List ℕ) → OnlyRefuses (ballots_said name asked bytes)
said-only name asked bytes = told-only (refused_ballots name) (ballots_of bytes asked) (λ why. tt)

-- ---- a call that stops

not_done : (refusal : Stop) → (due_refusal refusal).status ≡ 0 → ⊥
not_done Words e = cc
not_done NoMemory e = cc
not_done (Line Input text) e = cc
not_done (Line NoFile text) e = cc
not_done (Line IsTooLong text) e = cc
not_done (Line NoRead text) e = cc

-- the remaining files aren't begun
pub stopped_early : (rest : ℕ) (a b : Served) (refusal : Stop) → IsAccountedFor 1 a b (due_refusal refusal).status →
    IsAccountedFor (rest + 1) a b (due_refusal refusal).status
stopped_early rest a b refusal so_far = raised rest 1 a b (due_refusal refusal).status (not_done refusal) so_far
