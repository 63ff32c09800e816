-- The next round, or why there is none.
use Rattle.std.proofs.Common.{◌≡◌, inl, inr, ℕ, ◌<◌, ◌≤◌, nat_le, if◌then◌else◌, List, Option, None, Some, Result, Ok, refl, sym, ap, subst, ◌∙◌, arith, leb-true}
use Rattle.std.proofs.lemmas.Bool.{cases_Bool, le-leb}
use Rattle.session_state.specs.Content.{Content}
use Rattle.session_state.specs.Sessions.{Round}
use Rattle.audit_session.specs.Going.{next_session as with_next_round}
use Rattle.audit_session.specs.Refusals.{first_of, last_draws, smaller, refusal, Refuses}
use Rattle.audit_session.specs.declared.fault.AdvanceFault.{AdvanceFault}
use Rattle.audit_session.specs.declared.fault.AdvanceFault.TheVariants.{Smaller, NoRecord, Changed, Memory}
use Rattle.cli_base.specs.Outcome.{Outcome, Verdict, Refused, outcome}
use Rattle.cli_base.specs.Due.{due_refusal, IsOrMemory, IsOneOrMemory}
use Rattle.cli_base.specs.Script.{ends}
use Rattle.cli_base.specs.declared.outcome.Refusal.{Refusal as Stop}
use Rattle.cli_base.proofs.Begun.{EndsNow}
use Rattle.session_rounds.specs.Rounds.{Compared, MayGoOn, changed, had_as_many, next_session, unseen, verdict_of}
use Rattle.input_files.specs.Judged.{unless, IsTold, IsStopped}
use Rattle.input_files.proofs.Judging.{told_as, unless_stopped}
use Rattle.session_rounds.specs.Refusals.{had_text, other_facts, refused_round, refused_by}

none_of : {A : Type 0} (a b : Option A) → first_of a b ≡ None → (a ≡ None) × (b ≡ None)
none_of None b h = (refl, h)
none_of (Some x) b h = absurd cc

pub not_smaller : (rounds : List Round) (draws : ℕ) → last_draws rounds < draws → smaller rounds draws ≡ None
not_smaller rounds draws more = elim (cases_Bool (nat_le draws (last_draws rounds))) [
  | inl t ↦ let less = leb-true draws (last_draws rounds) t in absurd (omega (arith, more, less))
  | inr f ↦ ap (λ b. if b then Some (Smaller (last_draws rounds)) else None) f
]

-- there were as many draws before
pub as_many_told : (name : List ℕ) (rounds : List Round) (draws had : ℕ) (due : Outcome) → had ≡ last_draws rounds → draws ≤ had →
    IsOrMemory (outcome (Refused name (had_text had))) due → IsTold (had_as_many name draws rounds) due
as_many_told name rounds draws had due is few told =
    let verdict = Refused name (had_text (last_draws rounds)) in
    told_as (had_as_many name draws rounds) verdict due
    (ap (λ b. if b then Some verdict else None) (le-leb draws (last_draws rounds) (subst (λ n. draws ≤ n) is few)))
    (subst (λ n. IsOrMemory (outcome (Refused name (had_text n))) due) is told)

module _ (name seen : List ℕ) (draws : ℕ) (session : Content) (values : List (List ℕ → ℕ)) (compared : Compared) where
  abbrev first : Option AdvanceFault
  first = refusal session values compared.recorded compared.entries draws

  abbrev gone_to : Content
  gone_to = with_next_round session values compared.recorded compared.entries draws

  pub gone : first ≡ None → next_session name seen draws session values compared ≡ Ok gone_to
  gone h =
      let (s, rest) = none_of (smaller session.session.rounds draws) _ h in
      let (u, c) = none_of (unseen session compared draws) (changed session values compared draws) rest in
      ap (λ u. unless (refused_by name seen u)
      (unless (refused_by name seen (changed session values compared draws)) (Ok gone_to))) u
      ∙ ap (λ c. unless (refused_by name seen c) (Ok gone_to)) c

  by_fault : (u c : Option AdvanceFault) (fault : AdvanceFault) (next : Content) (stop : Stop) → first_of u c ≡ Some fault →
      IsTold (refused_round name seen fault) (due_refusal stop) →
      IsStopped (unless (refused_by name seen u) (unless (refused_by name seen c) (Ok next))) stop
  by_fault None c fault next stop e told =
      subst (λ c. IsStopped (unless (refused_by name seen c) (Ok next)) stop) (sym e)
      (unless_stopped (refused_round name seen fault) (Ok next) stop told)
  by_fault (Some g) c fault next stop e told =
      let same : fault ≡ g = cc in
      unless_stopped (refused_round name seen g) _ stop
      (subst (λ f. IsTold (refused_round name seen f) (due_refusal stop)) same told)

  refused : (fault : AdvanceFault) (stop : Stop) → MayGoOn draws session → first ≡ Some fault →
      IsTold (refused_round name seen fault) (due_refusal stop) → IsStopped (next_session name seen draws session values compared) stop
  refused fault stop may e told =
      let fewer = not_smaller session.session.rounds draws may.fewer in
      by_fault (unseen session compared draws) (changed session values compared draws) fault gone_to stop
      (sym (ap (λ s. first_of s (first_of (unseen session compared draws) (changed session values compared draws))) fewer) ∙ e) told

  pub stopped : (fault : AdvanceFault) (stop : Stop) → MayGoOn draws session → Refuses first fault →
      IsTold (refused_round name seen fault) (due_refusal stop) → IsStopped (next_session name seen draws session values compared) stop
  stopped Memory stop may refuses told = inr told
  stopped (Smaller had) stop may refuses told = refused (Smaller had) stop may refuses told
  stopped (NoRecord card k) stop may refuses told = refused (NoRecord card k) stop may refuses told
  stopped (Changed round claim expected found) stop may refuses told = refused (Changed round claim expected found) stop may refuses told

-- a round that stops is reported
pub verdict_stopped : (judged : Result Content Verdict) (stop : Stop) → IsStopped judged stop →
    IsOneOrMemory (λ verdict. verdict ≡ verdict_of judged) (due_refusal stop)
verdict_stopped judged stop (inl (verdict, is, due)) = inl (verdict, sym (ap verdict_of is), due)
verdict_stopped judged stop (inr memory) = inr memory

-- a session that isn't one of its inputs is reported
pub other_told : (name : List ℕ) (due : Outcome) → IsOrMemory (outcome (other_facts name)) due → EndsNow (ends (other_facts name)) due
other_told name due (inl is) = inl (other_facts name, refl, is)
other_told name due (inr memory) = inr memory
