-- A session continues with a round, or stays as it was.
use Rattle.std.specs.Prelude.{◌≡◌, ℕ, Bool, List, Result, IfOk, IfErr, OnErr}
use Rattle.assertion_file.specs.Content.{Content as FileContent}
use Rattle.manifest.specs.declared.recorded.Recorded.{Recorded}
use Rattle.seen_file.specs.Seen.{Entry}
use Rattle.session_state.specs.Claims.{values_of}
use Rattle.session_state.specs.Content.{Content}
use Rattle.session_state.specs.Sessions.{is_signed_off}
use Rattle.audit_session.specs.Going.{next_session}
use Rattle.audit_session.specs.Refusals.{Refuses, refusal}
use Rattle.audit_session.specs.declared.fault.AdvanceFault.{AdvanceFault}

-- the answer to a call that continues a session, and the session after it
pub record GoesOn (session : Content) (file : FileContent) (recorded : List Recorded)
    (entries : List Entry) (draws : ℕ) (answer : Result Bool AdvanceFault)
    (after : Content) : Type 0 where
  pub next : IfOk answer (λ _.
      after ≡ next_session session (values_of file) recorded entries draws)
  pub told : IfOk answer (λ done. done ≡ is_signed_off after.session)
  pub refused : IfErr answer (Refuses (refusal session (values_of file) recorded entries draws))
  pub kept : OnErr answer (after ≡ session)
