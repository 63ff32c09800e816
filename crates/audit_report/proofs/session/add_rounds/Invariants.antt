use Rattle.std.proofs.Common.{◌≡◌, ◌+◌, ◌++◌, ◌<◌, ℕ, Bool, List, length, drop, get_or, false, string_bytes}
use Rattle.session_state.specs.Sessions.{Session, is_confirmed_at}
use Rattle.audit_report.specs.Session.{rounds_from}
use Rattle.audit_report.proofs.session.add_rounds.Given as goal

-- what has been printed for the rounds before place i, and which claims they confirm
pub record AreTold (session : Session) (i : ℕ) (confirmed : List Bool) (before text : List ℕ) : Type 0 where
  pub lines : text ++ rounds_from session (i + 1) (drop i session.rounds) ≡ before ++ rounds_from session 1 session.rounds
  pub each : length confirmed ≡ length session.margins
  pub are : (j : ℕ) → j < length session.margins → get_or confirmed j false ≡ is_confirmed_at session i j

abbrev pub invariant-loop-i : goal.invariant-loop-i
invariant-loop-i l = AreTold l.s.session l.i l.confirmed (string_bytes l.initial.text) (string_bytes l.text)
