-- What is said about a session's object.
use Rattle.std.proofs.Common.{inl, inr, ◌≡◌, ℕ, true, List, Option, None, Some, refl, ap, ◌∙◌}
use Rattle.std.specs.Prelude.{if◌then◌else◌}
use Rattle.std.specs.Str.{IsUtf8, is_utf8}
use Rattle.std.proofs.lemmas.Bool.{cases_Bool}
use Rattle.std.proofs.lemmas.Str.{IsUtf8-from_is_utf8, is_utf8-from_IsUtf8}
use Rattle.serde_json.specs.Read.{read}
use Rattle.json.proofs.Printed.Utf8.{IsUtf8-are_ascii, are_ascii}
use Rattle.serde_json.specs.Data.{Data}
use Rattle.assertion_file.specs.Stated.{◌>>=◌, number}
use Rattle.session_state.specs.Content.{Content}
use Rattle.session_state.specs.Sessions.{Round}
use Rattle.session_file.specs.Faults.{Refuses}
use Rattle.session_file.specs.Reading.{content_of, content_with, sound_session, session_of}
use Rattle.session_file.specs.Stated.{Heading, each, heading_in, round}
use Rattle.session_file.specs.declared.fault.SessionFault.{SessionFault}
use Rattle.session_file.proofs.Refused.{refused_first, refused_same}

abbrev with_margins : Heading → List ℕ → Option Content
with_margins heading margins = each round heading.rounds >>= λ rounds. sound_session heading (content_with heading margins rounds)

abbrev with_heading : Heading → Option Content
with_heading heading = each number heading.margins >>= with_margins heading

pub no_heading : (value : Data) → heading_in value ≡ None → content_of value ≡ None
unfolding content_of
no_heading value h = ap (λ o. o >>= with_heading) h

is-with : (value : Data) (heading : Heading) → heading_in value ≡ Some heading → content_of value ≡ with_heading heading
unfolding content_of
is-with value heading h = ap (λ o. o >>= with_heading) h

module _ (value : Data) (heading : Heading) (there : heading_in value ≡ Some heading) where
  pub no_margins : (fault : SessionFault) → Refuses (each number heading.margins) fault → Refuses (content_of value) fault
  no_margins fault r =
      refused_same (content_of value) (with_heading heading) fault (is-with value heading there)
      (refused_first (each number heading.margins) (with_margins heading) fault r)

  module _ (margins : List ℕ) (read : each number heading.margins ≡ Some margins) where
    with-margins : content_of value ≡ with_margins heading margins
    with-margins = is-with value heading there ∙ ap (λ o. o >>= with_margins heading) read

    pub no_rounds : (fault : SessionFault) → Refuses (each round heading.rounds) fault → Refuses (content_of value) fault
    no_rounds fault r =
        refused_same (content_of value) (with_margins heading margins) fault with-margins
        (refused_first (each round heading.rounds) (λ rounds. sound_session heading (content_with heading margins rounds)) fault r)

    pub with-rounds : (rounds : List Round) → each round heading.rounds ≡ Some rounds →
        content_of value ≡ sound_session heading (content_with heading margins rounds)
    with-rounds rounds r = with-margins ∙ ap (λ o. o >>= λ rounds. sound_session heading (content_with heading margins rounds)) r

-- ---- the bytes

pub file-some : (bytes : List ℕ) (value : Data) → IsUtf8 bytes → read bytes ≡ Some value → session_of bytes ≡ content_of value
unfolding session_of
file-some bytes value utf8 h = rw (is_utf8-from_IsUtf8 bytes utf8, h) refl

pub file-none : (bytes : List ℕ) → (IsUtf8 bytes → read bytes ≡ None) → session_of bytes ≡ None
unfolding session_of
file-none bytes h =
    elim (cases_Bool (is_utf8 bytes)) [
      | inl t ↦ rw (t, h (IsUtf8-from_is_utf8 bytes t)) refl
      | inr f ↦ rw f refl
    ]

pub of-ascii : (bytes : List ℕ) → are_ascii bytes ≡ true → session_of bytes ≡ (read bytes >>= content_of)
unfolding session_of
of-ascii bytes h = ap (λ b. (if b then read bytes else None) >>= content_of) (is_utf8-from_IsUtf8 bytes (IsUtf8-are_ascii bytes h))
