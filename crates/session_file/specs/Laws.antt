-- The laws of session files.
use Rattle.std.specs.Prelude.{◌≡◌, ℕ, List, Some}
use Rattle.assertion_file.specs.Text.{json_of}
use Rattle.session_state.specs.Content.{Content, IsSound}
use Rattle.session_file.specs.Forms.{HasForms}
use Rattle.session_file.specs.Text.{session_text, session_value}
use Rattle.session_file.specs.Reading.{session_of}

-- what is printed reads as the session's value
abbrev pub TextReadsBack : Type 0
TextReadsBack =
    (content : Content) → IsSound content → HasForms content →
    json_of (session_text content) ≡ Some (session_value content)

-- what is read keeps the invariants of a session
abbrev pub ReadIsSound : Type 0
ReadIsSound =
    (bytes : List ℕ) (content : Content) → session_of bytes ≡ Some content →
    IsSound content × HasForms content

-- what is printed reads back
abbrev pub PrintedReadsBack : Type 0
PrintedReadsBack =
    (content : Content) → IsSound content → HasForms content →
    session_of (session_text content) ≡ Some content
