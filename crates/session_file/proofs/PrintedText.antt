-- The printed text of a session, and what it reads as.
use Rattle.std.proofs.Common.{◌≡◌, ℕ, false, List, [], ◌∷◌, ◌++◌, Some, ap, ◌∙◌}
use Rattle.serde_json.specs.Data.{Data}
use Rattle.serde_json.specs.Written.{compact_text, has_float}
use Rattle.assertion_file.specs.Text.{json_of}
use Rattle.assertion_file.proofs.Exact.{has_float-exact}
use Rattle.assertion_file.proofs.ReadsBack.{json_of-line}
use Rattle.session_state.specs.Content.{Content, IsSound}
use Rattle.session_file.specs.Forms.{HasForms}
use Rattle.session_file.specs.Text.{session_text, session_value}
use Rattle.session_file.proofs.Sessions.{depth-session_value, session_is_exact}

pub text_reads_back : (content : Content) → IsSound content → HasForms content → json_of (session_text content) ≡ Some (session_value content)
text_reads_back content sound forms = json_of-line (session_value content) (session_is_exact content sound forms) (depth-session_value content)

-- what a writer gives for the value, and a line feed
pub printed_text : (content : Content) (value : Data) (bytes line : List ℕ) → IsSound content → HasForms content → value ≡ session_value content →
    (has_float value ≡ false → bytes ≡ compact_text value) → line ≡ bytes ++ 10 ∷ [] → line ≡ session_text content
printed_text content value bytes line sound forms same printed with_line =
    let whole = has_float-exact (session_value content) (session_is_exact content sound forms) in
    with_line ∙ ap (λ text. text ++ 10 ∷ []) (printed (ap has_float same ∙ whole) ∙ ap compact_text same)
