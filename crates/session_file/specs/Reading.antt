-- What a session file says, if it is one.
use Rattle.std.specs.Prelude.{ℕ, Bool, ◌&&◌, ◌==◌, if◌then◌else◌, List, Option, Some, None}
use Rattle.std.proofs.Math.Bool.{beq}
use Rattle.serde_json.specs.Data.{Data}
use Rattle.assertion_file.specs.Stated.{◌>>=◌, number}
use Rattle.assertion_file.specs.Text.{json_of}
use Rattle.session_state.specs.Content.{Content}
use Rattle.session_state.specs.Sessions.{Round, is_signed_off}
use Rattle.session_file.specs.declared.print.TheConstants.{VERSION}
use Rattle.session_file.specs.Sound.{is_sound}
use Rattle.session_file.specs.Stated.{Heading, each, heading_in, round}

abbrev pub content_with : Heading → List ℕ → List Round → Content
content_with heading margins rounds = record {
  contest = heading.contest;
  seed = heading.seed;
  digests = heading.digests;
  session =
      record {
        cards = heading.terms.cards;
        margins = margins;
        limit = heading.terms.limit;
        gamma = heading.terms.gamma;
        rounds = rounds;
      };
}

-- the session is sound, and the file correctly says whether it is signed off
abbrev pub is_kept : Heading → Content → Bool
is_kept heading content =
    heading.version == VERSION && is_sound content
    && beq heading.signed_off (is_signed_off content.session)

abbrev pub sound_session : Heading → Content → Option Content
sound_session heading content = if is_kept heading content then Some content else None

unfoldable pub content_of : Data → Option Content
content_of value = do
  heading ← heading_in value
  margins ← each number heading.margins
  rounds ← each round heading.rounds
  sound_session heading (content_with heading margins rounds)

unfoldable pub session_of : List ℕ → Option Content
session_of bytes = do
  value ← json_of bytes
  content_of value
