-- The text of a session file, version 1: one JSON object in compact form, and a line feed.
use Rattle.std.specs.Prelude.{ℕ, List, [], ◌∷◌, ◌++◌, map, codes}
use Rattle.hex.specs.Hex.{encode_lower}
use Rattle.serde_json.specs.Data.{Data, boolean, string}
use Rattle.serde_json.specs.Written.{compact_text}
use Rattle.km_risk.specs.declared.draws.Counts.{Counts}
use Rattle.assertion_file.specs.Text.{array_of, line_feed, object_of, whole_number}
use Rattle.session_state.specs.Content.{Content}
use Rattle.session_state.specs.Sessions.{Round, is_signed_off}
use Rattle.session_file.specs.declared.print.TheConstants.{VERSION}

-- the digest in lower-case hexadecimal digits
abbrev pub digest_value : List ℕ → Data
digest_value digest = string (encode_lower digest)

abbrev pub numbers_value : List ℕ → Data
numbers_value numbers = array_of (map whole_number numbers)

-- the counts of the discrepancies 0 to 4
abbrev pub counts_value : Counts → Data
counts_value counts = numbers_value (counts.n0 ∷ counts.n1 ∷ counts.n2 ∷ counts.n3 ∷ counts.n4 ∷ [])

-- the counts and the risk of each claim
abbrev pub round_value : Round → Data
round_value round = object_of (
    (codes "counts", array_of (map counts_value round.counts)) ∷
    (codes "draws", whole_number round.draws) ∷
    (codes "risks", numbers_value round.risks) ∷
    [])

-- a session, with whether it is signed off
unfoldable pub session_value : Content → Data
session_value content = object_of (
    (codes "assertions", digest_value content.digests.assertions) ∷
    (codes "ballots", digest_value content.digests.ballots) ∷
    (codes "cards", whole_number content.session.cards) ∷
    (codes "contest", string content.contest) ∷
    (codes "gamma", whole_number content.session.gamma) ∷
    (codes "limit", whole_number content.session.limit) ∷
    (codes "manifest", digest_value content.digests.manifest) ∷
    (codes "margins", numbers_value content.session.margins) ∷
    (codes "rounds", array_of (map round_value content.session.rounds)) ∷
    (codes "seed", string content.seed) ∷
    (codes "signed_off", boolean (is_signed_off content.session)) ∷
    (codes "version", whole_number VERSION) ∷
    [])

abbrev pub session_text : Content → List ℕ
session_text content = compact_text (session_value content) ++ line_feed ∷ []
