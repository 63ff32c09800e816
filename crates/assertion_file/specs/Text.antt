-- The text of an assertion file of each version: one JSON object in compact form, and a line feed.
use Rattle.std.specs.Prelude.{ℕ, List, [], ◌∷◌, ◌++◌, map, zip, codes, Option, Some, None, option_map, if◌then◌else◌}
use Rattle.std.specs.Str.{is_utf8}
use Rattle.serde_json.specs.Data.{Data, null, number, unsigned, string, array, object, Members, no_members, member}
use Rattle.serde_json.specs.Read.{read}
use Rattle.serde_json.specs.View.{items_of}
use Rattle.serde_json.specs.Written.{compact_text}
use Rattle.assertions.specs.declared.assertion.Assertion.{Assertion}
use Rattle.assertions.specs.declared.assertion.Assertion.TheVariants.{Neb, Nen}
use Rattle.assertions.specs.declared.assertion.Claim.{Claim}
use Rattle.assertion_file.specs.declared.print.TheConstants.{VERSION, PLAN_VERSION, COVER_VERSION}
use Rattle.irv_base.specs.Names.{Id}
use Rattle.assertion_file.specs.Ids.{id_of, ids_of, ids_in}
use Rattle.assertion_file.specs.Content.{Content, Plan}

-- ---- JSON

abbrev pub members_of : List (List ℕ × Data) → Members
members_of [] = no_members
members_of (named ∷ rest) = member named.0 named.1 (members_of rest)

abbrev pub array_of : List Data → Data
array_of values = array (items_of values)

-- the names must be in byte order
abbrev pub object_of : List (List ℕ × Data) → Data
object_of named = object (members_of named)

abbrev pub whole_number : ℕ → Data
whole_number n = number (unsigned n)

-- a member that is only there if there is a number
abbrev pub number_member : List ℕ → Option ℕ → List (List ℕ × Data)
number_member name None = []
number_member name (Some n) = (name, whole_number n) ∷ []

-- ---- the file's value

abbrev pub ids_value : List Id → Data
ids_value ids = array_of (map string ids)

-- the draws that are planned for an assertion, with null for a full count; without a plan the member is missing
abbrev pub draws_member : Option (Option ℕ) → List (List ℕ × Data)
draws_member None = []
draws_member (Some None) = (codes "draws", null) ∷ []
draws_member (Some (Some draws)) = (codes "draws", whole_number draws) ∷ []

-- the other members of a NEB
abbrev pub neb_others : Id → Id → ℕ → List (List ℕ × Data)
neb_others winner loser margin =
    (codes "kind", string (codes "NEB")) ∷
    (codes "loser", string loser) ∷
    (codes "margin", whole_number margin) ∷
    (codes "winner", string winner) ∷
    []

abbrev pub neb_value : Option (Option ℕ) → Id → Id → ℕ → Data
neb_value draws winner loser margin =
    object_of (draws_member draws ++ neb_others winner loser margin)

-- the other members of a NEN
abbrev pub nen_others : Id → Id → Data → ℕ → List (List ℕ × Data)
nen_others winner loser rest margin =
    (codes "kind", string (codes "NEN")) ∷
    (codes "loser", string loser) ∷
    (codes "margin", whole_number margin) ∷
    (codes "rest", rest) ∷
    (codes "winner", string winner) ∷
    []

abbrev pub nen_value : Option (Option ℕ) → Id → Id → Data → ℕ → Data
nen_value draws winner loser rest margin =
    object_of (draws_member draws ++ nen_others winner loser rest margin)

abbrev pub assertion_value : List Id → Option (Option ℕ) → Assertion → ℕ → Data
assertion_value ids draws (Neb w l) margin = neb_value draws (id_of ids w) (id_of ids l) margin
assertion_value ids draws (Nen w l rest) margin =
    nen_value draws (id_of ids w) (id_of ids l) (ids_value (ids_in ids rest)) margin

abbrev pub claim_value : List Id → Claim × Option (Option ℕ) → Data
claim_value ids told = assertion_value ids told.1 told.0.assertion told.0.margin

-- each claim with what is printed about its draws
abbrev pub told_of : Option Plan → List Claim → List (Claim × Option (Option ℕ))
told_of None claims = map (λ claim. (claim, None)) claims
told_of (Some plan) claims = map (λ planned. (planned.0, Some planned.1)) (zip claims plan.draws)

-- a file without an order is of version 3, with or without a plan
abbrev pub version_of : Option (List ℕ) → Option Plan → ℕ
version_of None plan = COVER_VERSION
version_of (Some order) None = VERSION
version_of (Some order) (Some plan) = PLAN_VERSION

-- the order, given by the ids of its candidates, the first eliminated first
abbrev pub order_member : List Id → Option (List ℕ) → List (List ℕ × Data)
order_member ids None = []
order_member ids (Some order) = (codes "order", ids_value (ids_of ids order)) ∷ []

-- candidates are given by their ids
abbrev pub file_members : Content → List (List ℕ × Data)
file_members file =
    (codes "assertions", array_of (map (claim_value file.candidates) (told_of file.plan file.claims))) ∷
    (codes "candidates", ids_value file.candidates) ∷
    number_member (codes "cards") (option_map (λ plan. plan.cards) file.plan) ++
    (codes "contest", string file.contest) ∷
    number_member (codes "gamma") (option_map (λ plan. plan.gamma) file.plan) ++
    number_member (codes "limit") (option_map (λ plan. plan.limit) file.plan) ++
    (codes "margin", whole_number file.margin) ∷
    order_member file.candidates file.order ++
    (codes "records", whole_number file.records) ∷
    (codes "version", whole_number (version_of file.order file.plan)) ∷
    (codes "winner", string (id_of file.candidates file.winner)) ∷
    []

unfoldable pub file_value : Content → Data
file_value file = object_of (file_members file)

-- ---- the file's text

abbrev pub line_feed : ℕ
line_feed = 0x0A

abbrev pub assertion_file_text : Content → List ℕ
assertion_file_text file = compact_text (file_value file) ++ line_feed ∷ []

-- ---- reading

-- the value of the bytes, if they are JSON in UTF-8
abbrev pub json_of : List ℕ → Option Data
json_of bytes = if is_utf8 bytes then read bytes else None
