-- The text of a claims file in the layout that is read without a tree of its values: one JSON object in compact form, and a line feed.
use Rattle.std.specs.Prelude.{ℕ, List, [], ◌∷◌, ◌++◌, map, codes}
use Rattle.serde_json.specs.Data.{Data, string}
use Rattle.serde_json.specs.Written.{compact_text}
use Rattle.irv_base.specs.Names.{Id}
use Rattle.assertions.specs.declared.assertion.Assertion.{Assertion}
use Rattle.assertions.specs.declared.assertion.Assertion.TheVariants.{Neb, Nen}
use Rattle.assertion_file.specs.Ids.{id_of, ids_in}
use Rattle.assertion_file.specs.Text.{array_of, ids_value, line_feed, object_of}
use Rattle.claims_file.specs.Claimed.{Claimed}

abbrev pub neb_members : Id → Id → List (List ℕ × Data)
neb_members winner loser =
    (codes "kind", string (codes "NEB")) ∷
    (codes "loser", string loser) ∷
    (codes "winner", string winner) ∷
    []

abbrev pub neb_value : Id → Id → Data
neb_value winner loser = object_of (neb_members winner loser)

abbrev pub nen_members : Id → Id → Data → List (List ℕ × Data)
nen_members winner loser rest =
    (codes "kind", string (codes "NEN")) ∷
    (codes "loser", string loser) ∷
    (codes "rest", rest) ∷
    (codes "winner", string winner) ∷
    []

abbrev pub nen_value : Id → Id → Data → Data
nen_value winner loser rest = object_of (nen_members winner loser rest)

-- candidates are given by their ids, and those of a rest are in the contest's order
abbrev pub assertion_value : List Id → Assertion → Data
assertion_value ids (Neb w l) = neb_value (id_of ids w) (id_of ids l)
assertion_value ids (Nen w l rest) =
    nen_value (id_of ids w) (id_of ids l) (ids_value (ids_in ids rest))

abbrev pub claims_members : Id → List Id → Claimed → List (List ℕ × Data)
claims_members contest ids claims =
    (codes "assertions", array_of (map (assertion_value ids) claims.assertions)) ∷
    (codes "candidates", ids_value ids) ∷
    (codes "contest", string contest) ∷
    (codes "winner", string (id_of ids claims.winner)) ∷
    []

unfoldable pub claims_value : Id → List Id → Claimed → Data
claims_value contest ids claims = object_of (claims_members contest ids claims)

abbrev pub claims_text : Id → List Id → Claimed → List ℕ
claims_text contest ids claims = compact_text (claims_value contest ids claims) ++ line_feed ∷ []
