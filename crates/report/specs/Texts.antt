-- Candidates, orders and assertions, printed with the ids of a contest's candidates.
use Rattle.std.specs.Prelude.{ℕ, List, [], ◌∷◌, ◌++◌, codes}
use Rattle.irv_base.specs.Names.{Id, comma}
use Rattle.assertions.specs.declared.assertion.Assertion.{Assertion}
use Rattle.assertions.specs.declared.assertion.Assertion.TheVariants.{Neb, Nen}
use Rattle.assertion_file.specs.Ids.{id_of, ids_of, ids_in}

-- the ids, separated by commas
abbrev pub joined : List Id → List ℕ
joined [] = []
joined (id ∷ []) = id
joined (id ∷ next ∷ rest) = id ++ comma ∷ joined (next ∷ rest)

-- the ids of an order's candidates, with the first eliminated first
abbrev pub order_text : List Id → List ℕ → List ℕ
order_text ids order = joined (ids_of ids order)

-- the ids of a set's members, in the contest's order
abbrev pub set_text : List Id → ℕ → List ℕ
set_text ids set = joined (ids_in ids set)

abbrev pub assertion_text : List Id → Assertion → List ℕ
assertion_text ids (Neb w l) = codes "NEB " ++ id_of ids w ++ codes " " ++ id_of ids l
assertion_text ids (Nen w l rest) =
    codes "NEN " ++ id_of ids w ++ codes " " ++ id_of ids l
    ++ codes " {" ++ set_text ids rest ++ codes "}"
