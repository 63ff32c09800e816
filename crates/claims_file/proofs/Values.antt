-- The value of a claims file is exact, and nests little.
use Rattle.std.proofs.Common.{◌≡◌, ℕ, zero, suc, ◌≤◌, true, List, [], ◌∷◌, ◌++◌, map, Some, refl, ap, codes, ◌∙◌, arith}
use Rattle.std.specs.List.{list_all}
use Rattle.std.specs.Str.{IsUtf8}
use Rattle.std.proofs.lemmas.Bool.{and_parts}
use Rattle.std.proofs.lemmas.Str.{IsUtf8-nil}
use Rattle.json.proofs.Printed.Utf8.{IsUtf8-are_ascii}
use Rattle.serde.specs.Event.{Log}
use Rattle.serde_json.specs.Data.{no_members, string, depth, items_depth}
use Rattle.serde_json.specs.Events.{SendsValue}
use Rattle.serde_json.specs.Sent.{IsTextOf}
use Rattle.serde_json.specs.View.{items_of}
use Rattle.serde_json.proofs.FreeTexts.{text_of_value}
use Rattle.serde_json.proofs.OnLiterals.{serde_json_on_literals}
use Rattle.irv_base.specs.Names.{Id, is_name}
use Rattle.irv_base.proofs.NameText.{IsUtf8-name}
use Rattle.assertions.specs.declared.assertion.Assertion.{Assertion}
use Rattle.assertions.specs.declared.assertion.Assertion.TheVariants.{Neb, Nen}
use Rattle.assertion_file.specs.Ids.{id_of, ids_of, ids_in}
use Rattle.assertion_file.specs.Text.{json_of, members_of}
use Rattle.assertion_file.proofs.Exact.{IsExact, ItemsAreExact, gathered, has_float-exact}
use Rattle.assertion_file.proofs.ReadsBack.{json_of-line}
use Rattle.claims_file.specs.Claimed.{Claimed}
use Rattle.claims_file.specs.Text.{assertion_value, claims_members, claims_text, claims_value}

-- ---- exact

IsUtf8-id_of : (ids : List Id) (c : ℕ) → list_all is_name ids ≡ true → IsUtf8 (id_of ids c)
IsUtf8-id_of [] c h = IsUtf8-nil
IsUtf8-id_of (id ∷ ids) zero h = IsUtf8-name id (and_parts (is_name id) (list_all is_name ids) h).0
IsUtf8-id_of (id ∷ ids) (suc c) h = IsUtf8-id_of ids c (and_parts (is_name id) (list_all is_name ids) h).1

names_are_exact : (ids : List Id) → list_all is_name ids ≡ true → ItemsAreExact (items_of (map string ids))
names_are_exact [] h = tt
names_are_exact (id ∷ ids) h =
    let parts = and_parts (is_name id) (list_all is_name ids) h in
    (IsUtf8-name id parts.0, names_are_exact ids parts.1)

ids_are_exact : (ids : List Id) (cs : List ℕ) → list_all is_name ids ≡ true → ItemsAreExact (items_of (map string (ids_of ids cs)))
ids_are_exact ids [] h = tt
ids_are_exact ids (c ∷ cs) h = (IsUtf8-id_of ids c h, ids_are_exact ids cs h)

assertion_is_exact : (ids : List Id) (a : Assertion) → list_all is_name ids ≡ true → IsExact (assertion_value ids a)
unfolding serde_json_on_literals
assertion_is_exact ids (Neb w l) names =
    ((refl, IsUtf8-are_ascii (codes "NEB") refl, (refl, IsUtf8-id_of ids l names, (refl, IsUtf8-id_of ids w names, tt))), refl)
assertion_is_exact ids (Nen w l rest) names = (
  (
    refl,
    IsUtf8-are_ascii (codes "NEN") refl,
    (refl, IsUtf8-id_of ids l names, (refl, ids_are_exact ids _ names, (refl, IsUtf8-id_of ids w names, tt))),
  ),
  refl,
)

assertions_are_exact : (ids : List Id) (assertions : List Assertion) → list_all is_name ids ≡ true →
    ItemsAreExact (items_of (map (assertion_value ids) assertions))
assertions_are_exact ids [] names = tt
assertions_are_exact ids (a ∷ assertions) names = (assertion_is_exact ids a names, assertions_are_exact ids assertions names)

are_ordered : (contest : Id) (ids : List Id) (claims : Claimed) →
    gathered (members_of (claims_members contest ids claims)) no_members ≡ members_of (claims_members contest ids claims)
unfolding serde_json_on_literals
are_ordered contest ids claims = refl

-- ---- depth

depth-strings : (ids : List Id) → items_depth (items_of (map string ids)) ≡ 0
depth-strings [] = refl
depth-strings (id ∷ ids) = omega (arith, depth-strings ids)

depth-assertion : (ids : List Id) (a : Assertion) → depth (assertion_value ids a) ≤ 2
depth-assertion ids (Neb w l) = omega arith
depth-assertion ids (Nen w l rest) = omega (arith, depth-strings (ids_in ids rest))

depth-assertions : (ids : List Id) (assertions : List Assertion) → items_depth (items_of (map (assertion_value ids) assertions)) ≤ 2
depth-assertions ids [] = omega arith
depth-assertions ids (a ∷ assertions) = omega (arith, depth-assertion ids a, depth-assertions ids assertions)

module _ (contest : Id) (ids : List Id) (claims : Claimed) where
  depth-claims : depth (claims_value contest ids claims) ≤ 127
  unfolding claims_value
  depth-claims = omega (arith, depth-assertions ids claims.assertions, depth-strings ids)

  -- ---- the text, if the ids obey the rule of ids

  module _ (named : is_name contest ≡ true) (names : list_all is_name ids ≡ true) where
    are_exact : IsExact (claims_value contest ids claims)
    unfolding claims_value
    are_exact = (
      (
        refl,
        assertions_are_exact ids claims.assertions names,
        (refl, names_are_exact ids names, (refl, IsUtf8-name contest named, (refl, IsUtf8-id_of ids claims.winner names, tt))),
      ),
      are_ordered contest ids claims,
    )

    pub text_reads_back : json_of (claims_text contest ids claims) ≡ Some (claims_value contest ids claims)
    text_reads_back = json_of-line (claims_value contest ids claims) are_exact depth-claims

    -- what a writer gives for the events of the value, and a line feed
    pub printed_text : (log : Log) (bytes line : List ℕ) → SendsValue (claims_value contest ids claims) (Some []) log → IsTextOf log bytes →
        line ≡ bytes ++ 10 ∷ [] → line ≡ claims_text contest ids claims
    printed_text log bytes line sent printed with_line =
        let whole = has_float-exact (claims_value contest ids claims) are_exact in
        with_line ∙ ap (λ text. text ++ 10 ∷ []) (text_of_value (claims_value contest ids claims) log bytes sent printed whole)
