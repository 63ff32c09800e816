-- The value of an assertion file is exact, and nests little.
use Rattle.std.proofs.Common.{◌≡◌, ℕ, zero, suc, ◌≤◌, true, List, [], ◌∷◌, ◌++◌, length, map, All, Option, Some, None, refl, ap, codes, ◌∙◌, arith}
use Rattle.std.specs.Prelude.{is_some, option_map, unwrap_or, IfSome}
use Rattle.std.specs.List.{list_all}
use Rattle.std.specs.Str.{IsUtf8}
use Rattle.std.proofs.lemmas.Bool.{and_parts}
use Rattle.std.proofs.lemmas.Str.{IsUtf8-nil}
use Rattle.json.proofs.Printed.Utf8.{IsUtf8-are_ascii}
use Rattle.serde.specs.Event.{Log}
use Rattle.json.proofs.Printed.Utf8.{are_ascii}
use Rattle.serde_json.specs.Data.{Data, no_members, string, depth, items_depth}
use Rattle.serde_json.specs.Events.{SendsValue}
use Rattle.serde_json.specs.Sent.{IsTextOf}
use Rattle.serde_json.specs.View.{items_of}
use Rattle.serde_json.proofs.FreeTexts.{text_of_value}
use Rattle.serde_json.proofs.OnLiterals.{serde_json_on_literals}
use Rattle.irv_base.specs.Names.{Id, is_name}
use Rattle.irv_base.specs.declared.limits.TheConstants.{MOST_RECORDS}
use Rattle.assertions.specs.declared.assertion.Assertion.{Assertion}
use Rattle.assertions.specs.declared.assertion.Assertion.TheVariants.{Neb, Nen}
use Rattle.assertion_file.specs.Ids.{id_of, ids_of, ids_in}
use Rattle.assertion_file.specs.Content.{Content, Plan, HasNames, IsDrawCount, IsSound, IsSoundPlan, candidate_count}
use Rattle.assertion_file.specs.Text.{array_of, assertion_value, claim_value, draws_member, file_members, file_value, members_of, neb_others, nen_others, number_member, order_member, ids_value, told_of, version_of, whole_number, assertion_file_text, json_of}
use Rattle.assertion_file.proofs.Exact.{IsExact, ItemsAreExact, MembersAreExact, gathered, has_float-exact}
use Rattle.irv_base.proofs.NameText.{IsUtf8-name}
use Rattle.assertion_file.proofs.ReadsBack.{json_of-line}
use Rattle.assertion_file.proofs.Told.{Told, IsSoundTold, told-sound}

-- ---- exact

IsUtf8-id_of : (ids : List Id) (c : ℕ) → list_all is_name ids ≡ true → IsUtf8 (id_of ids c)
IsUtf8-id_of [] c h = IsUtf8-nil
IsUtf8-id_of (id ∷ ids) zero h = IsUtf8-name id (and_parts (is_name id) (list_all is_name ids) h).0
IsUtf8-id_of (id ∷ ids) (suc c) h = IsUtf8-id_of ids c (and_parts (is_name id) (list_all is_name ids) h).1

names_are_exact : (ids : List Id) → list_all is_name ids ≡ true → ItemsAreExact (items_of (map string ids))
names_are_exact [] h = tt
names_are_exact (id ∷ ids) h =
    let parts = and_parts (is_name id) (list_all is_name ids) h in
    (IsUtf8-name id parts.0, names_are_exact ids parts.1)

ids_are_exact : (ids : List Id) (cs : List ℕ) → list_all is_name ids ≡ true → ItemsAreExact (items_of (map string (ids_of ids cs)))
ids_are_exact ids [] h = tt
ids_are_exact ids (c ∷ cs) h = (IsUtf8-id_of ids c h, ids_are_exact ids cs h)

-- members that follow others
append_is_exact : (xs ys : List (List ℕ × Data)) → MembersAreExact (members_of xs) → MembersAreExact (members_of ys) →
    MembersAreExact (members_of (xs ++ ys))
append_is_exact [] ys h k = k
append_is_exact (x ∷ xs) ys h k = (h.0, h.1, append_is_exact xs ys h.2 k)

number_is_exact : (name : List ℕ) (number : Option ℕ) → are_ascii name ≡ true → IfSome number (λ n. n ≤ 4294967295) →
    MembersAreExact (members_of (number_member name number))
number_is_exact name None ascii few = tt
number_is_exact name (Some n) ascii few = (ascii, omega (arith, few), tt)

draws_are_exact : (draws : Option (Option ℕ)) → IfSome (unwrap_or draws None) IsDrawCount → MembersAreExact (members_of (draws_member draws))
draws_are_exact None few = tt
draws_are_exact (Some None) few = (refl, tt, tt)
draws_are_exact (Some (Some n)) few = let most = few.most in (refl, omega (arith, most), tt)

neb_is_ordered : (draws : Option (Option ℕ)) (winner loser : Id) (margin : ℕ) →
    gathered (members_of (draws_member draws ++ neb_others winner loser margin)) no_members ≡ members_of (draws_member draws ++ neb_others winner loser margin)
unfolding serde_json_on_literals
neb_is_ordered None winner loser margin = refl
neb_is_ordered (Some None) winner loser margin = refl
neb_is_ordered (Some (Some n)) winner loser margin = refl

nen_is_ordered : (draws : Option (Option ℕ)) (winner loser : Id) (rest : Data) (margin : ℕ) →
    gathered (members_of (draws_member draws ++ nen_others winner loser rest margin)) no_members ≡ members_of (draws_member draws ++ nen_others winner loser rest margin)
unfolding serde_json_on_literals
nen_is_ordered None winner loser rest margin = refl
nen_is_ordered (Some None) winner loser rest margin = refl
nen_is_ordered (Some (Some n)) winner loser rest margin = refl

assertion_is_exact : (ids : List Id) (draws : Option (Option ℕ)) (a : Assertion) (margin : ℕ) → list_all is_name ids ≡ true → margin ≤ MOST_RECORDS →
    IfSome (unwrap_or draws None) IsDrawCount → IsExact (assertion_value ids draws a margin)
assertion_is_exact ids draws (Neb w l) margin names few counted = (
  append_is_exact (draws_member draws) _ (draws_are_exact draws counted)
      (refl, IsUtf8-are_ascii (codes "NEB") refl, (refl, IsUtf8-id_of ids l names, (refl, omega arith, (refl, IsUtf8-id_of ids w names, tt)))),
  neb_is_ordered draws (id_of ids w) (id_of ids l) margin,
)
assertion_is_exact ids draws (Nen w l rest) margin names few counted = (
  append_is_exact (draws_member draws) _ (draws_are_exact draws counted) (
    refl,
    IsUtf8-are_ascii (codes "NEN") refl,
    (
      refl,
      IsUtf8-id_of ids l names,
      (refl, omega arith, (refl, ids_are_exact ids _ names, (refl, IsUtf8-id_of ids w names, tt))),
    ),
  ),
  nen_is_ordered draws (id_of ids w) (id_of ids l) (ids_value (ids_in ids rest)) margin,
)

claims_are_exact : (n records : ℕ) (planned : _) (ids : List Id) (told : List Told) → list_all is_name ids ≡ true → records ≤ MOST_RECORDS →
    All (IsSoundTold n records planned) told → ItemsAreExact (items_of (map (claim_value ids) told))
claims_are_exact n records planned ids [] names few sound = tt
claims_are_exact n records planned ids (one ∷ told) names few sound =
    let first = sound 0 one (omega arith) in
    let most = first.claim.margin.most in (
      assertion_is_exact ids one.1 one.0.assertion one.0.margin names (omega arith) first.draws,
      claims_are_exact n records planned ids told names few (λ i d within. sound (suc i) d (omega arith)),
    )

-- the numbers of a plan
plan_number : (records claims : ℕ) (plan : Option Plan) (of : Plan → ℕ) →
    ((plan : Plan) → IsSoundPlan records claims plan → of plan ≤ 4294967295) → IfSome plan (IsSoundPlan records claims) →
    IfSome (option_map of plan) (λ n. n ≤ 4294967295)
plan_number records claims None of few h = tt
plan_number records claims (Some plan) of few h = few plan h

file_is_ordered : (file : Content) → gathered (members_of (file_members file)) no_members ≡ members_of (file_members file)
unfolding serde_json_on_literals
file_is_ordered file = by file.order file.plan where
  by : (order : Option (List ℕ)) (plan : Option Plan) →
      gathered (members_of (file_members (record file { order = order; plan = plan }))) no_members
      ≡ members_of (file_members (record file { order = order; plan = plan }))
  by None None = refl
  by None (Some plan) = refl
  by (Some order) None = refl
  by (Some order) (Some plan) = refl

version_is_few : (order : Option (List ℕ)) (plan : Option Plan) → version_of order plan ≤ 3
version_is_few None plan = omega arith
version_is_few (Some order) None = omega arith
version_is_few (Some order) (Some plan) = omega arith

order_is_exact : (ids : List Id) (order : Option (List ℕ)) → list_all is_name ids ≡ true → MembersAreExact (members_of (order_member ids order))
order_is_exact ids None names = tt
order_is_exact ids (Some order) names = (refl, ids_are_exact ids order names, tt)

-- the members of a file, in five parts
abbrev pub list_members : Content → List (List ℕ × Data)
list_members file =
    (codes "assertions", array_of (map (claim_value file.candidates) (told_of file.plan file.claims))) ∷
    (codes "candidates", ids_value file.candidates) ∷
    number_member (codes "cards") (option_map (λ plan. plan.cards) file.plan)

abbrev pub contest_members : Content → List (List ℕ × Data)
contest_members file = (codes "contest", string file.contest) ∷ number_member (codes "gamma") (option_map (λ plan. plan.gamma) file.plan)

abbrev pub limit_members : Content → List (List ℕ × Data)
limit_members file = number_member (codes "limit") (option_map (λ plan. plan.limit) file.plan)

abbrev pub margin_members : Content → List (List ℕ × Data)
margin_members file = (codes "margin", whole_number file.margin) ∷ order_member file.candidates file.order

abbrev pub last_members : Content → List (List ℕ × Data)
last_members file =
    (codes "records", whole_number file.records) ∷
    (codes "version", whole_number (version_of file.order file.plan)) ∷
    (codes "winner", string (id_of file.candidates file.winner)) ∷
    []

module _ (file : Content) (sound : IsSound file) (contest : is_name file.contest ≡ true) (names : list_all is_name file.candidates ≡ true) where
  fits : (of : Plan → ℕ) → ((plan : Plan) → IsSoundPlan file.records (length file.claims) plan → of plan ≤ 4294967295) →
      IfSome (option_map of file.plan) (λ n. n ≤ 4294967295)
  fits of few = plan_number file.records (length file.claims) file.plan of few sound.plan

  lists_are_exact : MembersAreExact (members_of (list_members file))
  lists_are_exact =
      let few = sound.most_records in
      let claims = told-sound (candidate_count file) file.records file.plan file.claims sound.claims sound.plan in (
        refl,
        claims_are_exact (candidate_count file) file.records (is_some file.plan) file.candidates (told_of file.plan file.claims) names few claims,
        (
          refl,
          names_are_exact file.candidates names,
          number_is_exact (codes "cards") _ refl (fits (λ plan. plan.cards) (λ plan s. let most = s.most_cards in omega (arith, most))),
        ),
      )

  contest_is_exact : MembersAreExact (members_of (contest_members file))
  contest_is_exact = (
    refl,
    IsUtf8-name file.contest contest,
    number_is_exact (codes "gamma") _ refl (fits (λ plan. plan.gamma) (λ plan s. let most = s.most_gamma in omega (arith, most))),
  )

  margin_is_exact : MembersAreExact (members_of (margin_members file))
  margin_is_exact =
      let few = sound.most_records in
      let most = sound.margin.most in
      (refl, omega arith, order_is_exact file.candidates file.order names)

  last_are_exact : MembersAreExact (members_of (last_members file))
  last_are_exact =
      let few = sound.most_records in
      let version = version_is_few file.order file.plan in
      (refl, omega arith, (refl, omega (arith, version), (refl, IsUtf8-id_of file.candidates file.winner names, tt)))

  pub file_is_exact : IsExact (file_value file)
  unfolding file_value
  file_is_exact = (
    append_is_exact (list_members file ++ contest_members file ++ limit_members file ++ margin_members file) (last_members file)
        (append_is_exact (list_members file ++ contest_members file ++ limit_members file) (margin_members file)
        (append_is_exact (list_members file ++ contest_members file) (limit_members file)
        (append_is_exact (list_members file) (contest_members file) lists_are_exact contest_is_exact)
        (number_is_exact (codes "limit") _ refl (fits (λ plan. plan.limit) (λ plan s. let most = s.most_limit in omega (arith, most)))))
        margin_is_exact)
        last_are_exact,
    file_is_ordered file,
  )

-- ---- depth

depth-strings : (ids : List Id) → items_depth (items_of (map string ids)) ≡ 0
depth-strings [] = refl
depth-strings (id ∷ ids) = omega (arith, depth-strings ids)

depth-assertion : (ids : List Id) (draws : Option (Option ℕ)) (a : Assertion) (margin : ℕ) → depth (assertion_value ids draws a margin) ≤ 2
depth-assertion ids None (Neb w l) margin = omega arith
depth-assertion ids (Some None) (Neb w l) margin = omega arith
depth-assertion ids (Some (Some n)) (Neb w l) margin = omega arith
depth-assertion ids None (Nen w l rest) margin = omega (arith, depth-strings (ids_in ids rest))
depth-assertion ids (Some None) (Nen w l rest) margin = omega (arith, depth-strings (ids_in ids rest))
depth-assertion ids (Some (Some n)) (Nen w l rest) margin = omega (arith, depth-strings (ids_in ids rest))

depth-claims : (ids : List Id) (told : List Told) → items_depth (items_of (map (claim_value ids) told)) ≤ 2
depth-claims ids [] = omega arith
depth-claims ids (one ∷ told) = omega (arith, depth-assertion ids one.1 one.0.assertion one.0.margin, depth-claims ids told)

pub depth-file_value : (file : Content) → depth (file_value file) ≤ 127
unfolding file_value
depth-file_value file = by file.order file.plan where
  by : (order : Option (List ℕ)) (plan : Option Plan) → depth (file_value (record file { order = order; plan = plan })) ≤ 127
  by None None = omega (arith, depth-claims file.candidates (told_of None file.claims), depth-strings file.candidates)
  by None (Some plan) = omega (arith, depth-claims file.candidates (told_of (Some plan) file.claims), depth-strings file.candidates)
  by (Some order) None = omega (arith, depth-claims file.candidates (told_of None file.claims), depth-strings file.candidates, depth-strings (ids_of file.candidates order))
  by (Some order) (Some plan) =
      omega (arith, depth-claims file.candidates (told_of (Some plan) file.claims), depth-strings file.candidates, depth-strings (ids_of file.candidates order))

pub text_reads_back : (file : Content) → IsSound file → HasNames file → json_of (assertion_file_text file) ≡ Some (file_value file)
text_reads_back file sound names = json_of-line (file_value file) (file_is_exact file sound names.contest names.candidates) (depth-file_value file)

-- ---- the text

-- what a writer gives for the events of the value, and a line feed
pub printed_text : (file : Content) (log : Log) (bytes line : List ℕ) → IsSound file → HasNames file → SendsValue (file_value file) (Some []) log →
    IsTextOf log bytes →
    line ≡ bytes ++ 10 ∷ [] → line ≡ assertion_file_text file
printed_text file log bytes line sound names sent printed with_line =
    let whole = has_float-exact (file_value file) (file_is_exact file sound names.contest names.candidates) in
    with_line ∙ ap (λ text. text ++ 10 ∷ []) (text_of_value (file_value file) log bytes sent printed whole)
