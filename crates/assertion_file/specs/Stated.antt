-- What a JSON value states: the members of the file's object, and the members of an assertion.
use Rattle.std.specs.Prelude.{ℕ, List, [], ◌∷◌, map, codes, nat_le, ◌==◌, ◌&&◌, Bool, if◌then◌else◌, Option, Some, None, is_none, is_some, unwrap_or, option_map, option_and_then}
use Rattle.std.specs.List.{list_all}
use Rattle.serde_json.specs.Data.{Data, Items, no_items, item}
use Rattle.serde_json.specs.Find.{get, as_null, as_number, as_str, as_array, as_u64}
use Rattle.irv_base.specs.Names.{Id, is_same}
use Rattle.assertion_file.specs.declared.members.TheConstants.{MOST_NUMBER}
use Rattle.assertion_file.specs.declared.members.DrawsMember.{DrawsMember}
use Rattle.assertion_file.specs.declared.members.DrawsMember.TheVariants.{Needed, Unread, Absent}
use Rattle.assertion_file.specs.declared.members.Terms.{Terms}
use Rattle.assertion_file.specs.declared.print.TheConstants.{PLAN_VERSION, COVER_VERSION}

infixl 10 ◌>>=◌
abbrev pub ◌>>=◌ : {A B : Type 0} → Option A → (A → Option B) → Option B
found >>= more = option_and_then more found

-- ---- the kinds of members

-- a whole number without a sign, a point or an exponent
abbrev pub number : Data → Option ℕ
number value = do
  any ← as_number value
  n ← as_u64 any
  if nat_le n MOST_NUMBER then Some n else None

abbrev pub number_or_null : Data → Option (Option ℕ)
number_or_null value =
    if is_some (as_null value) then Some None else option_map Some (number value)

abbrev pub elements : Items → List Data
elements no_items = []
elements (item value values) = value ∷ elements values

abbrev pub list : Data → Option (List Data)
list value = option_map elements (as_array value)

abbrev pub is_text : Data → Bool
is_text value = is_some (as_str value)

abbrev pub text_of : Data → List ℕ
text_of value = unwrap_or (as_str value) []

abbrev pub texts_of : List Data → List (List ℕ)
texts_of values = map text_of values

-- a list of only texts
abbrev pub texts : Data → Option (List (List ℕ))
texts value = do
  values ← list value
  if list_all is_text values then Some (texts_of values) else None

-- the member with that name, if the value is an object that has one of that kind
abbrev pub member_as : {A : Type 0} → (Data → Option A) → List ℕ → Data → Option A
member_as kind name value = do
  found ← get name value
  kind found

abbrev pub text_in : List ℕ → Data → Option (List ℕ)
text_in = member_as as_str

abbrev pub number_in : List ℕ → Data → Option ℕ
number_in = member_as number

abbrev pub list_in : List ℕ → Data → Option (List Data)
list_in = member_as list

abbrev pub texts_in : List ℕ → Data → Option (List (List ℕ))
texts_in = member_as texts

abbrev pub lacks : List ℕ → Data → Bool
lacks name value = is_none (get name value)

-- ---- the file's object

-- version 2 has the terms of a plan; version 3 may have them, and has no order
pub record Heading : Type 0 where
  pub assertions : List Data
  pub candidates : List Id
  pub contest : Id
  pub margin : ℕ
  pub order : Option (List Id)
  pub records : ℕ
  pub terms : Option Terms
  pub version : ℕ
  pub winner : Id

abbrev pub terms_of : Data → Option Terms
terms_of value = do
  cards ← number_in (codes "cards") value
  gamma ← number_in (codes "gamma") value
  limit ← number_in (codes "limit") value
  Some (record { cards = cards; gamma = gamma; limit = limit })

-- all of the terms, or none
abbrev pub terms_or_none : Data → Option (Option Terms)
terms_or_none value =
    if lacks (codes "cards") value && lacks (codes "gamma") value && lacks (codes "limit") value
    then Some None
    else option_map Some (terms_of value)

-- in other versions the terms aren't looked at
abbrev pub terms_in : ℕ → Data → Option (Option Terms)
terms_in version value =
    if version == PLAN_VERSION then option_map Some (terms_of value) else
    (if version == COVER_VERSION then terms_or_none value else Some None)

-- nothing, if the value has no member with that name
abbrev pub none_if_absent : {A : Type 0} → List ℕ → Data → Option (Option A)
none_if_absent name value = if lacks name value then Some None else None

abbrev pub order_in : ℕ → Data → Option (Option (List Id))
order_in version value =
    if version == COVER_VERSION then none_if_absent (codes "order") value else
    option_map Some (texts_in (codes "order") value)

unfoldable pub heading_in : Data → Option Heading
heading_in value = do
  assertions ← list_in (codes "assertions") value
  candidates ← texts_in (codes "candidates") value
  contest ← text_in (codes "contest") value
  margin ← number_in (codes "margin") value
  records ← number_in (codes "records") value
  version ← number_in (codes "version") value
  order ← order_in version value
  terms ← terms_in version value
  winner ← text_in (codes "winner") value
  Some (record {
    assertions = assertions;
    candidates = candidates;
    contest = contest;
    margin = margin;
    order = order;
    records = records;
    terms = terms;
    version = version;
    winner = winner;
  })

-- ---- an assertion

-- a NEB has no rest; no draws are planned if the member is null or the file has no plan
pub record Entry : Type 0 where
  pub winner : Id
  pub loser : Id
  pub margin : ℕ
  pub rest : Option (List Id)
  pub draws : Option ℕ

-- the rest of a NEB isn't looked at
abbrev pub rest_in : Id → Data → Option (Option (List Id))
rest_in kind value =
    if is_same kind (codes "NEB") then Some None else
    (if is_same kind (codes "NEN") then option_map Some (texts_in (codes "rest") value) else None)

-- a plan has draws for each assertion; without one, version 1 doesn't look at them and version 3 has none
abbrev pub draws_asked : ℕ → Option Terms → DrawsMember
draws_asked version (Some terms) = Needed
draws_asked version None = if version == COVER_VERSION then Absent else Unread

abbrev pub draws_in : DrawsMember → Data → Option (Option ℕ)
draws_in Needed value = member_as number_or_null (codes "draws") value
draws_in Unread value = Some None
draws_in Absent value = none_if_absent (codes "draws") value

unfoldable pub entry_in : DrawsMember → Data → Option Entry
entry_in asked value = do
  kind ← text_in (codes "kind") value
  winner ← text_in (codes "winner") value
  loser ← text_in (codes "loser") value
  margin ← number_in (codes "margin") value
  rest ← rest_in kind value
  draws ← draws_in asked value
  Some (record { winner = winner; loser = loser; margin = margin; rest = rest; draws = draws })
