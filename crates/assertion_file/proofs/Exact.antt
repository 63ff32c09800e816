-- Values that their text gives back: whole numbers of 64 bits, texts in UTF-8, and members in the order of their names.
use Rattle.std.proofs.Common.{◌≡◌, ℕ, ◌^◌, ◌<◌, max, suc, Bool, true, false, ◌||◌, List, [], ◌∷◌, ◌++◌, Some, refl, ap, ap₂, ◌∙◌}
use Rattle.std.specs.Prelude.{⊤, option_map, option_and_then}
use Rattle.std.specs.Str.{IsUtf8}
use Rattle.std.proofs.lemmas.Fmt.{IsAscii-decimal}
use Rattle.std.proofs.lemmas.Str.{IsUtf8-append, IsUtf8-from_ascii}
use Rattle.json.specs.Tree as tree
use Rattle.json.proofs.Printed.Decimals.{IsNumber-decimal}
use Rattle.json.proofs.Printed.Utf8.{are_ascii, IsUtf8-are_ascii, IsUtf8-boolean, IsUtf8-quoted}
use Rattle.serde_json.specs.Data.{Num, unsigned, negative, float, Data, null, boolean, number, string, array, object, Items, no_items, item, Members, no_members, member, put, depth, items_depth, members_depth}
use Rattle.serde_json.specs.Read.{of_json, of_items, of_members}
use Rattle.serde_json.specs.Written.{has_float, items_have_float, members_have_float, outline, items_outline, members_outline, comma_if, compact_text, items_text, members_text}
use Rattle.serde_json.proofs.Numbers.{number_of-decimal}

abbrev pub IsWhole : Num → Type 0
IsWhole (unsigned n) = n < 2 ^ 64
IsWhole (negative z) = ⊥
IsWhole (float x) = ⊥

-- the members that a reader has, once these have followed those found before
abbrev pub gathered : Members → Members → Members
gathered no_members found = found
gathered (member k d ms) found = gathered ms (put k d found)

abbrev mutual
  pub IsExact : Data → Type 0
  IsExact null = ⊤
  IsExact (boolean b) = ⊤
  IsExact (number n) = IsWhole n
  IsExact (string s) = IsUtf8 s
  IsExact (array ds) = ItemsAreExact ds
  IsExact (object ms) = MembersAreExact ms × (gathered ms no_members ≡ ms)

  pub ItemsAreExact : Items → Type 0
  ItemsAreExact no_items = ⊤
  ItemsAreExact (item d ds) = IsExact d × ItemsAreExact ds

  pub MembersAreExact : Members → Type 0
  MembersAreExact no_members = ⊤
  MembersAreExact (member k d ms) = (are_ascii k ≡ true) × IsExact d × MembersAreExact ms

-- ---- their numbers are those of JSON, and no floats

mutual
  pub HasNumbers-outline : (d : Data) → IsExact d → tree.HasNumbers (outline d)
  HasNumbers-outline null h = tt
  HasNumbers-outline (boolean b) h = tt
  HasNumbers-outline (number (unsigned n)) h = IsNumber-decimal n h
  HasNumbers-outline (number (negative z)) h = absurd h
  HasNumbers-outline (number (float x)) h = absurd h
  HasNumbers-outline (string s) h = tt
  HasNumbers-outline (array ds) h = ItemsHaveNumbers-outline ds h
  HasNumbers-outline (object ms) h = MembersHaveNumbers-outline ms h.0

  ItemsHaveNumbers-outline : (ds : Items) → ItemsAreExact ds → tree.ItemsHaveNumbers (items_outline ds)
  ItemsHaveNumbers-outline no_items h = tt
  ItemsHaveNumbers-outline (item d ds) h = (HasNumbers-outline d h.0, ItemsHaveNumbers-outline ds h.1)

  MembersHaveNumbers-outline : (ms : Members) → MembersAreExact ms → tree.MembersHaveNumbers (members_outline ms)
  MembersHaveNumbers-outline no_members h = tt
  MembersHaveNumbers-outline (member k d ms) h = (HasNumbers-outline d h.1, MembersHaveNumbers-outline ms h.2)

mutual
  pub has_float-exact : (d : Data) → IsExact d → has_float d ≡ false
  has_float-exact null h = refl
  has_float-exact (boolean b) h = refl
  has_float-exact (number (unsigned n)) h = refl
  has_float-exact (number (negative z)) h = absurd h
  has_float-exact (number (float x)) h = absurd h
  has_float-exact (string s) h = refl
  has_float-exact (array ds) h = items_have_float-exact ds h
  has_float-exact (object ms) h = members_have_float-exact ms h.0

  items_have_float-exact : (ds : Items) → ItemsAreExact ds → items_have_float ds ≡ false
  items_have_float-exact no_items h = refl
  items_have_float-exact (item d ds) h = ap₂ ◌||◌ (has_float-exact d h.0) (items_have_float-exact ds h.1)

  members_have_float-exact : (ms : Members) → MembersAreExact ms → members_have_float ms ≡ false
  members_have_float-exact no_members h = refl
  members_have_float-exact (member k d ms) h = ap₂ ◌||◌ (has_float-exact d h.1) (members_have_float-exact ms h.2)

-- ---- what a reader makes of their outline

mutual
  pub of_json-outline : (d : Data) → IsExact d → of_json (outline d) ≡ Some d
  of_json-outline null h = refl
  of_json-outline (boolean b) h = refl
  of_json-outline (number (unsigned n)) h = ap (option_map number) (number_of-decimal n h)
  of_json-outline (number (negative z)) h = absurd h
  of_json-outline (number (float x)) h = absurd h
  of_json-outline (string s) h = refl
  of_json-outline (array ds) h = ap (option_map array) (of_items-outline ds h)
  of_json-outline (object ms) h = ap (option_map object) (of_members-outline ms no_members h.0 ∙ ap Some h.1)

  of_items-outline : (ds : Items) → ItemsAreExact ds → of_items (items_outline ds) ≡ Some ds
  of_items-outline no_items h = refl
  of_items-outline (item d ds) h =
      ap (option_and_then (λ e. option_map (item e) (of_items (items_outline ds)))) (of_json-outline d h.0)
      ∙ ap (option_map (item d)) (of_items-outline ds h.1)

  of_members-outline : (ms found : Members) → MembersAreExact ms → of_members (members_outline ms) found ≡ Some (gathered ms found)
  of_members-outline no_members found h = refl
  of_members-outline (member k d ms) found h =
      ap (option_and_then (λ e. of_members (members_outline ms) (put k e found))) (of_json-outline d h.1)
      ∙ of_members-outline ms (put k d found) h.2

mutual
  pub depth-outline : (d : Data) → tree.depth (outline d) ≡ depth d
  depth-outline null = refl
  depth-outline (boolean b) = refl
  depth-outline (number n) = refl
  depth-outline (string s) = refl
  depth-outline (array ds) = ap suc (items_depth-outline ds)
  depth-outline (object ms) = ap suc (members_depth-outline ms)

  items_depth-outline : (ds : Items) → tree.items_depth (items_outline ds) ≡ items_depth ds
  items_depth-outline no_items = refl
  items_depth-outline (item d ds) = ap₂ max (depth-outline d) (items_depth-outline ds)

  members_depth-outline : (ms : Members) → tree.members_depth (members_outline ms) ≡ members_depth ms
  members_depth-outline no_members = refl
  members_depth-outline (member k d ms) = ap₂ max (depth-outline d) (members_depth-outline ms)

-- ---- their text is UTF-8

IsUtf8-ascii_then : (x : ℕ) (xs : List ℕ) → are_ascii (x ∷ []) ≡ true → IsUtf8 xs → IsUtf8 (x ∷ xs)
IsUtf8-ascii_then x xs e u = IsUtf8-append (x ∷ []) xs (IsUtf8-are_ascii (x ∷ []) e) u

IsUtf8-comma_if : (later : Bool) (xs : List ℕ) → IsUtf8 xs → IsUtf8 (comma_if later ++ xs)
IsUtf8-comma_if true xs u = IsUtf8-ascii_then 44 xs refl u
IsUtf8-comma_if false xs u = u

mutual
  pub IsUtf8-compact_text : (d : Data) → IsExact d → IsUtf8 (compact_text d)
  IsUtf8-compact_text null h = IsUtf8-are_ascii _ refl
  IsUtf8-compact_text (boolean b) h = IsUtf8-boolean b
  IsUtf8-compact_text (number (unsigned n)) h = IsUtf8-from_ascii _ (IsAscii-decimal n h)
  IsUtf8-compact_text (number (negative z)) h = absurd h
  IsUtf8-compact_text (number (float x)) h = absurd h
  IsUtf8-compact_text (string s) h = IsUtf8-quoted s h
  IsUtf8-compact_text (array ds) h = IsUtf8-ascii_then 91 _ refl (IsUtf8-items_text false ds h)
  IsUtf8-compact_text (object ms) h = IsUtf8-ascii_then 123 _ refl (IsUtf8-members_text false ms h.0)

  IsUtf8-items_text : (later : Bool) (ds : Items) → ItemsAreExact ds → IsUtf8 (items_text later ds)
  IsUtf8-items_text later no_items h = IsUtf8-are_ascii _ refl
  IsUtf8-items_text later (item d ds) h =
      IsUtf8-comma_if later _ (IsUtf8-append (compact_text d) (items_text true ds) (IsUtf8-compact_text d h.0) (IsUtf8-items_text true ds h.1))

  IsUtf8-members_text : (later : Bool) (ms : Members) → MembersAreExact ms → IsUtf8 (members_text later ms)
  IsUtf8-members_text later no_members h = IsUtf8-are_ascii _ refl
  IsUtf8-members_text later (member k d ms) h =
      IsUtf8-comma_if later _
      (IsUtf8-append _ _ (IsUtf8-quoted k (IsUtf8-are_ascii k h.0))
      (IsUtf8-ascii_then 58 _ refl (IsUtf8-append (compact_text d) (members_text true ms) (IsUtf8-compact_text d h.1) (IsUtf8-members_text true ms h.2))))
