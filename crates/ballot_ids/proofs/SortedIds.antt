-- Ids in order, each once, in the keys of a set.
use Rattle.std.proofs.Common.{◌≡◌, ◌∙◌, ◌∷◌, [], ◌||◌, Bool, true, false, List, length, map, refl, sym, ap}
use Rattle.std.specs.Prelude.{◌↔◌}
use Rattle.std.proofs.lemmas.List.{length-map, nil_from_length}
use Rattle.std.specs.Ordering.{is_eq, match_ordering, nat_cmp}
use Rattle.std.specs.declared.cmp.Ordering.{Ordering}
use Rattle.std.specs.declared.cmp.Ordering.TheVariants.{Less, Equal, Greater}
use Rattle.std.specs.BTreeSet.{insert_key}
use Rattle.std.specs.Cmp.Lexicographic.{bytes_decides, slice_cmp, texts_ties}
use Rattle.std.specs.List.{list_any}
use Rattle.irv_base.specs.Names.{Id, is_among, is_same}
use Rattle.ballot_ids.proofs.Differing.{same-comm}

or-swap : (a b c : Bool) → (a || (b || c)) ≡ (b || (a || c))
or-swap true true c = refl
or-swap true false c = refl
or-swap false b c = refl

or-twice : (a b : Bool) → (a || b) ≡ (a || (a || b))
or-twice true b = refl
or-twice false b = refl

module _ {V : Type 0} (items : V → Id) where
  -- the set's own test finds an id among them
  pub found-among : (keys : List V) (id : Id) → list_any (λ key. is_eq (slice_cmp nat_cmp id (items key))) keys ≡ is_among (map items keys) id
  found-among [] id = refl
  found-among (key ∷ keys) id = ap (λ b. b || list_any (λ other. is_eq (slice_cmp nat_cmp id (items other))) keys) (sym (texts_ties id (items key)) ∙ same-comm id (items key))
      ∙ ap (λ b. is_same (items key) id || b) (found-among keys id)

  one-put : (o : Ordering) (key first : V) (keys behind : List V) (id : Id) → slice_cmp nat_cmp (items key) (items first) ≡ o
      → is_among (map items behind) id ≡ (is_same (items key) id || is_among (map items keys) id)
      → is_among (map items (match_ordering o (key ∷ first ∷ keys) (first ∷ keys) (first ∷ behind))) id
      ≡ (is_same (items key) id || is_among (map items (first ∷ keys)) id)
  one-put Less key first keys behind id e h = refl
  one-put Equal key first keys behind id e h =
      let same : items key ≡ items first = (bytes_decides (items key) (items first)).0 (texts_ties (items key) (items first) ∙ ap is_eq e) in
      or-twice (is_same (items first) id) (is_among (map items keys) id) ∙ ap (λ other. is_same other id || (is_same (items first) id || is_among (map items keys) id)) (sym same)
  one-put Greater key first keys behind id e h = ap (λ b. is_same (items first) id || b) h
      ∙ or-swap (is_same (items first) id) (is_same (items key) id) (is_among (map items keys) id)

  -- a key that is put in is one of them, and the others stay
  pub put-among : (keys : List V) (key : V) (id : Id) → is_among (map items (insert_key (λ a b. slice_cmp nat_cmp (items a) (items b)) keys key)) id
      ≡ (is_same (items key) id || is_among (map items keys) id)
  put-among [] key id = refl
  put-among (first ∷ keys) key id =
      one-put (slice_cmp nat_cmp (items key) (items first)) key first keys (insert_key (λ a b. slice_cmp nat_cmp (items a) (items b)) keys key) id refl
      (put-among keys key id)

  -- there are none if the set has no keys
  pub none-in : (keys : List V) (ids : List Id) → map items keys ≡ ids → (length keys ≡ 0) ↔ (ids ≡ [])
  none-in keys ids e = (
    λ none. nil_from_length ids (sym (ap length e) ∙ length-map keys items ∙ none),
    λ none. sym (length-map keys items) ∙ ap length e ∙ ap length none,
  )
