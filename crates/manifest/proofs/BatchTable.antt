-- The ids of batches in a table of places, and one more id.
use Rattle.std.proofs.Common.{◌⊎◌, inl, inr, ◌==◌, ◌≡◌, ◌∙◌, ◌++◌, ◌∷◌, [], ◌+◌, ◌-◌, ◌<◌, ◌≤◌, ℕ, zero, suc, Bool, true, false, List, Option, Some, None, length, get_or, set, cond, refl, sym, ap, subst, arith, length-append}
use Rattle.std.specs.Prelude.{is_some, option_map, position}
use Rattle.std.specs.Cmp.Lexicographic.{bytes_decides}
use Rattle.std.specs.Option.{unwrap_or}
use Rattle.std.proofs.lemmas.Bool.{both_ways, cases_Bool, cases_eq}
use Rattle.std.proofs.lemmas.List.{get_or-append-add, get_or-set_other, get_or-set_same, get_or_append_left, length-set}
use Rattle.std.proofs.lemmas.List.Quantifiers.{position-Some}
use Rattle.irv_base.specs.Names.{Id, is_among, is_name, is_same}
use Rattle.irv_base.proofs.Positions.{first_place, later_place, none_first, some_first, some_position}
use Rattle.ballot_ids.proofs.IdBytes.{read_at}
use Rattle.ballot_ids.proofs.Differing.{among-set, or-false, same-comm}
use Rattle.manifest.specs.BatchIds.{IsPlaced, IsTable, index_by, place_in}

-- ---- the id at a place

index-some : (ids : List Id) (k : ℕ) (later : Option ℕ) (id : Id) → index_by ids (suc k) later id ≡ cond (is_same (get_or ids k []) id) (Some k) later
index-some ids k later id =
    let some : (suc k == 0) ≡ false = grind arith in
    let e : suc k - 1 ≡ k = omega arith in
    ap (λ b. cond b None (cond (is_same (get_or ids (suc k - 1) []) id) (Some (suc k - 1)) later)) some
    ∙ ap (λ n. cond (is_same (get_or ids n []) id) (Some n) later) e

-- what the table has at the place of an id
pub record AtPlace (ids : List Id) (table : List ℕ) (later : Option ℕ) (id : Id) (place number : ℕ) : Type 0 where
  pub at : place ≡ place_in (length table) id
  pub within : place < length table
  pub first : get_or table place 0 ≡ number
  pub placed : IsPlaced ids number later id

-- the same, in the form in which the code learns it
pub at_place : (ids : List Id) (table : List ℕ) (later : Id → Option ℕ) (id : Id) (places place number : ℕ) → IsTable ids table later → is_name id ≡ true →
    places ≡ length table → place ≡ place_in places id → place < places → number ≡ get_or table place number → AtPlace ids table (later id) id place number
at_place ids table later id places place number h named long there below is =
    let at : place ≡ place_in (length table) id = there ∙ ap (λ n. place_in n id) long in
    let within : place < length table = omega (arith, below, long) in
    let first = read_at table place number 0 within is in
    record {
      at = at;
      within = within;
      first = first;
      placed = subst (λ n. IsPlaced ids n (later id) id) (ap (λ k. get_or table k 0) (sym at) ∙ first) (h.placed id named);
    }

pub first_tells : (ids : List Id) (first : ℕ) (later : Option ℕ) (id own : Id) (same : Bool) → IsPlaced ids first later id → (first ≡ 0 → ⊥) →
    own ≡ get_or ids (first - 1) own → same ≡ is_same own id → is_same (get_or ids (first - 1) []) id ≡ same
first_tells ids first later id own same h some is e =
    let below : first - 1 < length ids = omega (arith, h.within, some) in
    ap (λ x. is_same x id) (read_at ids (first - 1) own [] below is) ∙ sym e

-- ---- whether an id is one of them

among : (ids : List Id) (id : Id) (o : Option ℕ) → position (is_same id) ids ≡ o → is_among ids id ≡ is_some o
among ids id o e = sym (among-set ids id) ∙ sym (some_position (is_same id) ids) ∙ ap is_some e

pub new_at_free : (ids : List Id) (first : ℕ) (later : Option ℕ) (id : Id) → IsPlaced ids first later id → first ≡ 0 → is_among ids id ≡ false
new_at_free ids zero later id h none = among ids id None (sym h.index)
new_at_free ids (suc k) later id h none = absurd (omega (arith, none))

pub first_again : (ids : List Id) (first : ℕ) (later : Option ℕ) (id : Id) → IsPlaced ids first later id → (first ≡ 0 → ⊥) →
    is_same (get_or ids (first - 1) []) id ≡ true → is_among ids id ≡ true
first_again ids zero later id h some same = absurd (some refl)
first_again ids (suc k) later id h some same =
    let e : suc k - 1 ≡ k = omega arith in
    let own : is_same (get_or ids k []) id ≡ true = ap (λ n. is_same (get_or ids n []) id) (sym e) ∙ same in
    among ids id (Some k) (sym h.index ∙ index-some ids k later id ∙ ap (λ b. cond b (Some k) later) own)

position-later : (ids : List Id) (first : ℕ) (later : Option ℕ) (id : Id) → IsPlaced ids first later id → (first ≡ 0 → ⊥) →
    is_same (get_or ids (first - 1) []) id ≡ false → position (is_same id) ids ≡ later
position-later ids zero later id h some other = absurd (some refl)
position-later ids (suc k) later id h some other =
    let e : suc k - 1 ≡ k = omega arith in
    let apart : is_same (get_or ids k []) id ≡ false = ap (λ n. is_same (get_or ids n []) id) (sym e) ∙ other in
    sym h.index ∙ index-some ids k later id ∙ ap (λ b. cond b (Some k) later) apart

pub among_later : (ids : List Id) (first : ℕ) (later : Option ℕ) (id : Id) → IsPlaced ids first later id → (first ≡ 0 → ⊥) →
    is_same (get_or ids (first - 1) []) id ≡ false → is_among ids id ≡ is_some later
among_later ids first later id h some other = among ids id later (position-later ids first later id h some other)

pub found_within : (ids : List Id) (first i : ℕ) (later : Option ℕ) (id : Id) → IsPlaced ids first later id → (first ≡ 0 → ⊥) →
    is_same (get_or ids (first - 1) []) id ≡ false → later ≡ Some i → i < length ids
found_within ids first i later id h some other is =
    (position-Some (is_same id) ids i [] (position-later ids first later id h some other ∙ is)).0

-- ---- one more id, and how another id is found then

position-push : (ids : List Id) (id other : Id) → is_same id other ≡ false → position (is_same other) (ids ++ id ∷ []) ≡ position (is_same other) ids
position-push ids id other apart = by (position (is_same other) ids) refl where
  by : (o : Option ℕ) → position (is_same other) ids ≡ o → position (is_same other) (ids ++ id ∷ []) ≡ o
  by None e = none_first (is_same other) ids (id ∷ []) e
      ∙ ap (option_map (λ i. length ids + i)) (later_place (is_same other) id [] (same-comm other id ∙ apart))
  by (Some i) e = some_first (is_same other) ids (id ∷ []) i e

position-last : (ids : List Id) (id : Id) → is_among ids id ≡ false → position (is_same id) (ids ++ id ∷ []) ≡ Some (length ids)
position-last ids id new = by (position (is_same id) ids) refl where
  by : (o : Option ℕ) → position (is_same id) ids ≡ o → position (is_same id) (ids ++ id ∷ []) ≡ Some (length ids)
  by None e = none_first (is_same id) ids (id ∷ []) e
      ∙ ap (option_map (λ i. length ids + i)) (first_place (is_same id) id [] ((bytes_decides id id).1 refl)) ∙ ap Some (omega arith)
  by (Some i) e =
      let there = sym (among-set ids id) ∙ sym (some_position (is_same id) ids) ∙ ap Rattle.std.specs.Prelude.is_some e in
      absurd (both_ways (is_among ids id) new there)

index-push : (ids : List Id) (id other : Id) (first : ℕ) (later : Option ℕ) → first ≤ length ids →
    index_by (ids ++ id ∷ []) first later other ≡ index_by ids first later other
index-push ids id other zero later within = refl
index-push ids id other (suc k) later within =
    index-some (ids ++ id ∷ []) k later other
    ∙ ap (λ x. cond (is_same x other) (Some k) later) (get_or_append_left ids (id ∷ []) [] k (omega (arith, within)))
    ∙ sym (index-some ids k later other)

stays : (ids : List Id) (id other : Id) (first : ℕ) (later : Option ℕ) → is_same id other ≡ false → IsPlaced ids first later other →
    IsPlaced (ids ++ id ∷ []) first later other
stays ids id other first later apart h = record {
  index = index-push ids id other first later h.within ∙ h.index ∙ sym (position-push ids id other apart);
  within = omega (arith, h.within, length-append ids (id ∷ []));
  free = h.free;
}

-- ---- at a place that was free

comes_first : (ids : List Id) (id other : Id) (later : Option ℕ) → is_among ids id ≡ false → IsPlaced ids 0 later other →
    IsPlaced (ids ++ id ∷ []) (length ids + 1) later other
comes_first ids id other later new h = record {
  index = by (cases_Bool (is_same id other));
  within = omega (arith, length-append ids (id ∷ []));
  free = λ e. absurd (omega (arith, e));
} where
  last : get_or (ids ++ id ∷ []) (length ids) [] ≡ id
  last = let e : length ids ≡ length ids + 0 = omega arith in ap (λ k. get_or (ids ++ id ∷ []) k []) e ∙ get_or-append-add ids (id ∷ []) 0 []

  said : index_by (ids ++ id ∷ []) (length ids + 1) later other ≡ cond (is_same id other) (Some (length ids)) later
  said =
      let e : length ids + 1 ≡ suc (length ids) = omega arith in
      ap (λ k. index_by (ids ++ id ∷ []) k later other) e ∙ index-some (ids ++ id ∷ []) (length ids) later other
      ∙ ap (λ x. cond (is_same x other) (Some (length ids)) later) last

  by : (is_same id other ≡ true) ⊎ (is_same id other ≡ false) →
      index_by (ids ++ id ∷ []) (length ids + 1) later other ≡ position (is_same other) (ids ++ id ∷ [])
  by (inl t) =
      let e : id ≡ other = (bytes_decides id other).0 t in
      said ∙ ap (λ b. cond b (Some (length ids)) later) t ∙ sym (position-last ids id new) ∙ ap (λ x. position (is_same x) (ids ++ id ∷ [])) e
  by (inr f) = said ∙ ap (λ b. cond b (Some (length ids)) later) f ∙ h.free refl ∙ h.index ∙ sym (position-push ids id other f)

pub at_free : (ids : List Id) (table : List ℕ) (later : Id → Option ℕ) (id : Id) (place : ℕ) → IsTable ids table later → is_among ids id ≡ false →
    place ≡ place_in (length table) id → place < length table → get_or table place 0 ≡ 0 → IsTable (ids ++ id ∷ []) (set table place (length ids + 1)) later
at_free ids table later id place h new at within free = record {
  some = omega (arith, h.some, length-set table place (length ids + 1));
  placed = λ other named. subst (λ n. IsPlaced (ids ++ id ∷ []) (get_or (set table place (length ids + 1)) (place_in n other) 0) (later other) other)
      (sym (length-set table place (length ids + 1))) (by other named (cases_eq (place_in (length table) other) place));
} where
  by : (other : Id) → is_name other ≡ true → (place_in (length table) other ≡ place) ⊎ (place_in (length table) other ≡ place → ⊥) →
      IsPlaced (ids ++ id ∷ []) (get_or (set table place (length ids + 1)) (place_in (length table) other) 0) (later other) other
  by other named (inl e) =
      let was : get_or table (place_in (length table) other) 0 ≡ 0 = ap (λ k. get_or table k 0) e ∙ free in
      let is : get_or (set table place (length ids + 1)) (place_in (length table) other) 0 ≡ length ids + 1 =
      ap (λ k. get_or (set table place (length ids + 1)) k 0) e ∙ get_or-set_same table place (length ids + 1) 0 within in
      subst (λ n. IsPlaced (ids ++ id ∷ []) n (later other) other) (sym is)
      (comes_first ids id other (later other) new (subst (λ n. IsPlaced ids n (later other) other) was (h.placed other named)))
  by other named (inr apart) =
      let is = get_or-set_other table place (place_in (length table) other) (length ids + 1) 0 apart in
      subst (λ n. IsPlaced (ids ++ id ∷ []) n (later other) other) (sym is)
      (stays ids id other (get_or table (place_in (length table) other) 0) (later other) (differs (cases_Bool (is_same id other))) (h.placed other named)) where
        differs : (is_same id other ≡ true) ⊎ (is_same id other ≡ false) → is_same id other ≡ false
        differs (inr f) = f
        differs (inl t) = absurd (apart (ap (place_in (length table)) (sym ((bytes_decides id other).0 t)) ∙ sym at))

-- ---- at a place that another id has

apart-at : (ids : List Id) (id : Id) (k : ℕ) → is_among ids id ≡ false → k < length ids → is_same (get_or ids k []) id ≡ false
apart-at [] id k new less = absurd (omega (arith, less))
apart-at (a ∷ ids) id zero new less = (or-false (is_same a id) (is_among ids id) new).0
apart-at (a ∷ ids) id (suc k) new less = apart-at ids id k (or-false (is_same a id) (is_among ids id) new).1 (omega (arith, less))

comes_later : (ids : List Id) (id : Id) (first : ℕ) (was : Option ℕ) → is_among ids id ≡ false → (first ≡ 0 → ⊥) → IsPlaced ids first was id →
    IsPlaced (ids ++ id ∷ []) first (Some (length ids)) id
comes_later ids id zero was new some h = absurd (some refl)
comes_later ids id (suc k) was new some h = record {
  index = index-push ids id id (suc k) (Some (length ids)) h.within ∙ index-some ids k (Some (length ids)) id
      ∙ ap (λ b. cond b (Some k) (Some (length ids))) (apart-at ids id k new (omega (arith, h.within))) ∙ sym (position-last ids id new);
  within = omega (arith, h.within, length-append ids (id ∷ []));
  free = λ e. absurd (some e);
}

pub at_taken : (ids : List Id) (table : List ℕ) (later now : Id → Option ℕ) (id : Id) (place : ℕ) → IsTable ids table later → is_name id ≡ true →
    is_among ids id ≡ false → place ≡ place_in (length table) id → (get_or table place 0 ≡ 0 → ⊥)
    → ((other : Id) → is_name other ≡ true → now other ≡ cond (is_same id other) (Some (length ids)) (later other)) → IsTable (ids ++ id ∷ []) table now
at_taken ids table later now id place h own new at some put = record {
  some = h.some;
  placed = λ other named. by other named (cases_Bool (is_same id other));
} where
  by : (other : Id) → is_name other ≡ true → (is_same id other ≡ true) ⊎ (is_same id other ≡ false) →
      IsPlaced (ids ++ id ∷ []) (get_or table (place_in (length table) other) 0) (now other) other
  by other named (inl t) =
      let e : id ≡ other = (bytes_decides id other).0 t in
      let is : now other ≡ Some (length ids) = put other named ∙ ap (λ b. cond b (Some (length ids)) (later other)) t in
      let there : get_or table (place_in (length table) id) 0 ≡ 0 → ⊥ = λ z. some (ap (λ k. get_or table k 0) at ∙ z) in
      subst (λ o. IsPlaced (ids ++ id ∷ []) (get_or table (place_in (length table) other) 0) o other) (sym is)
      (subst (λ x. IsPlaced (ids ++ id ∷ []) (get_or table (place_in (length table) x) 0) (Some (length ids)) x) e
      (comes_later ids id (get_or table (place_in (length table) id) 0) (later id) new there (h.placed id own)))
  by other named (inr f) =
      let is : now other ≡ later other = put other named ∙ ap (λ b. cond b (Some (length ids)) (later other)) f in
      subst (λ o. IsPlaced (ids ++ id ∷ []) (get_or table (place_in (length table) other) 0) o other) (sym is)
      (stays ids id other (get_or table (place_in (length table) other) 0) (later other) f (h.placed other named))

-- ---- the entries among the later ids

pub stood : (later : Option ℕ) (i index : ℕ) → i ≡ unwrap_or later index → (i ≡ index → ⊥) → later ≡ Some i
stood None i index e other = absurd (other e)
stood (Some j) i index e other = ap Some (sym e)

pub none_stood : (later : Option ℕ) (i index : ℕ) → i ≡ unwrap_or later index → i ≡ index → ((j : ℕ) → later ≡ Some j → j < index) → later ≡ None
none_stood None i index e same below = refl
none_stood (Some j) i index e same below = absurd (omega (arith, e, same, below j refl))

pub same_later : (ids : List Id) (table : List ℕ) (later now : Id → Option ℕ) → IsTable ids table later →
    ((other : Id) → is_name other ≡ true → now other ≡ later other) → IsTable ids table now
same_later ids table later now h same = record {
  some = h.some;
  placed = λ other named. subst (λ o. IsPlaced ids (get_or table (place_in (length table) other) 0) o other) (sym (same other named)) (h.placed other named);
}

-- an entry that was there stays as it was
pub at_met : (ids : List Id) (table : List ℕ) (later now : Id → Option ℕ) (id : Id) (i : ℕ) → IsTable ids table later → later id ≡ Some i →
    ((other : Id) → is_name other ≡ true → now other ≡ cond (is_same id other) (Some i) (later other)) → IsTable ids table now
at_met ids table later now id i h is put = same_later ids table later now h (λ other named. by other named (cases_Bool (is_same id other))) where
  by : (other : Id) → is_name other ≡ true → (is_same id other ≡ true) ⊎ (is_same id other ≡ false) → now other ≡ later other
  by other named (inl t) =
      put other named ∙ ap (λ b. cond b (Some i) (later other)) t ∙ sym is ∙ ap later ((bytes_decides id other).0 t)
  by other named (inr f) = put other named ∙ ap (λ b. cond b (Some i) (later other)) f
