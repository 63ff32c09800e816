-- The values that the elements of a list are, in order.
use Rattle.std.proofs.Common.{◌≡◌, ℕ, ◌+◌, ◌<◌, List, [], ◌∷◌, ◌++◌, length, get_or, take, drop, map, Option, Some, None, refl, sym, ap, ◌∙◌, arith}
use Rattle.std.proofs.lemmas.List.{get_or-map, drop_more, take_more, take_all, take-append-drop, length-map}
use Rattle.serde_json.specs.Data.{Data}
use Rattle.serde_json.specs.View.{view}
use Rattle.serde_json.specs.declared.value.Value.{Value}
use Rattle.assertion_file.specs.Stated.{◌>>=◌}
use Rattle.session_file.specs.Faults.{Refuses}
use Rattle.session_file.specs.Stated.{each}
use Rattle.session_file.specs.declared.fault.SessionFault.{SessionFault}
use Rattle.session_file.specs.declared.fault.SessionFault.TheVariants.{Refused, Memory}

-- what each of these is, before those of some more
abbrev pub before : {A : Type 0} → Option (List A) → Option (List A) → Option (List A)
before these more = these >>= λ xs. more >>= λ ys. Some (xs ++ ys)

module _ {A : Type 0} (kind : Data → Option A) where
  each-append : (these more : List Data) → each kind (these ++ more) ≡ before (each kind these) (each kind more)
  each-append [] more = by (each kind more) where
    by : (o : Option (List A)) → o ≡ before (Some []) o
    by None = refl
    by (Some ys) = refl
  each-append (value ∷ these) more =
      ap (λ o. kind value >>= λ x. o >>= λ xs. Some (x ∷ xs)) (each-append these more) ∙ by (kind value) (each kind these) (each kind more) where
        by : (v : Option A) (o p : Option (List A)) → (v >>= λ x. before o p >>= λ xs. Some (x ∷ xs)) ≡ before (v >>= λ x. o >>= λ xs. Some (x ∷ xs)) p
        by None o p = refl
        by (Some x) None p = refl
        by (Some x) (Some xs) None = refl
        by (Some x) (Some xs) (Some ys) = refl

  at : (values : List Value) (i : ℕ) (value : Value) → i < length values → value ≡ get_or values i value → get_or (map view values) i (view value) ≡ view value
  at values i value within is = get_or-map view values i value (view value) within ∙ ap view (sym is)

  pub each_more : (values : List Value) (i : ℕ) (value : Value) (x : A) (xs : List A) → i < length values → value ≡ get_or values i value →
      each kind (take i (map view values)) ≡ Some xs → kind (view value) ≡ Some x → each kind (take (i + 1) (map view values)) ≡ Some (xs ++ x ∷ [])
  each_more values i value x xs within is h k =
      let seen : i < length (map view values) = omega (arith, length-map values view) in
      ap (each kind) (take_more (map view values) i (view value) seen ∙ ap (λ v. take i (map view values) ++ v ∷ []) (at values i value within is))
      ∙ each-append (take i (map view values)) (view value ∷ []) ∙ rw (h, k) refl

  pub each_stops : (values : List Value) (i : ℕ) (value : Value) → i < length values → value ≡ get_or values i value → kind (view value) ≡ None →
      each kind (map view values) ≡ None
  each_stops values i value within is k =
      let seen : i < length (map view values) = omega (arith, length-map values view) in
      ap (each kind) (sym (take-append-drop i (map view values)) ∙ ap (λ r. take i (map view values) ++ r)
      (drop_more (map view values) i (view value) seen ∙ ap (λ v. v ∷ drop (i + 1) (map view values)) (at values i value within is)))
      ∙ each-append (take i (map view values)) (view value ∷ drop (i + 1) (map view values))
      ∙ by (each kind (take i (map view values)))
    where
      by : (o : Option (List A)) → before o (each kind (view value ∷ drop (i + 1) (map view values))) ≡ None
      by None = refl
      by (Some xs) = rw k refl

  pub each_all : (values : List Value) (i : ℕ) (xs : List A) → i ≡ length values → each kind (take i (map view values)) ≡ Some xs →
      each kind (map view values) ≡ Some xs
  each_all values i xs end h = ap (each kind) (sym (take_all i (map view values) (omega (arith, length-map values view)))) ∙ h

  pub each_refused : (values : List Value) (i : ℕ) (value : Value) (fault : SessionFault) → i < length values → value ≡ get_or values i value →
      Refuses (kind (view value)) fault → Refuses (each kind (map view values)) fault
  each_refused values i value Refused within is r = each_stops values i value within is r
  each_refused values i value Memory within is r = tt
