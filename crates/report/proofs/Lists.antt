-- Lists of candidates and of their ids, one element at a time.
use Rattle.std.proofs.Common.{◌≡◌, ◌==◌, ℕ, zero, suc, ◌+◌, ◌<◌, ◌≤◌, Bool, true, false, cond, if◌then◌else◌, List, [], ◌∷◌, ◌++◌, length, filter, take, get_or, All, refl, sym, ap, ap₂, arith, append_assoc, append-nil, eq-eqb, ne_eqb, ◌∙◌}
use Rattle.std.proofs.lemmas.List.{get_or_default, length-map, map-append, take_more}
use Rattle.std.proofs.lemmas.List.Elements.{filter-append}
use Rattle.irv_base.specs.Candidates.{candidates}
use Rattle.irv_base.specs.Names.{Id, comma}
use Rattle.irv_base.proofs.Members.{from_filter, from_candidates, member-from_contains}
use Rattle.irv_base.proofs.Ranges.{candidates-more}
use Rattle.assertion_file.specs.Ids.{id_of, ids_of}
use Rattle.report.specs.Texts.{joined}

-- ---- those that are chosen
pub chosen_more : (p : ℕ → Bool) (n : ℕ) (xs : List ℕ) (b : Bool) → b ≡ p n → xs ≡ filter p (candidates n) →
    (if b then xs ++ n ∷ [] else xs) ≡ filter p (candidates (n + 1))
chosen_more p n xs b is same =
    ap₂ (λ v (ys : List ℕ). if v then ys ++ n ∷ [] else ys) is same
    ∙ last (p n)
    ∙ sym (ap (filter p) (candidates-more n) ∙ filter-append p (candidates n) (n ∷ []))
  where
    last : (v : Bool) → (if v then filter p (candidates n) ++ n ∷ [] else filter p (candidates n)) ≡ filter p (candidates n) ++ cond v (n ∷ []) []
    last true = refl
    last false = sym (append-nil (filter p (candidates n)))

pub chosen-below : (p : ℕ → Bool) (n : ℕ) → All (λ c. c < n) (filter p (candidates n))
chosen-below p n i d within = from_candidates (from_filter p (candidates n)
    (member-from_contains (get_or (filter p (candidates n)) i d) (filter p (candidates n)) (
      i,
      within,
      get_or_default (filter p (candidates n)) i (get_or (filter p (candidates n)) i d) d within,
    ))).0

-- ---- joined ids
with_comma : List Id → Id → List ℕ
with_comma [] id = id
with_comma (x ∷ xs) id = comma ∷ id

joined-push : (xs : List Id) (id : Id) → joined (xs ++ id ∷ []) ≡ joined xs ++ with_comma xs id
unfolding with_comma
joined-push [] id = refl
joined-push (x ∷ []) id = refl
joined-push (x ∷ y ∷ xs) id = ap (λ t. x ++ comma ∷ t) (joined-push (y ∷ xs) id) ∙ sym (append_assoc x (comma ∷ joined (y ∷ xs)) (comma ∷ id))

first-or_comma : (xs : List Id) (id : Id) (i : ℕ) → length xs ≡ i → (if i == 0 then id else comma ∷ id) ≡ with_comma xs id
unfolding with_comma
first-or_comma [] id i e = ap (λ b. if b then id else comma ∷ id) (eq-eqb i 0 (sym e))
first-or_comma (x ∷ xs) id i e = ap (λ b. if b then id else comma ∷ id) (ne_eqb i 0 (λ z. absurd (omega (arith, e, z))))

take-length : (i : ℕ) (xs : List ℕ) → i ≤ length xs → length (take i xs) ≡ i
take-length zero xs l = refl
take-length (suc i) [] l = absurd (omega arith)
take-length (suc i) (x ∷ xs) l = ap suc (take-length i xs (omega arith))

pub joined_more : (ids : List Id) (cs : List ℕ) (i c : ℕ) (text : List ℕ) → i < length cs → c ≡ get_or cs i c → text ≡ joined (ids_of ids (take i cs)) →
    text ++ (if i == 0 then id_of ids c else comma ∷ id_of ids c) ≡ joined (ids_of ids (take (i + 1) cs))
joined_more ids cs i c text within is same =
    let before = ids_of ids (take i cs) in
    let long : length before ≡ i = length-map (take i cs) (id_of ids) ∙ take-length i cs (omega arith) in
    let more : ids_of ids (take (i + 1) cs) ≡ before ++ id_of ids c ∷ [] =
    ap (ids_of ids) (take_more cs i c within ∙ ap (λ x. take i cs ++ x ∷ []) (sym is)) ∙ map-append (id_of ids) (take i cs) (c ∷ []) in
    ap₂ (λ (s t : List ℕ). s ++ t) same (first-or_comma before (id_of ids c) i long)
    ∙ sym (joined-push before (id_of ids c))
    ∙ sym (ap joined more)
