-- Lists that are stored back to back.
use Rattle.std.proofs.Common.{◌≡◌, ◌≤◌, ◌<◌, ◌+◌, ◌-◌, ◌∙◌, ◌++◌, ◌∷◌, [], ℕ, zero, suc, List, Some, length, take, drop, get_or, refl, sym, ap, subst, arith, length-append}
use Rattle.std.specs.Prelude.{All}
use Rattle.std.specs.List.{slice_get}
use Rattle.std.proofs.lemmas.List.Elements.{All-get_or}
use Rattle.std.proofs.lemmas.Option.{get_or_from_slice_get, slice_get_within}
use Rattle.std.proofs.lemmas.List.{drop-append-le, length-drop, take-append-le, take_all}
use Rattle.std.proofs.Math.Seq.{drop-append_seam}
use Rattle.irv_base.specs.Lists.{AreBegins, ArePlaces, end_before, lists_between}

pub end-within : (begins : List ℕ) (n : ℕ) → AreBegins begins n → end_before begins n ≤ n
end-within [] n h = omega arith
end-within (b ∷ begins) n (low, h) = omega (arith, low, end-within begins n h)

-- what is added after the elements leaves a list before them unchanged
pub same-part : {X : Type 0} (elements more : List X) (begin end : ℕ) → begin ≤ end → end ≤ length elements →
    take (end - begin) (drop begin (elements ++ more)) ≡ take (end - begin) (drop begin elements)
same-part elements more begin end rise within =
    ap (take (end - begin)) (drop-append-le begin elements more (omega (arith, rise, within)))
    ∙ take-append-le (end - begin) (drop begin elements) more (omega (arith, rise, within, length-drop begin elements))

-- ---- one more list

end-more : (begins : List ℕ) (n m : ℕ) → end_before (begins ++ n ∷ []) m ≡ end_before begins n
end-more [] n m = refl
end-more (b ∷ begins) n m = refl

begins-more : (begins : List ℕ) (n m : ℕ) → AreBegins begins n → n ≤ m → AreBegins (begins ++ n ∷ []) m
begins-more [] n m h more = (more, tt)
begins-more (b ∷ begins) n m (low, h) more = (omega (arith, low, end-more begins n m), begins-more begins n m h more)

between-more : {X : Type 0} (begins : List ℕ) (elements list : List X) → AreBegins begins (length elements) →
    lists_between (begins ++ length elements ∷ []) (elements ++ list) ≡ lists_between begins elements ++ list ∷ []
between-more [] elements list h =
    let size : length list ≤ length (elements ++ list) - length elements = omega (arith, length-append elements list) in
    ap (λ xs. take (length (elements ++ list) - length elements) xs ∷ []) (drop-append_seam elements list)
    ∙ ap (λ xs. xs ∷ []) (take_all (length (elements ++ list) - length elements) list size)
between-more (b ∷ begins) elements list (low, h) =
    let end = end_before begins (length elements) in
    let first : take (end_before (begins ++ length elements ∷ []) (length (elements ++ list)) - b) (drop b (elements ++ list))
    ≡ take (end - b) (drop b elements) =
    ap (λ e. take (e - b) (drop b (elements ++ list))) (end-more begins (length elements) (length (elements ++ list)))
    ∙ same-part elements list b end low (end-within begins (length elements) h) in
    ap (λ xs. xs ∷ lists_between (begins ++ length elements ∷ []) (elements ++ list)) first
    ∙ ap (λ xs. take (end - b) (drop b elements) ∷ xs) (between-more begins elements list h)

-- as the code learns it
pub pushed-begins : {X : Type 0} (old begins : List ℕ) (elements more list : List X) (n : ℕ) → ArePlaces old (length elements) →
    begins ≡ old ++ n ∷ [] → more ≡ elements ++ list → n ≡ length elements → ArePlaces begins (length more)
pushed-begins old begins elements more list n h e f size =
    let long : n ≤ length more = omega (arith, size, length-append elements list, ap length f) in
    subst (λ bs. ArePlaces bs (length more)) (sym e) (record {
      rise = begins-more old n (length more) (subst (AreBegins old) (sym size) h.rise) long;
      first = end-more old n (length more) ∙ ap (end_before old) size ∙ h.first;
    })

pub pushed-lists : {X : Type 0} (old begins : List ℕ) (elements more list : List X) (n : ℕ) → AreBegins old (length elements) →
    begins ≡ old ++ n ∷ [] → more ≡ elements ++ list → n ≡ length elements → lists_between begins more ≡ lists_between old elements ++ list ∷ []
pushed-lists old begins elements more list n h e f size =
    ap (λ bs. lists_between bs more) (e ∙ ap (λ k. old ++ k ∷ []) size) ∙ ap (lists_between (old ++ length elements ∷ [])) f
    ∙ between-more old elements list h

-- ---- one more element in the last list

rise-longer : (begins : List ℕ) (n m : ℕ) → AreBegins begins n → n ≤ m → AreBegins begins m
rise-longer [] n m h more = tt
rise-longer (b ∷ []) n m (low, h) more = (omega (arith, low, more), tt)
rise-longer (b ∷ c ∷ begins) n m (low, h) more = (low, rise-longer (c ∷ begins) n m h more)

pub begins-longer : {X : Type 0} (begins : List ℕ) (elements more : List X) (lists : List (List X)) → ArePlaces begins (length elements) →
    lists_between begins elements ≡ lists → 0 < length lists → length elements ≤ length more → ArePlaces begins (length more)
begins-longer [] elements more lists h e some long = absurd (omega (arith, ap length e, some))
begins-longer (b ∷ begins) elements more lists h e some long =
    record { rise = rise-longer (b ∷ begins) (length elements) (length more) h.rise long; first = h.first }

between-longer : {X : Type 0} (begins : List ℕ) (elements : List X) (x : X) (earlier : List (List X)) (last : List X) →
    AreBegins begins (length elements) → lists_between begins elements ≡ earlier ++ last ∷ [] →
    lists_between begins (elements ++ x ∷ []) ≡ earlier ++ (last ++ x ∷ []) ∷ []
between-longer [] elements x [] last h e = absurd cc
between-longer [] elements x (y ∷ earlier) last h e = absurd cc
between-longer (b ∷ []) elements x [] last (low, h) e =
    let one : take (length elements - b) (drop b elements) ≡ last = cc in
    let all = take_all (length elements - b) (drop b elements) (omega (arith, length-drop b elements)) in
    let more : drop b (elements ++ x ∷ []) ≡ last ++ x ∷ [] = drop-append-le b elements (x ∷ []) low ∙ ap (λ xs. xs ++ x ∷ []) (sym all ∙ one) in
    let size : length (drop b (elements ++ x ∷ [])) ≤ length (elements ++ x ∷ []) - b = omega (arith, length-drop b (elements ++ x ∷ [])) in
    ap (λ xs. xs ∷ []) (take_all (length (elements ++ x ∷ []) - b) (drop b (elements ++ x ∷ [])) size ∙ more)
between-longer (b ∷ []) elements x (y ∷ []) last h e = absurd cc
between-longer (b ∷ []) elements x (y ∷ z ∷ earlier) last h e = absurd cc
between-longer (b ∷ c ∷ begins) elements x [] last h e = absurd cc
between-longer (b ∷ c ∷ begins) elements x (y ∷ earlier) last (low, h) e =
    let rest : lists_between (c ∷ begins) elements ≡ earlier ++ last ∷ [] = cc in
    let one : take (c - b) (drop b elements) ≡ y = cc in
    let first = same-part elements (x ∷ []) b c low (end-within (c ∷ begins) (length elements) h) ∙ one in
    ap (λ xs. xs ∷ lists_between (c ∷ begins) (elements ++ x ∷ [])) first
    ∙ ap (λ xs. y ∷ xs) (between-longer (c ∷ begins) elements x earlier last h rest)

-- as the code learns it
pub longer-length : {X : Type 0} (elements more : List X) (x : X) → more ≡ elements ++ x ∷ [] → length elements ≤ length more
longer-length elements more x e = omega (arith, ap length e, length-append elements (x ∷ []))

pub longer-lists : {X : Type 0} (begins : List ℕ) (elements more : List X) (x : X) (earlier : List (List X)) (last : List X) →
    AreBegins begins (length elements) → more ≡ elements ++ x ∷ [] → lists_between begins elements ≡ earlier ++ last ∷ [] →
    lists_between begins more ≡ earlier ++ (last ++ x ∷ []) ∷ []
longer-lists begins elements more x earlier last h f e = ap (lists_between begins) f ∙ between-longer begins elements x earlier last h e

-- ---- the list at a place

pub length-between : {X : Type 0} (begins : List ℕ) (elements : List X) → length (lists_between begins elements) ≡ length begins
length-between [] elements = refl
length-between (b ∷ begins) elements = ap suc (length-between begins elements)

end-first : (begins : List ℕ) (n : ℕ) → end_before begins n ≡ get_or begins 0 n
end-first [] n = refl
end-first (b ∷ begins) n = refl

pub record IsBetween {X : Type 0} (begins : List ℕ) (elements : List X) (i end : ℕ) : Type 0 where
  pub rise : get_or begins i 0 ≤ end
  pub within : end ≤ length elements
  pub is : slice_get (lists_between begins elements) i ≡ Some (take (end - get_or begins i 0) (drop (get_or begins i 0) elements))

between-at : {X : Type 0} (begins : List ℕ) (elements : List X) (i : ℕ) → AreBegins begins (length elements) → i < length begins →
    IsBetween begins elements i (get_or begins (suc i) (length elements))
between-at [] elements i h less = absurd (omega (arith, less))
between-at (b ∷ begins) elements zero (low, h) less =
    subst (IsBetween (b ∷ begins) elements 0) (end-first begins (length elements))
    (record { rise = low; within = end-within begins (length elements) h; is = refl })
between-at (b ∷ begins) elements (suc i) (low, h) less =
    let later = between-at begins elements i h (omega (arith, less)) in
    record { rise = later.rise; within = later.within; is = later.is }

-- as the code learns it
pub list-at : {X : Type 0} (begins : List ℕ) (elements : List X) (i end : ℕ) → AreBegins begins (length elements) → i < length begins →
    end ≡ get_or begins (i + 1) (length elements) → IsBetween begins elements i end
list-at begins elements i end h less e =
    subst (IsBetween begins elements i) (ap (λ k. get_or begins k (length elements)) (omega arith) ∙ sym e) (between-at begins elements i h less)

-- what holds for all elements holds for the one at a place
pub all-at : {X : Type 0} (P : X → Type 0) (xs : List X) (i : ℕ) (x : X) → slice_get xs i ≡ Some x → All P xs → P x
all-at P xs i x there all = subst P (get_or_from_slice_get xs i x x there) (All-get_or P xs i x (slice_get_within xs i x there) all)
