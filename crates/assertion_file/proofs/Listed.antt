-- The texts of a list of values, one by one.
use Rattle.std.proofs.Common.{◌≡◌, ℕ, ◌+◌, ◌<◌, Bool, true, false, ◌&&◌, List, [], ◌∷◌, ◌++◌, length, get_or, take, drop, map, refl, sym, ap, ◌∙◌, arith}
use Rattle.std.proofs.lemmas.List.{get_or-map, drop_more, take_more, take_all, take-append-drop, length-map, map-append}
use Rattle.std.specs.List.{list_all}
use Rattle.std.proofs.lemmas.Bool.{and_from, and_left, and_right}
use Rattle.std.proofs.lemmas.List.Folds.{list_all-append}
use Rattle.serde_json.specs.View.{view}
use Rattle.serde_json.specs.declared.value.Value.{Value}
use Rattle.irv_base.specs.Names.{Id}
use Rattle.assertion_file.specs.Stated.{text_of, texts_of}

abbrev pub texts : List Value → List Id
texts values = texts_of (map view values)

pub length-texts : (values : List Value) → length (texts values) ≡ length values
length-texts values = length-map (map view values) text_of ∙ length-map values view

-- the text comes after the first i texts
pub record Next (all : List Id) (i : ℕ) (text : Id) : Type 0 where
  pub more : take (i + 1) all ≡ take i all ++ text ∷ []
  pub split : all ≡ take i all ++ text ∷ drop (i + 1) all

pub next : (values : List Value) (i : ℕ) (value : Value) → i < length values → value ≡ get_or values i value → Next (texts values) i (text_of (view value))
next values i value within is =
    let all = texts values in
    let below : i < length all = omega (arith, length-texts values) in
    let seen : i < length (map view values) = omega (arith, length-map values view) in
    let at : get_or all i [] ≡ text_of (view value) =
    get_or-map text_of (map view values) i (view value) [] seen ∙ ap text_of (get_or-map view values i value (view value) within ∙ ap view (sym is)) in
    record {
      more = take_more all i [] below ∙ ap (λ text. take i all ++ text ∷ []) at;
      split = sym (take-append-drop i all) ∙ ap (λ rest. take i all ++ rest) (drop_more all i [] below) ∙ ap (λ text. take i all ++ text ∷ drop (i + 1) all) at;
    }

pub all_taken : (values : List Value) → take (length values) (texts values) ≡ texts values
all_taken values = take_all (length values) (texts values) (omega (arith, length-texts values))

-- ---- what is true of all of them

pub outside : (p : Id → Bool) (all : List Id) (i : ℕ) (text : Id) → Next all i text → p text ≡ false → list_all p all ≡ false
outside p all i text n h =
    ap (list_all p) n.split ∙ list_all-append p (take i all) (text ∷ drop (i + 1) all)
    ∙ and_right (list_all p (take i all)) (list_all p (text ∷ drop (i + 1) all)) (and_left (p text) (list_all p (drop (i + 1) all)) h)

pub one_more : (p : Id → Bool) (all : List Id) (i : ℕ) (text : Id) → Next all i text → list_all p (take i all) ≡ true → p text ≡ true →
    list_all p (take (i + 1) all) ≡ true
one_more p all i text n before h =
    ap (list_all p) n.more ∙ list_all-append p (take i all) (text ∷ [])
    ∙ and_from (list_all p (take i all)) (p text && true) before (and_from (p text) true h refl)

pub map-next : (f : Id → ℕ) (all : List Id) (i : ℕ) (text : Id) (n : ℕ) → Next all i text → f text ≡ n → map f (take (i + 1) all) ≡ map f (take i all) ++ n ∷ []
map-next f all i text n more is = ap (map f) more.more ∙ map-append f (take i all) (text ∷ []) ∙ ap (λ m. map f (take i all) ++ m ∷ []) is
