-- The elements of an array of JSON.
use Rattle.std.proofs.Common.{◌≡◌, ◌∙◌, ℕ, List, [], ◌∷◌, refl, sym, ap, map, Some}
use Rattle.std.specs.Prelude.{option_map, option_and_then}
use Rattle.std.specs.List.{list_all}
use Rattle.std.proofs.lemmas.List.Folds.{list_all-map}
use Rattle.serde_json.specs.Data.{Data}
use Rattle.serde_json.specs.Find.{get, as_array}
use Rattle.serde_json.specs.View.{view, items_of}
use Rattle.serde_json.specs.declared.value.Value.{Value}
use Rattle.assertion_file.specs.Stated.{elements, is_text, list, list_in}

pub elements-items_of : (values : List Data) → elements (items_of values) ≡ values
elements-items_of [] = refl
elements-items_of (value ∷ values) = ap (λ rest. value ∷ rest) (elements-items_of values)

pub list-is : (name : List ℕ) (value found : Data) (values slice : List Value) → Some found ≡ get name value →
    Some (items_of (map view values)) ≡ as_array found → slice ≡ values →
    Some (map view slice) ≡ list_in name value
list-is name value found values slice there array same =
    ap Some (ap (map view) same ∙ sym (elements-items_of (map view values)))
    ∙ ap (option_map elements) array
    ∙ ap (option_and_then list) there

pub all_texts : (values : List Value) → list_all is_text (map view values) ≡ list_all (λ value. is_text (view value)) values
all_texts values = list_all-map is_text view values
