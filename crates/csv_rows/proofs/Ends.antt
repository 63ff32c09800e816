-- The end of a field, byte by byte.
use Rattle.std.proofs.Common.{◌≡◌, ◌∙◌, ◌++◌, ◌∷◌, [], ◌&&◌, ◌+◌, ◌-◌, ◌<◌, ◌≤◌, ℕ, Bool, true, false, List, length, take, get_or, refl, ap, arith}
use Rattle.std.specs.Prelude.{if◌then◌else◌}
use Rattle.std.specs.List.{list_all}
use Rattle.std.proofs.lemmas.List.{take_more}
use Rattle.std.proofs.lemmas.List.Folds.{list_all-append}
use Rattle.csv_rows.specs.Fields.{is_blank, trimmed_end}

and-true : (a b : Bool) → b ≡ true → (a && (b && true)) ≡ a
and-true true b h = rw h refl
and-true false b h = refl

and-false : (a b : Bool) → b ≡ false → (a && (b && true)) ≡ false
and-false true b h = rw h refl
and-false false b h = refl

pub end-blank : (text : List ℕ) (b : ℕ) → is_blank b ≡ true → trimmed_end (text ++ b ∷ []) ≡ trimmed_end text
end-blank [] b h = rw h refl
end-blank (a ∷ text) b h =
    let e = list_all-append is_blank text (b ∷ []) ∙ and-true (list_all is_blank text) (is_blank b) h in
    ap (λ all. if is_blank a && all then [] else a ∷ trimmed_end (text ++ b ∷ [])) e
    ∙ ap (λ rest. if is_blank a && list_all is_blank text then [] else a ∷ rest) (end-blank text b h)

pub end-stays : (text : List ℕ) (b : ℕ) → is_blank b ≡ false → trimmed_end (text ++ b ∷ []) ≡ text ++ b ∷ []
end-stays [] b h = rw h refl
end-stays (a ∷ text) b h =
    let e = list_all-append is_blank text (b ∷ []) ∙ and-false (list_all is_blank text) (is_blank b) h in
    ap (λ all. if is_blank a && all then [] else a ∷ trimmed_end (text ++ b ∷ [])) e
    ∙ by (is_blank a)
    ∙ ap (λ rest. a ∷ rest) (end-stays text b h)
  where
    by : (x : Bool) → (if x && false then [] else a ∷ trimmed_end (text ++ b ∷ [])) ≡ a ∷ trimmed_end (text ++ b ∷ [])
    by true = refl
    by false = refl

pub take_last : (text : List ℕ) (len : ℕ) → 0 < len → len ≤ length text → take len text ≡ take (len - 1) text ++ get_or text (len - 1) 0 ∷ []
take_last text len some within =
    let e : len ≡ (len - 1) + 1 = omega (arith, some) in
    ap (λ n. take n text) e ∙ take_more text (len - 1) 0 (omega (arith, some, within))
