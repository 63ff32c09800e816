-- Where the last line of a text begins.
use Rattle.std.proofs.Common.{◌≡◌, ◌+◌, ◌<◌, ◌∙◌, ◌∷◌, [], ℕ, zero, suc, Bool, true, false, List, length, take, drop, refl, sym, ap, arith, add-one}
use Rattle.std.specs.Prelude.{not}
use Rattle.std.specs.List.{list_any}
use Rattle.std.proofs.lemmas.List.{get_or-drop, length-drop}
use Rattle.memchr.specs.Find.{Nowhere, Passes, is_byte2}
use Rattle.csv_rows.specs.Lines.{are_whole_lines, is_line_end, is_unended}

never : (b : Bool) → (b ≡ true → ⊥) → b ≡ false
never true h = absurd (h refl)
never false h = refl

pub whole-up-to : (text : List ℕ) (end : ℕ) → end < length text → Passes (is_byte2 13 10) text end → are_whole_lines (take (suc end) text) ≡ true
whole-up-to [] end within here = absurd (omega (arith, within))
whole-up-to (b ∷ text) zero within here = here
whole-up-to (b ∷ []) (suc end) within here = absurd (omega (arith, within))
whole-up-to (b ∷ next ∷ text) (suc end) within here = whole-up-to (next ∷ text) end (omega (arith, within)) here

-- a line ends within what is cut off
pub whole-from : (text : List ℕ) (from end : ℕ) → end < length (drop from text) → Passes (is_byte2 13 10) (drop from text) end →
    are_whole_lines (take (from + end + 1) text) ≡ true
whole-from text from end within here =
    ap (λ n. are_whole_lines (take n text)) (add-one (from + end))
    ∙ whole-up-to text (from + end) (omega (arith, within, length-drop from text)) (ap (is_byte2 13 10) (sym (get_or-drop from text end 0)) ∙ here)

none-any : (text : List ℕ) (k : ℕ) → Nowhere (Passes (is_byte2 13 10) text) k (length text) → list_any is_line_end (drop k text) ≡ false
none-any [] zero after = refl
none-any [] (suc k) after = refl
none-any (b ∷ text) zero after =
    rw (never (is_line_end b) (after 0 (omega arith) (omega arith)))
    (none-any text 0 (λ j low high. after (suc j) (omega arith) (omega (arith, high))))
none-any (b ∷ text) (suc k) after = none-any text k (λ j low high. after (suc j) (omega (arith, low)) (omega (arith, high)))

pub unended-from : (text : List ℕ) (k : ℕ) → Nowhere (Passes (is_byte2 13 10) text) k (length text) → is_unended (drop k text) ≡ true
unended-from text k after = ap not (none-any text k after)
