-- Words that are pushed one by one.
use Rattle.std.proofs.Common.{◌≡◌, ◌∙◌, ◌++◌, ◌+◌, ℕ, List, [], ◌∷◌, String, string_bytes, append_assoc, ap, refl, sym, arith}
use Rattle.std.specs.declared.alloc.Global.{Global}
use Rattle.std.proofs.lemmas.List.FromFn.{map-range_with_len_more}
use Rattle.command_line.specs.Line.{file}
use Rattle.command_line.specs.OneForm.{files_given}
use Rattle.command_line.specs.Pieces.{Piece}
use Rattle.command_line.specs.Words.{texts}

texts-push : (items : List (String Global)) (s : String Global) → texts (items ++ s ∷ []) ≡ texts items ++ string_bytes s ∷ []
texts-push [] s = refl
texts-push (item ∷ items) s = ap (λ t. string_bytes item ∷ t) (texts-push items s)

-- one more word
pub pushed : (items new : List (String Global)) (s : String Global) (word : List ℕ) → new ≡ items ++ s ∷ [] → string_bytes s ≡ word →
    texts new ≡ texts items ++ word ∷ []
pushed items new s word e w = ap texts e ∙ texts-push items s ∙ ap (λ t. texts items ++ t ∷ []) w

-- one more file
pub file_pushed : (items new : List (String Global)) (s : String Global) (front : List (List ℕ)) (i : ℕ) (pieces : List Piece)
    → new ≡ items ++ s ∷ [] → string_bytes s ≡ file i pieces → texts items ≡ front ++ files_given i pieces → texts new ≡ front ++ files_given (i + 1) pieces
file_pushed items new s front i pieces e w h =
    pushed items new s (file i pieces) e w
    ∙ ap (λ t. t ++ file i pieces ∷ []) h
    ∙ append_assoc front (files_given i pieces) (file i pieces ∷ [])
    ∙ ap (λ t. front ++ t) (sym (map-range_with_len_more (λ i. file i pieces) 0 i i (omega arith)))

-- all words of the one form
pub assembled : (first with_options with_dashes all : List (String Global)) (s t : String Global) (word dashes : List ℕ) (options files : List (List ℕ))
    → first ≡ [] ++ s ∷ [] → string_bytes s ≡ word → texts with_options ≡ texts first ++ options
    → with_dashes ≡ with_options ++ t ∷ [] → string_bytes t ≡ dashes → texts all ≡ texts with_dashes ++ files
    → texts all ≡ (word ∷ options) ++ (dashes ∷ files)
assembled first with_options with_dashes all s t word dashes options files e w o d x f =
    f
    ∙ ap (λ t. t ++ files) (pushed with_options with_dashes t dashes d x ∙ ap (λ t. t ++ dashes ∷ []) (o ∙ ap (λ t. t ++ options) (pushed [] first s word e w)))
    ∙ append_assoc (word ∷ options) (dashes ∷ []) files
