-- The text of an exact value, with a line feed after it, reads as the value.
use Rattle.std.proofs.Common.{◌≡◌, ◌≤◌, [], ◌∷◌, ◌++◌, Some, None, refl, sym, ap, ap₂, append-nil, ◌∙◌, arith}
use Rattle.std.specs.Prelude.{if◌then◌else◌, option_and_then}
use Rattle.std.proofs.lemmas.Str.{IsUtf8-append, is_utf8-from_IsUtf8}
use Rattle.json.specs.Lex.{tokens}
use Rattle.json.specs.Json.{if_last, value}
use Rattle.json.specs.Tree.{json_tokens}
use Rattle.json.proofs.Printed.Tokens.{tokens-print}
use Rattle.json.proofs.Printed.Trees.{ArePrintable-json_tokens, value-json_tokens}
use Rattle.json.proofs.Printed.Utf8.{IsUtf8-are_ascii}
use Rattle.serde_json.specs.Data.{Data, depth}
use Rattle.serde_json.specs.Read.{read, of_json, max_depth}
use Rattle.serde_json.specs.Written.{outline, compact_text}
use Rattle.serde_json.proofs.Texts.{print-outline}
use Rattle.assertion_file.specs.Text.{json_of}
use Rattle.assertion_file.proofs.Exact.{IsExact, HasNumbers-outline, of_json-outline, depth-outline, IsUtf8-compact_text}
use Rattle.assertion_file.proofs.LineFeed.{tokens-line_feed}

tokens-line : (d : Data) → IsExact d → tokens (compact_text d ++ 10 ∷ []) ≡ json_tokens (outline d)
tokens-line d h =
    tokens-line_feed d h ∙ ap tokens (sym (print-outline d))
    ∙ tokens-print (json_tokens (outline d)) (ArePrintable-json_tokens (outline d) (HasNumbers-outline d h))

read-line : (d : Data) → IsExact d → depth d ≤ max_depth → read (compact_text d ++ 10 ∷ []) ≡ Some d
read-line d h shallow =
    let same = depth-outline d in
    ap (λ ts. option_and_then of_json (option_and_then (λ p. if_last p.0 p.1) (value max_depth ts))) (tokens-line d h
    ∙ sym (append-nil (json_tokens (outline d))))
    ∙ ap (λ o. option_and_then of_json (option_and_then (λ p. if_last p.0 p.1) o)) (value-json_tokens (outline d) max_depth [] (omega arith))
    ∙ of_json-outline d h

pub json_of-line : (d : Data) → IsExact d → depth d ≤ max_depth → json_of (compact_text d ++ 10 ∷ []) ≡ Some d
json_of-line d h shallow =
    let text = is_utf8-from_IsUtf8 (compact_text d ++ 10 ∷ [])
    (IsUtf8-append (compact_text d) (10 ∷ []) (IsUtf8-compact_text d h) (IsUtf8-are_ascii (10 ∷ []) refl)) in
    ap₂ (λ b o. if b then o else None) text (read-line d h shallow)
