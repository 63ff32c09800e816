-- A line feed after the text of a value doesn't change what it reads as.
use Rattle.std.proofs.Common.{◌≡◌, ℕ, Bool, true, false, cond, List, [], ◌∷◌, ◌++◌, refl, sym, ap, ap₂, ◌∙◌, append_assoc, append-nil}
use Rattle.json.specs.Token as tokens
use Rattle.json.specs.Word.{ends_word, word}
use Rattle.json.specs.Lex.{Lexeme, token, comma, colon, string_token, lex, between, fresh, punctuate, tokens as tokens_of}
use Rattle.json.specs.Print.{escape, quoted}
use Rattle.json.proofs.Printed.Decimals.{IsNumber-decimal}
use Rattle.json.proofs.Printed.Numbers.{lex-number, in_word-ended}
use Rattle.json.proofs.Printed.Strings.{content-escape, lex-escape}
use Rattle.serde_json.specs.Data.{unsigned, negative, float, Data, null, boolean, number, string, array, object, Items, no_items, item, Members, no_members, member}
use Rattle.serde_json.specs.Written.{number_text, comma_if, compact_text, items_text, members_text}
use Rattle.assertion_file.proofs.Exact.{IsExact, ItemsAreExact, MembersAreExact}

-- ---- the lexemes of a value, before those that come after it

abbrev comma_before : Bool → List Lexeme → List Lexeme
comma_before true after = comma ∷ after
comma_before false after = after

abbrev mutual
  lexemes : Data → List Lexeme → List Lexeme
  lexemes null after = token tokens.null ∷ after
  lexemes (boolean b) after = token (tokens.boolean b) ∷ after
  lexemes (number n) after = token (tokens.number (number_text n)) ∷ after
  lexemes (string s) after = token (tokens.string s) ∷ after
  lexemes (array ds) after = token tokens.begin_array ∷ items_lexemes false ds after
  lexemes (object ms) after = token tokens.begin_object ∷ members_lexemes false ms after

  items_lexemes : Bool → Items → List Lexeme → List Lexeme
  items_lexemes later no_items after = token tokens.end_array ∷ after
  items_lexemes later (item d ds) after = comma_before later (lexemes d (items_lexemes true ds after))

  members_lexemes : Bool → Members → List Lexeme → List Lexeme
  members_lexemes later no_members after = token tokens.end_object ∷ after
  members_lexemes later (member k d ms) after = comma_before later (token (tokens.string k) ∷ colon ∷ lexemes d (members_lexemes true ms after))

-- ---- a value's text has these, before any text that ends a word

lex-quoted : (s r : List ℕ) → lex between (quoted s ++ r) ≡ token (tokens.string s) ∷ lex between r
unfolding lex
lex-quoted s r =
    ap (λ text. lex between (34 ∷ text)) (append_assoc (escape s) (34 ∷ []) r)
    ∙ ap₂ (λ read after. token (string_token read) ∷ after) (content-escape s r) (lex-escape s r)

lex-comma_if : (later : Bool) (r : List ℕ) → lex between (comma_if later ++ r) ≡ comma_before later (lex between r)
unfolding lex
lex-comma_if true r = refl
lex-comma_if false r = refl

lex-null : (r : List ℕ) → ends_word r ≡ true → lex between (compact_text null ++ r) ≡ token tokens.null ∷ lex between r
unfolding lex word
lex-null r ends = ap₂ (λ b after. token (cond b tokens.null tokens.bad) ∷ after) ends (in_word-ended r ends)

lex-boolean : (b : Bool) (r : List ℕ) → ends_word r ≡ true → lex between (compact_text (boolean b) ++ r) ≡ token (tokens.boolean b) ∷ lex between r
unfolding lex word
lex-boolean true r ends = ap₂ (λ b after. token (cond b (tokens.boolean true) tokens.bad) ∷ after) ends (in_word-ended r ends)
lex-boolean false r ends = ap₂ (λ b after. token (cond b (tokens.boolean false) tokens.bad) ∷ after) ends (in_word-ended r ends)

ends_word-items_text : (ds : Items) (r : List ℕ) → ends_word (items_text true ds ++ r) ≡ true
ends_word-items_text no_items r = refl
ends_word-items_text (item d ds) r = refl

ends_word-members_text : (ms : Members) (r : List ℕ) → ends_word (members_text true ms ++ r) ≡ true
ends_word-members_text no_members r = refl
ends_word-members_text (member k d ms) r = refl

regroup : (a b c r : List ℕ) → (a ++ (b ++ c)) ++ r ≡ a ++ (b ++ (c ++ r))
regroup a b c r = simp append_assoc

mutual
  unfolding lex

  lex-compact_text : (d : Data) (r : List ℕ) → IsExact d → ends_word r ≡ true → lex between (compact_text d ++ r) ≡ lexemes d (lex between r)
  lex-compact_text null r h ends = lex-null r ends
  lex-compact_text (boolean b) r h ends = lex-boolean b r ends
  lex-compact_text (number (unsigned n)) r h ends = lex-number _ r (IsNumber-decimal n h) ends
  lex-compact_text (number (negative z)) r h ends = absurd h
  lex-compact_text (number (float x)) r h ends = absurd h
  lex-compact_text (string s) r h ends = lex-quoted s r
  lex-compact_text (array ds) r h ends = ap (λ after. token tokens.begin_array ∷ after) (lex-items_text false ds r h)
  lex-compact_text (object ms) r h ends = ap (λ after. token tokens.begin_object ∷ after) (lex-members_text false ms r h.0)

  lex-items_text : (later : Bool) (ds : Items) (r : List ℕ) → ItemsAreExact ds → lex between (items_text later ds ++ r) ≡ items_lexemes later ds (lex between r)
  lex-items_text later no_items r h = refl
  lex-items_text later (item d ds) r h =
      ap (lex between) (regroup (comma_if later) (compact_text d) (items_text true ds) r)
      ∙ lex-comma_if later _
      ∙ ap (comma_before later) (lex-compact_text d (items_text true ds ++ r) h.0 (ends_word-items_text ds r) ∙ ap (lexemes d) (lex-items_text true ds r h.1))

  lex-members_text : (later : Bool) (ms : Members) (r : List ℕ) → MembersAreExact ms →
      lex between (members_text later ms ++ r) ≡ members_lexemes later ms (lex between r)
  lex-members_text later no_members r h = refl
  lex-members_text later (member k d ms) r h =
      ap (lex between) (regroup (comma_if later) (quoted k) (58 ∷ (compact_text d ++ members_text true ms)) r)
      ∙ lex-comma_if later _
      ∙ ap (comma_before later)
      (lex-quoted k _
      ∙ ap (λ after. token (tokens.string k) ∷ colon ∷ after)
      (ap (lex between) (append_assoc (compact_text d) (members_text true ms) r)
      ∙ lex-compact_text d (members_text true ms ++ r) h.1 (ends_word-members_text ms r) ∙ ap (lexemes d) (lex-members_text true ms r h.2)))

pub tokens-line_feed : (d : Data) → IsExact d → tokens_of (compact_text d ++ 10 ∷ []) ≡ tokens_of (compact_text d)
unfolding lex
tokens-line_feed d h =
    ap (punctuate fresh)
    (lex-compact_text d (10 ∷ []) h refl ∙ sym (ap (lex between) (sym (append-nil (compact_text d))) ∙ lex-compact_text d [] h refl))
