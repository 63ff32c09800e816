-- Ids as words: the content of a text into which an id was copied, and that no two ids have the same words.
use Rattle.std.proofs.Common.{◌≡◌, ◌≤◌, ◌<◌, ◌+◌, ◌-◌, ◌∙◌, ◌++◌, ◌∷◌, ◌&&◌, [], ℕ, zero, suc, true, not, List, length, take, drop, replicate, get_or, refl, sym, ap, ap₂, arith, length-append}
use Rattle.std.specs.Prelude.{map}
use Rattle.std.specs.Cmp.{both_ways}
use Rattle.std.specs.Cmp.Lexicographic.{bytes_decides, slice_cmp, texts_ties}
use Rattle.std.specs.Int.{to_be_bytes, w64}
use Rattle.std.specs.List.{list_all}
use Rattle.std.specs.Ordering.{is_eq, nat_cmp}
use Rattle.std.proofs.lemmas.Bool.{and_parts, false≢true}
use Rattle.std.proofs.lemmas.List.{drop-drop, drop-replicate, drop_all, get_or-drop, length-drop, length-replicate, length-take, take-append-drop}
use Rattle.std.proofs.lemmas.Nat.{be_bytes_8}
use Rattle.irv_base.specs.Names.{Id, has_name_length, is_name, is_name_byte, is_same, touches_space}
use Rattle.irv_base.specs.declared.limits.TheConstants.{MOST_NAME_BYTES}
use Rattle.irv_base.proofs.NameBytes.{name-few}
use Rattle.manifest.specs.IdWords.{filled, word_at, words_of}

-- a text with an id copied to its front
pub of_copied : (id own copied text : List ℕ) → own ≡ id → copied ≡ own → text ≡ replicate MOST_NAME_BYTES 0 →
    map (word_at (copied ++ drop (length own) text)) (0 ∷ 8 ∷ 16 ∷ 24 ∷ 32 ∷ 40 ∷ 48 ∷ 56 ∷ []) ≡ words_of id
of_copied id own copied text is same blank =
    ap (λ t. map (word_at t) (0 ∷ 8 ∷ 16 ∷ 24 ∷ 32 ∷ 40 ∷ 48 ∷ 56 ∷ []))
    (ap₂ (λ a b. a ++ drop (length own) b) same blank ∙ ap (λ zeros. own ++ zeros) (drop-replicate (length own) MOST_NAME_BYTES 0) ∙ ap filled is)

-- ---- no two ids have the same words

zero-small : (m i : ℕ) → get_or (replicate m 0) i 0 < 256
zero-small zero i = omega arith
zero-small (suc m) zero = omega arith
zero-small (suc m) (suc i) = zero-small m i

name-byte : (b : ℕ) (bytes : List ℕ) → list_all is_name_byte (b ∷ bytes) ≡ true → (is_name_byte b ≡ true) × (list_all is_name_byte bytes ≡ true)
name-byte b bytes h = and_parts (is_name_byte b) (list_all is_name_byte bytes) h

name-small : (b : ℕ) → is_name_byte b ≡ true → b < 256
name-small b h = grind (arith, h)

small : (id : Id) (m i : ℕ) → list_all is_name_byte id ≡ true → get_or (id ++ replicate m 0) i 0 < 256
small [] m i h = zero-small m i
small (b ∷ id) m zero h = name-small b (name-byte b id h).0
small (b ∷ id) m (suc i) h = small id m i (name-byte b id h).1

small-front : (k : ℕ) (text : List ℕ) (i : ℕ) → ((i : ℕ) → get_or text i 0 < 256) → get_or (take k text) i 0 < 256
small-front zero text i h = omega arith
small-front (suc k) [] i h = omega arith
small-front (suc k) (b ∷ text) zero h = h 0
small-front (suc k) (b ∷ text) (suc i) h = small-front k text i (λ j. h (suc j))

small-behind : (k : ℕ) (text : List ℕ) (i : ℕ) → ((i : ℕ) → get_or text i 0 < 256) → get_or (drop k text) i 0 < 256
small-behind k text i h = omega (arith, get_or-drop k text i 0, h (k + i))

record IsText (text : List ℕ) : Type 0 where
  long : length text ≡ 64
  bytes : (i : ℕ) → get_or text i 0 < 256

is_text : (id : Id) → is_name id ≡ true → IsText (filled id)
is_text id h = record {
  long = omega (arith, length-append id (replicate (64 - length id) 0), length-replicate {A = ℕ} (64 - length id) 0, name-few id h);
  bytes = λ i. small id (64 - length id) i (and_parts (has_name_length id && not (touches_space id)) (list_all is_name_byte id) h).1;
}

eight : (k : ℕ) (text : List ℕ) → IsText text → k + 8 ≤ 64 → length (take 8 (drop k text)) ≡ 8
eight k text h within = omega (arith, length-take 8 (drop k text), length-drop k text, h.long, within)

read : (k : ℕ) (text : List ℕ) → IsText text → k + 8 ≤ 64 → to_be_bytes w64 (word_at text k) ≡ take 8 (drop k text)
unfolding word_at
read k text h within =
    be_bytes_8 (take 8 (drop k text)) (word_at text k) (eight k text h within)
    (λ i. small-front 8 (drop k text) i (λ j. small-behind k text j h.bytes)) refl

-- a word and what follows it
step : (k : ℕ) (xs ys : List ℕ) → IsText xs → IsText ys → k + 8 ≤ 64 → word_at xs k ≡ word_at ys k → drop (k + 8) xs ≡ drop (k + 8) ys →
    drop k xs ≡ drop k ys
step k xs ys own its within e rest =
    let first = sym (read k xs own within) ∙ ap (to_be_bytes w64) e ∙ read k ys its within in
    sym (take-append-drop 8 (drop k xs)) ∙ ap₂ (λ a b. a ++ b) first (drop-drop 8 k xs ∙ rest ∙ sym (drop-drop 8 k ys)) ∙ take-append-drop 8 (drop k ys)

-- zeros show where an id ends
ends_apart : (xs ys : Id) (m n : ℕ) → list_all is_name_byte xs ≡ true → list_all is_name_byte ys ≡ true →
    xs ++ replicate m 0 ≡ ys ++ replicate n 0 → xs ≡ ys
ends_apart [] [] m n h k e = refl
ends_apart [] (y ∷ ys) zero n h k e = absurd cc
ends_apart [] (y ∷ ys) (suc m) n h k e = absurd (false≢true (ap is_name_byte (ap (λ l. get_or l 0 0) e) ∙ (name-byte y ys k).0))
ends_apart (x ∷ xs) [] m zero h k e = absurd cc
ends_apart (x ∷ xs) [] m (suc n) h k e = absurd (false≢true (ap is_name_byte (sym (ap (λ l. get_or l 0 0) e)) ∙ (name-byte x xs h).0))
ends_apart (x ∷ xs) (y ∷ ys) m n h k e =
    ap₂ (λ b bs. b ∷ bs) (ap (λ l. get_or l 0 0) e) (ends_apart xs ys m n (name-byte x xs h).1 (name-byte y ys k).1 (ap (drop 1) e))

pub words_apart : (a b : Id) → is_name a ≡ true → is_name b ≡ true → words_of a ≡ words_of b → a ≡ b
words_apart a b h k e =
    let own = is_text a h in
    let its = is_text b k in
    let same = λ (n : ℕ). ap (λ words. get_or words n 0) e in
    let xs = filled a in
    let ys = filled b in
    let end : drop 64 xs ≡ drop 64 ys = drop_all 64 xs (omega (arith, own.long)) ∙ sym (drop_all 64 ys (omega (arith, its.long))) in
    let all = step 0 xs ys own its (omega arith) (same 0)
    (step 8 xs ys own its (omega arith) (same 1) (step 16 xs ys own its (omega arith) (same 2) (step 24 xs ys own its (omega arith) (same 3)
    (step 32 xs ys own its (omega arith) (same 4) (step 40 xs ys own its (omega arith) (same 5) (step 48 xs ys own its (omega arith) (same 6)
    (step 56 xs ys own its (omega arith) (same 7) end))))))) in
    ends_apart a b (64 - length a) (64 - length b) (and_parts (has_name_length a && not (touches_space a)) (list_all is_name_byte a) h).1
    (and_parts (has_name_length b && not (touches_space b)) (list_all is_name_byte b) k).1 all

-- so words distinguish ids just as well as the ids themselves do
pub words_tie : (a b : Id) → is_name a ≡ true → is_name b ≡ true → is_eq (slice_cmp nat_cmp (words_of a) (words_of b)) ≡ is_same a b
words_tie a b h k =
    sym (texts_ties (words_of a) (words_of b))
    ∙ both_ways (is_same (words_of a) (words_of b)) (is_same a b)
    (λ e. (bytes_decides a b).1 (words_apart a b h k ((bytes_decides (words_of a) (words_of b)).0 e)))
    (λ e. (bytes_decides (words_of a) (words_of b)).1 (ap words_of ((bytes_decides a b).0 e)))
