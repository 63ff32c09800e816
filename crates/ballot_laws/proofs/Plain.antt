-- Ids, numbers and records that are plain.
use Rattle.std.proofs.Common.{◌≡◌, ◌∙◌, ◌∷◌, [], ◌-◌, ◌<◌, ◌≤◌, ◌^◌, ◌||◌, ◌&&◌, ◌==◌, ℕ, zero, suc, true, false, not, List, length, get_or, nat_le, decimal, refl, ap, arith, leb-true}
use Rattle.std.specs.Char.{is_ascii_digit}
use Rattle.std.specs.List.{list_all}
use Rattle.std.proofs.lemmas.Bool.{and_from, and_parts, ne_eqb}
use Rattle.std.proofs.lemmas.Fmt.{digits_decimal}
use Rattle.csv_rows.specs.Fields.{is_blank_record}
use Rattle.csv_rows.specs.Rows.{Fields}
use Rattle.csv_rows.proofs.Numbers.{own}
use Rattle.irv_base.specs.Names.{Id, comma, double_quote, has_name_length, is_name, is_name_byte, space, tilde, touches_space}
use Rattle.ballot_laws.specs.Bytes.{is_plain, is_plain_record}

-- ---- ids

plain-byte : (b : ℕ) → is_name_byte b ≡ true → (nat_le space b && nat_le b tilde) ≡ true
plain-byte b h =
    (and_parts (nat_le space b && nat_le b tilde) (not (b == double_quote))
    (and_parts (nat_le space b && nat_le b tilde && not (b == double_quote)) (not (b == comma)) h).0).0

all-plain : (bytes : List ℕ) → list_all is_name_byte bytes ≡ true → list_all (λ b. nat_le space b && nat_le b tilde) bytes ≡ true
all-plain [] h = refl
all-plain (b ∷ bytes) h =
    let (one, all) = and_parts (is_name_byte b) (list_all is_name_byte bytes) h in
    and_from (nat_le space b && nat_le b tilde) (list_all (λ b. nat_le space b && nat_le b tilde) bytes) (plain-byte b one) (all-plain bytes all)

pub plain-name : (id : Id) → is_name id ≡ true → is_plain id ≡ true
plain-name id h =
    let (ends, all) = and_parts (has_name_length id && not (touches_space id)) (list_all is_name_byte id) h in
    and_from (list_all (λ b. nat_le space b && nat_le b tilde) id) (not (touches_space id)) (all-plain id all)
    (and_parts (has_name_length id) (not (touches_space id)) ends).1

pub plain-names : (ids : List Id) → list_all is_name ids ≡ true → list_all is_plain ids ≡ true
plain-names [] h = refl
plain-names (id ∷ ids) h =
    let (one, all) = and_parts (is_name id) (list_all is_name ids) h in
    and_from (is_plain id) (list_all is_plain ids) (plain-name id one) (plain-names ids all)

-- ---- numbers

le-nat_le : (a b : ℕ) → a ≤ b → nat_le a b ≡ true
le-nat_le a b h = grind arith

digit-range : (b : ℕ) → is_ascii_digit b ≡ true → (48 ≤ b) × (b ≤ 57)
digit-range b h = let (low, high) = and_parts (nat_le 48 b) (nat_le b 57) h in (leb-true 48 b low, leb-true b 57 high)

digits-plain : (text : List ℕ) → list_all is_ascii_digit text ≡ true → list_all (λ b. nat_le space b && nat_le b tilde) text ≡ true
digits-plain [] h = refl
digits-plain (b ∷ text) h =
    let (one, all) = and_parts (is_ascii_digit b) (list_all is_ascii_digit text) h in
    let (low, high) = digit-range b one in
    and_from (nat_le space b && nat_le b tilde) (list_all (λ b. nat_le space b && nat_le b tilde) text)
    (and_from (nat_le space b) (nat_le b tilde) (le-nat_le space b (omega (arith, low))) (le-nat_le b tilde (omega (arith, high)))) (digits-plain text all)

no-space : (text : List ℕ) (i : ℕ) → list_all is_ascii_digit text ≡ true → (get_or text i 0 == space) ≡ false
no-space [] i h = refl
no-space (b ∷ text) zero h =
    let low = (digit-range b (and_parts (is_ascii_digit b) (list_all is_ascii_digit text) h).0).0 in
    ne_eqb b space (λ e. omega (arith, low, e))
no-space (b ∷ text) (suc i) h = no-space text i (and_parts (is_ascii_digit b) (list_all is_ascii_digit text) h).1

pub plain-digits : (text : List ℕ) → list_all is_ascii_digit text ≡ true → is_plain text ≡ true
plain-digits text h =
    let apart : touches_space text ≡ false = ap (λ b. b || (get_or text (length text - 1) 0 == space)) (no-space text 0 h)
    ∙ no-space text (length text - 1) h in
    and_from (list_all (λ b. nat_le space b && nat_le b tilde) text) (not (touches_space text)) (digits-plain text h) (ap not apart)

pub plain-number : (n : ℕ) → n < 2 ^ 64 → is_plain (decimal n) ≡ true
plain-number n h = plain-digits (decimal n) (digits_decimal own n (omega (arith, h)))

-- ---- records

pub some-fields : (a b : List ℕ) (rest : Fields) → list_all is_plain (a ∷ b ∷ rest) ≡ true → is_plain_record (a ∷ b ∷ rest) ≡ true
some-fields a b rest h =
    let some : nat_le 1 (length (a ∷ b ∷ rest)) ≡ true = le-nat_le 1 (length (a ∷ b ∷ rest)) (omega arith) in
    and_from (list_all is_plain (a ∷ b ∷ rest) && nat_le 1 (length (a ∷ b ∷ rest))) (not (is_blank_record (a ∷ b ∷ rest)))
    (and_from (list_all is_plain (a ∷ b ∷ rest)) (nat_le 1 (length (a ∷ b ∷ rest))) h some) refl
