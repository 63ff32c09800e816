-- The id of a card determines the card.
use Rattle.std.proofs.Common.{inl, inr, ◌≡◌, ◌∙◌, ◌++◌, ◌∷◌, [], ◌||◌, ◌==◌, ◌≤◌, ℕ, Bool, true, false, List, decimal, nat_le, refl, sym, ap, arith, leb-true}
use Rattle.std.specs.Char.{is_ascii_digit}
use Rattle.std.specs.Cmp.Lexicographic.{bytes_decides}
use Rattle.std.specs.List.{list_all, list_any}
use Rattle.std.proofs.lemmas.Bool.{and_parts, cases_Bool, both_ways}
use Rattle.std.proofs.lemmas.Fmt.{decimal_injective, digits_decimal}
use Rattle.irv_base.specs.Names.{Id, is_same}
use Rattle.manifest.specs.Cards.{NamesNone, card_id, is_batch_id, underscore}
use Rattle.manifest.specs.declared.limits.TheConstants.{MOST_BATCH_CARDS}
use Rattle.manifest.proofs.Finding.{Names, card}
use Rattle.csv_rows.proofs.Numbers.{AreDigits, own}
use Rattle.manifest.proofs.Numbers.{same-equal}

abbrev pub has_underscore : List ℕ → Bool
has_underscore text = list_any (λ b. b == underscore) text

pub or_true : (a b : Bool) → b ≡ true → (a || b) ≡ true
or_true true b h = refl
or_true false b h = h

or-false : (a b : Bool) → (a || b) ≡ false → (a ≡ false) × (b ≡ false)
or-false false b h = (refl, h)
or-false true b h = absurd (both_ways true h refl)

has : (a b : List ℕ) → has_underscore (a ++ underscore ∷ b) ≡ true
has [] b = refl
has (x ∷ a) b = or_true (x == underscore) (has_underscore (a ++ underscore ∷ b)) (has a b)

-- it is cut at its last underscore
pub cut_once : (a b c d : List ℕ) → has_underscore b ≡ false → has_underscore d ≡ false → a ++ underscore ∷ b ≡ c ++ underscore ∷ d → (a ≡ c) × (b ≡ d)
cut_once [] b [] d n m h = let e : b ≡ d = cc in (refl, e)
cut_once [] b (y ∷ c) d n m h = let e : b ≡ c ++ underscore ∷ d = cc in absurd (both_ways (has_underscore b) n (ap has_underscore e ∙ has c d))
cut_once (x ∷ a) b [] d n m h = let e : a ++ underscore ∷ b ≡ d = cc in absurd (both_ways (has_underscore d) m (ap has_underscore (sym e) ∙ has a b))
cut_once (x ∷ a) b (y ∷ c) d n m h =
    let s : x ≡ y = cc in
    let e : a ++ underscore ∷ b ≡ c ++ underscore ∷ d = cc in
    let (front, back) = cut_once a b c d n m e in
    (ap (λ z. z ∷ a) s ∙ ap (λ r. y ∷ r) front, back)

not_underscore : (b : ℕ) → b ≤ 57 → (b == 95) ≡ false
not_underscore b h = grind arith

none_in_digits : (text : List ℕ) → AreDigits text → has_underscore text ≡ false
none_in_digits [] h = refl
none_in_digits (b ∷ text) h =
    let (one, all) = and_parts (is_ascii_digit b) (list_all is_ascii_digit text) h in
    rw (not_underscore b (leb-true b 57 (and_parts (nat_le 48 b) (nat_le b 57) one).1)) (none_in_digits text all)

none_in_decimal : (k : ℕ) → k ≤ MOST_BATCH_CARDS → has_underscore (decimal k) ≡ false
none_in_decimal k h = none_in_digits (decimal k) (digits_decimal own k (omega (arith, h)))

-- the id of a card, as it is cut
pub cut_card : (b : Id) (k : ℕ) (front back : List ℕ) → k ≤ MOST_BATCH_CARDS → has_underscore back ≡ false → card_id (card b k) ≡ front ++ underscore ∷ back →
    (b ≡ front) × (decimal k ≡ back)
cut_card b k front back most n h = cut_once b (decimal k) front back (none_in_decimal k most) n h

pub differs : (a b : Id) → (a ≡ b → ⊥) → is_same a b ≡ false
differs a b h = elim (cases_Bool (is_same a b)) [
  | inl t ↦ absurd (h (same-equal a b t))
  | inr f ↦ f
]

-- ---- what names no card

pub no_underscore : (id : Id) → has_underscore id ≡ false → NamesNone id
no_underscore id n b k v first most = differs (card_id (card b k)) id (λ e. both_ways (has_underscore id) n (ap has_underscore (sym e) ∙ has b (decimal k)))

pub no_batch : (id front back : Id) → id ≡ front ++ underscore ∷ back → has_underscore back ≡ false → is_batch_id front ≡ false → NamesNone id
no_batch id front back e n f b k v first most =
    differs (card_id (card b k)) id (λ s. both_ways (is_batch_id front) f (ap is_batch_id (sym (cut_card b k front back most n (s ∙ e)).0) ∙ v))

pub no_number : (id front back : Id) → id ≡ front ++ underscore ∷ back → has_underscore back ≡ false →
    ((k : ℕ) → 1 ≤ k → k ≤ MOST_BATCH_CARDS → is_same (decimal k) back ≡ false) → NamesNone id
no_number id front back e n f b k v first most =
    differs (card_id (card b k)) id
    (λ s. both_ways (is_same (decimal k) back) (f k first most) ((bytes_decides (decimal k) back).1 (cut_card b k front back most n (s ∙ e)).1))

-- ---- what names a card

pub names : (id batch : Id) (k : ℕ) → card_id (card batch k) ≡ id → 1 ≤ k → k ≤ MOST_BATCH_CARDS → Names (λ c. is_same (card_id c) id) batch k
names id batch k e first most = record {
  first = first;
  alone = record {
    passes = (bytes_decides (card_id (card batch k)) id).1 e;
    alone = λ j low high other.
        differs (card_id (card batch j)) id
        (λ s. other (decimal_injective j k (omega (arith, high)) (omega (arith, most)) (cut_card batch j batch (decimal k) high (none_in_decimal k most) (s
        ∙ sym e)).1));
  };
  others = λ b v other j low high.
      differs (card_id (card b j)) id
      (λ s. both_ways (is_same b batch) other ((bytes_decides b batch).1 (cut_card b j batch (decimal k) high (none_in_decimal k most) (s ∙ sym e)).0));
}
