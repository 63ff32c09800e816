-- The cards in a list of entries: which cards are there, and the number of a card by its id.
use Rattle.std.proofs.Common.{◌⊎◌, ◌≡◌, ◌∙◌, ℕ, zero, suc, ◌+◌, ◌-◌, ◌≤◌, ◌<◌, ◌==◌, get_or, set, subst, length-append, true, false, cond, List, [], ◌∷◌, ◌++◌, Option, Some, None, map, length, position, refl, sym, ap, inl, inr, arith}
use Rattle.std.specs.Prelude.{nat_eq, is_some, option_map}
use Rattle.std.specs.List.{slice_get}
use Rattle.std.specs.Map.{lookup}
use Rattle.std.proofs.lemmas.List.{get_or-set_other, get_or-set_same}
use Rattle.std.proofs.lemmas.Bool.{cases_Bool, cases_eq, true≢false}
use Rattle.std.proofs.lemmas.List.Quantifiers.{position-Some}
use Rattle.irv_base.specs.Names.{Id, is_same}
use Rattle.irv_base.proofs.Members.{Member, member_cases, member_nil}
use Rattle.manifest.specs.Cards.{card_id, place_of}
use Rattle.manifest.specs.declared.card.Card.{Card}
use Rattle.assorters.specs.declared.seen.Seen.{Seen}
use Rattle.seen_file.specs.Seen.{ArePlaces, Entry, seen_at, seen_in}

pub none-from : {X : Type 0} (o : Option X) → is_some o ≡ false → o ≡ None
none-from None h = refl
none-from (Some x) h = absurd (true≢false h)

-- ---- one more entry

missed : (entries : List Entry) (card other : ℕ) (seen : Seen) → nat_eq other card ≡ false →
    seen_in (entries ++ (card, seen) ∷ []) other ≡ seen_in entries other
missed [] card other seen apart = ap (λ b. cond b (Some seen) None) apart
missed (e ∷ entries) card other seen apart = ap (cond (nat_eq other e.0) (Some e.1)) (missed entries card other seen apart)

found_last : (entries : List Entry) (card : ℕ) (seen : Seen) → seen_in entries card ≡ None → seen_in (entries ++ (card, seen) ∷ []) card ≡ Some seen
found_last [] card seen none = let same : nat_eq card card ≡ true = grind arith in ap (λ b. cond b (Some seen) None) same
found_last (e ∷ entries) card seen none = elim (cases_Bool (nat_eq card e.0)) [
  | inl t ↦ let found : Some e.1 ≡ None = sym (ap (λ b. cond b (Some e.1) (lookup (nat_eq card) entries)) t) ∙ none in absurd cc
  | inr f ↦
      let rest = sym (ap (λ b. cond b (Some e.1) (lookup (nat_eq card) entries)) f) ∙ none in
      ap (λ b. cond b (Some e.1) (seen_in (entries ++ (card, seen) ∷ []) card)) f ∙ found_last entries card seen rest
]

at_some : (entries : List Entry) (i : ℕ) → seen_at entries (suc i) ≡ option_map (λ entry. entry.1) (slice_get entries i)
at_some entries i =
    let some : (suc i == 0) ≡ false = grind arith in
    let e : suc i - 1 ≡ i = omega arith in
    ap (λ b. cond b None (option_map (λ entry. entry.1) (slice_get entries (suc i - 1)))) some ∙ ap (λ k. option_map (λ entry. entry.1) (slice_get entries k)) e

get-left : (entries : List Entry) (entry : Entry) (i : ℕ) → i < length entries → slice_get (entries ++ entry ∷ []) i ≡ slice_get entries i
get-left [] entry i less = absurd (omega (arith, less))
get-left (e ∷ entries) entry zero less = refl
get-left (e ∷ entries) entry (suc i) less = get-left entries entry i (omega (arith, less))

get-last : (entries : List Entry) (entry : Entry) → slice_get (entries ++ entry ∷ []) (length entries) ≡ Some entry
get-last [] entry = refl
get-last (e ∷ entries) entry = get-last entries entry

at-stays : (entries : List Entry) (entry : Entry) (place : ℕ) → place ≤ length entries → seen_at (entries ++ entry ∷ []) place ≡ seen_at entries place
at-stays entries entry zero within = refl
at-stays entries entry (suc i) within =
    at_some (entries ++ entry ∷ []) i ∙ ap (option_map (λ e. e.1)) (get-left entries entry i (omega (arith, within))) ∙ sym (at_some entries i)

at-last : (entries : List Entry) (card : ℕ) (seen : Seen) → seen_at (entries ++ (card, seen) ∷ []) (length entries + 1) ≡ Some seen
at-last entries card seen =
    let e : length entries + 1 ≡ suc (length entries) = omega arith in
    ap (seen_at (entries ++ (card, seen) ∷ [])) e ∙ at_some (entries ++ (card, seen) ∷ []) (length entries)
    ∙ ap (option_map (λ entry. entry.1)) (get-last entries (card, seen))

-- a new card's entry goes last, and the entry's number goes at the card's place
pub places-put : (entries : List Entry) (places now : List ℕ) (card : ℕ) (seen : Seen) → ArePlaces entries places → seen_in entries card ≡ None →
    ((other : ℕ) → get_or now other 0 ≡ get_or places other 0) → card < length now →
    ArePlaces (entries ++ (card, seen) ∷ []) (set now card (length entries + 1))
places-put entries places now card seen h new same within = λ other. by other (cases_eq other card) where
  more : List Entry
  more = entries ++ (card, seen) ∷ []

  IsPlace : ℕ → ℕ → Type 0
  IsPlace other place = (seen_at more place ≡ seen_in more other) × (place ≤ length more)

  by : (other : ℕ) → (other ≡ card) ⊎ (other ≡ card → ⊥) → IsPlace other (get_or (set now card (length entries + 1)) other 0)
  by other (inl e) =
      let is = ap (λ k. get_or (set now card (length entries + 1)) k 0) e ∙ get_or-set_same now card (length entries + 1) 0 within in
      subst (IsPlace other) (sym is)
      (at-last entries card seen ∙ sym (found_last entries card seen new) ∙ ap (seen_in more) (sym e), omega (arith, length-append entries ((card, seen) ∷ [])))
  by other (inr apart) =
      let is = get_or-set_other now card other (length entries + 1) 0 apart ∙ same other in
      let differ : nat_eq other card ≡ false = grind (arith, apart) in
      let (at, few) = h other in
      subst (IsPlace other) (sym is) (
        at-stays entries (card, seen) (get_or places other 0) few ∙ at ∙ sym (missed entries card other seen differ),
        omega (arith, few, length-append entries ((card, seen) ∷ [])),
      )

-- a card that isn't found isn't there
pub absent : (entries : List Entry) (card : ℕ) → seen_in entries card ≡ None → Member card (map (λ entry. entry.0) entries) → ⊥
absent [] card none m = member_nil m
absent (e ∷ entries) card none m = elim (member_cases m) [
  | inl here ↦
      let same : nat_eq card e.0 ≡ true = rw here (grind arith) in
      let found : Some e.1 ≡ None = sym (ap (λ b. cond b (Some e.1) (lookup (nat_eq card) entries)) same) ∙ none in absurd cc
  | inr there ↦ elim (cases_Bool (nat_eq card e.0)) [
    | inl t ↦ let found : Some e.1 ≡ None = sym (ap (λ b. cond b (Some e.1) (lookup (nat_eq card) entries)) t) ∙ none in absurd cc
    | inr f ↦ absent entries card (sym (ap (λ b. cond b (Some e.1) (lookup (nat_eq card) entries)) f) ∙ none) there
  ]
]
