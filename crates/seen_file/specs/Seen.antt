-- What is seen on cards, by card number.
use Rattle.std.specs.Prelude.{◌≡◌, ◌≤◌, ◌-◌, ◌==◌, ℕ, nat_eq, if◌then◌else◌, List, slice_get, slice_index_or, length, Option, None, option_map}
use Rattle.std.specs.Map.{lookup}
use Rattle.assorters.specs.declared.seen.Seen.{Seen}

-- the number of a card, and what is seen on the card
abbrev pub Entry : Type 0
Entry = ℕ × Seen

abbrev pub seen_in : List Entry → ℕ → Option Seen
seen_in entries card = lookup (nat_eq card) entries

-- ---- how a card's entry is found

-- what is seen on a card with this entry number, counted from 1; 0 is no entry
abbrev pub seen_at : List Entry → ℕ → Option Seen
seen_at entries place =
    if place == 0 then None else option_map (λ entry. entry.1) (slice_get entries (place - 1))

-- the number at each card's place is that of its entry, or 0
abbrev pub ArePlaces : List Entry → List ℕ → Type 0
ArePlaces entries places =
    (card : ℕ) → (seen_at entries (slice_index_or places card 0) ≡ seen_in entries card) ×
    (slice_index_or places card 0 ≤ length entries)
