-- What is read on the cards, compared with the rankings that they have.
use Rattle.std.specs.Prelude.{◌≡◌, ℕ, List, ⊤}
use Rattle.std.specs.List.{AllZip}
use Rattle.assorters.specs.declared.seen.Seen.{Seen}
use Rattle.assorters.specs.declared.seen.Seen.TheVariants.{Found, Missing}

-- the card is missing, or found with its actual ranking
abbrev pub IsReading : List ℕ → Seen → Type 0
IsReading actual (Found ranking) = ranking ≡ actual
IsReading actual Missing = ⊤

-- each card is missing, or found with its actual ranking
abbrev pub AreReadings : List (List ℕ) → List Seen → Type 0
AreReadings actual seen = AllZip IsReading actual seen
