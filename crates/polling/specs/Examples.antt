-- The card of the worked examples.
use Rattle.std.specs.Prelude.{ℕ, List, [], ◌∷◌, replicate}
use Rattle.assertions.specs.declared.assertion.Assertion.{Assertion}
use Rattle.assertions.specs.declared.assertion.Assertion.TheVariants.{Neb}
use Rattle.assorters.specs.declared.seen.Seen.{Seen}
use Rattle.assorters.specs.declared.seen.Seen.TheVariants.{Found, Missing}

-- one card, found to be for candidate 0
abbrev pub one_found : List Seen
one_found = Found (0 ∷ []) ∷ []

-- a card that can't be found
abbrev pub one_missing : List Seen
one_missing = Missing ∷ []

-- the card is drawn n times
abbrev pub draws_of_one : ℕ → List ℕ
draws_of_one n = replicate n 1

-- candidate 0 has more votes than candidate 1, which proves the winner of two
abbrev pub leads : List Assertion
leads = Neb 0 1 ∷ []
