-- The polls of the worked examples.
use Rattle.std.specs.Prelude.{ℕ, List, map}
use Rattle.assertions.specs.declared.assertion.Assertion.TheVariants.{Neb}
use Rattle.assertions.specs.declared.assertion.Claim.{Claim}
use Rattle.assertion_file.specs.Content.{Content}
use Rattle.assertion_file.specs.Examples as files
use Rattle.polling.specs.declared.counts.PollCounts.{PollCounts}

-- the first of three candidates has more votes than this one, by one vote
abbrev pub leads : ℕ → Claim
leads other = record { assertion = Neb 0 other; margin = 1 }

-- a file whose claims, that it leads these candidates, are to prove that it wins
abbrev pub file_of : List ℕ → Content
file_of others = record files.three_candidates { winner = 0; claims = map leads others }

-- this many draws are for the winner
abbrev pub for_the_winner : ℕ → PollCounts
for_the_winner draws = record { n0 = 0; n1 = 0; n2 = draws }

-- and this many for the other candidate, or of cards that can't be found
abbrev pub against_the_winner : ℕ → PollCounts
against_the_winner draws = record { n0 = draws; n1 = 0; n2 = 0 }
