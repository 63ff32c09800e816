-- Worked examples of a file with a plan.
use Rattle.std.specs.Prelude.{ℕ, List, [], ◌∷◌, Option, Some, replicate}
use Rattle.assertion_file.specs.Content.{Content}
use Rattle.assertion_file.specs.Examples as files

-- five ballots for the first of two candidates
abbrev pub five_ballots : List (List ℕ)
five_ballots = replicate 5 (0 ∷ [])

-- the certificate of these ballots, with these draws planned for five cards
abbrev pub planning : Option ℕ → Content
planning draws =
    record files.planned {
      plan = Some (record { cards = 5; gamma = 100; limit = 50000; draws = draws ∷ [] });
    }
