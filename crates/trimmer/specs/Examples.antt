-- Worked examples of a file with a plan, and of one without an order.
use Rattle.std.specs.Prelude.{ℕ, List, [], ◌∷◌, Option, Some, None}
use Rattle.assertions.specs.declared.assertion.Assertion.TheVariants.{Neb}
use Rattle.assertion_file.specs.Content.{Content}
use Rattle.assertion_file.specs.Examples as files

-- the certificate of three candidates, with these draws planned
abbrev pub planning : List (Option ℕ) → Content
planning draws =
    record files.three_candidates {
      plan = Some (record { cards = 12; gamma = 100; limit = 50000; draws = draws });
    }

-- two claims of two candidates that say the same, one with a different margin, in a file without an order
abbrev pub twice : ℕ → Content
twice margin =
    record files.two_candidates {
      margin = margin;
      order = None;
      claims =
          record { assertion = Neb 0 1; margin = 2 } ∷
          record { assertion = Neb 0 1; margin = 1 } ∷
          [];
    }
