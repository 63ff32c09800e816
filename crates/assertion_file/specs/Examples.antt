-- The worked examples.
use Rattle.std.specs.Prelude.{ℕ, [], ◌∷◌, Some, None, codes}
use Rattle.assertions.specs.declared.assertion.Assertion.TheVariants.{Neb, Nen}
use Rattle.assertion_file.specs.Content.{Content}

-- the certificate of five ballots 1, four 2,3 and three 3,2
abbrev pub three_candidates : Content
three_candidates = record {
  contest = codes "1";
  candidates = codes "1" ∷ codes "2" ∷ codes "3" ∷ [];
  records = 12;
  winner = 1;
  margin = 1;
  order = Some (1 ∷ 0 ∷ 2 ∷ []);
  claims =
      record { assertion = Neb 1 2; margin = 1 } ∷
      record { assertion = Nen 1 0 3; margin = 2 } ∷
      record { assertion = Nen 2 0 5; margin = 2 } ∷
      [];
  plan = None;
}

-- two candidates, the first with this many votes more than the second, and this many records
abbrev pub led_by : ℕ → ℕ → Content
led_by margin records = record {
  contest = codes "1";
  candidates = codes "1" ∷ codes "2" ∷ [];
  records = records;
  winner = 0;
  margin = margin;
  order = Some (0 ∷ 1 ∷ []);
  claims = record { assertion = Neb 0 1; margin = margin } ∷ [];
  plan = None;
}

-- three ballots for A\1 and two for B
abbrev pub two_candidates : Content
two_candidates =
    record (led_by 1 5) { contest = codes "7"; candidates = codes "A\\1" ∷ codes "B" ∷ [] }

-- five ballots 1, and the same number of cards
abbrev pub planned : Content
planned = record (led_by 5 5) {
  plan = Some (record { cards = 5; gamma = 100; limit = 50000; draws = Some 5 ∷ [] });
}

-- the same three candidates, with nothing said about a best margin
abbrev pub covered : Content
covered = record three_candidates { order = None }

-- the same with a plan
abbrev pub covered_and_planned : Content
covered_and_planned = record planned { order = None }

-- one ballot among a thousand cards: a full count
abbrev pub full_count : Content
full_count = record (led_by 1 1) {
  plan = Some (record { cards = 1000; gamma = 100; limit = 50000; draws = None ∷ [] });
}
