-- The worked examples.
use Rattle.std.specs.Prelude.{ℕ, List, [], ◌∷◌, map, replicate, codes}
use Rattle.assertions.specs.declared.assertion.Assertion.TheVariants.{Neb}
use Rattle.assertions.specs.declared.assertion.Claim.{Claim}
use Rattle.assertion_file.specs.Content.{Content as FileContent}
use Rattle.assertion_file.specs.Examples as files
use Rattle.session_state.specs.Content.{Content}
use Rattle.session_state.specs.Sessions.{Round}
use Rattle.km_risk.specs.Counts.{clean}

-- the claim that A is before B, by this margin
abbrev pub claim_of : ℕ → Claim
claim_of margin = record { assertion = Neb 0 1; margin = margin }

-- a file for candidates A and B, with a claim like this for each of these margins
abbrev pub file_of : List ℕ → FileContent
file_of margins = record (files.led_by 1 12) {
  candidates = codes "A" ∷ codes "B" ∷ [];
  claims = map claim_of margins;
}

-- a round of one claim, without a discrepancy
abbrev pub clean_round : ℕ → ℕ → Round
clean_round draws risk = record { draws = draws; counts = clean draws ∷ []; risks = risk ∷ [] }

-- one card that is drawn again and again
abbrev pub one_card : Content
one_card = record {
  contest = codes "7";
  seed = codes "2024";
  digests =
      record { ballots = replicate 32 1; manifest = replicate 32 2; assertions = replicate 32 3 };
  session = record {
    cards = 1;
    margins = 1 ∷ [];
    limit = 50000;
    gamma = 100;
    rounds = clean_round 4 88518543815313162 ∷ clean_round 5 48282842081079907 ∷ [];
  };
}
