-- The worked example of two cards.
use Rattle.std.proofs.Common.{◌≡◌, ◌<◌, ◌≤◌, true, [], ◌∷◌, All, count_by, refl, arith}
use Rattle.std.specs.Fmt.{digits}
use Rattle.std.specs.List.{range_with_len}
use Rattle.std.proofs.lemmas.List.Elements.{All-nil, All-cons}
use Rattle.irv_base.specs.Candidates.{is_distinct}
use Rattle.ballots.specs.Ballots.{IsSound as AreSound}
use Rattle.manifest.specs.Cards.{AreBatches}
use Rattle.km_risk.specs.Printed.{printed_risk}
use Rattle.km_risk.specs.Reach.{IsSequence, sequences}
use Rattle.session_state.specs.Draws.{AreRoundEnds, is_signed_off_on, session_to}
use Rattle.session_state.specs.RiskOfValues.{AreSignedOff, AreTerms, MayBeSignedOff}
use Rattle.plurality.specs.Plural.{claims_of}
use Rattle.plurality.specs.RiskLimit.{ArePublished, HaveAnother}
use Rattle.plurality.specs.Examples.{two_actual, two_ballots, two_batches, two_outcome, two_records, two_seen}

-- ---- the files
batches : AreBatches two_batches.ids two_batches.counts
batches = record { a_count_each = refl; named = refl; differ = refl; counted = refl; most = omega arith }

ballots : AreSound two_ballots
ballots = record {
  candidates = record { fewest = omega arith; most = omega arith; differ = refl };
  ballots = record {
    most = omega arith;
    an_id_each = refl;
    a_place_each = refl;
    differ = refl;
    below = All-cons (λ r. All (λ c. c < 2) r) (0 ∷ []) ((0 ∷ []) ∷ []) zero_below
        (All-cons (λ r. All (λ c. c < 2) r) (0 ∷ []) [] zero_below (All-nil (λ r. All (λ c. c < 2) r)));
    distinct =
        All-cons (λ r. is_distinct r ≡ true) (0 ∷ []) ((0 ∷ []) ∷ []) refl
        (All-cons (λ r. is_distinct r ≡ true) (0 ∷ []) [] refl (All-nil (λ r. is_distinct r ≡ true)));
  };
}
  where
    zero_below : All (λ c. c < 2) (0 ∷ [])
    zero_below = All-cons (λ c. c < 2) 0 [] (omega arith) (All-nil (λ c. c < 2))

pub published : ArePublished two_batches two_ballots two_outcome
unfolding digits
published = record { manifest_sound = batches; ballots_sound = ballots; linked = refl; counted = refl }

pub terms : AreTerms 700000 500
terms = record { below_one = omega arith; positive = omega arith }

-- ---- the cards
pub wrong : HaveAnother 2 0 2 two_actual
wrong = record { one_each = refl; other = 1; below = omega arith; differs = λ e. omega (arith, e); as_many = omega arith }

one_round : AreRoundEnds 1 (1 ∷ [])
one_round = record {
  rising = λ i j d before within. absurd (omega arith);
  some = All-cons (λ e. 1 ≤ e) 1 [] (omega arith) (All-nil (λ e. 1 ≤ e));
  drawn = All-cons (λ e. e ≤ 1) 1 [] (omega arith) (All-nil (λ e. e ≤ 1));
}

may_be_signed_off : MayBeSignedOff 700000 500 (claims_of two_outcome) two_records two_actual (1 ∷ [])
unfolding printed_risk
may_be_signed_off = record {
  seen = two_seen;
  readings = (refl, (refl, tt));
  session = session_to 700000 500 (claims_of two_outcome) two_records two_seen (1 ∷ []) (1 ∷ []);
  drawn = record { ends = 1 ∷ []; are = one_round; is = refl };
  signed_off = refl;
}

one_drawn : IsSequence 2 1 (1 ∷ [])
one_drawn = record {
  long = refl;
  some = All-cons (λ e. 1 ≤ e) 1 [] (omega arith) (All-nil (λ e. 1 ≤ e));
  within = All-cons (λ e. e ≤ 2) 1 [] (omega arith) (All-nil (λ e. e ≤ 2));
}

pub signed_off : AreSignedOff 700000 500 (claims_of two_outcome) two_records two_actual 1 ((1 ∷ []) ∷ [])
signed_off = record {
  drawn = All-cons (IsSequence 2 1) (1 ∷ []) [] one_drawn (All-nil (IsSequence 2 1));
  differ = λ i j d before within. absurd (omega arith);
  each =
      All-cons (MayBeSignedOff 700000 500 (claims_of two_outcome) two_records two_actual) (1 ∷ []) [] may_be_signed_off
      (All-nil (MayBeSignedOff 700000 500 (claims_of two_outcome) two_records two_actual));
}

pub counted : count_by (is_signed_off_on 700000 500 (claims_of two_outcome) two_records two_seen) (sequences (range_with_len 1 2) 1) ≡ 1
unfolding printed_risk
counted = refl
