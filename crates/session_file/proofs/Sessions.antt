-- The value of a session is exact, and has little nesting.
use Rattle.std.proofs.Common.{◌≡◌, ℕ, ◌<◌, ◌≤◌, ◌^◌, true, nat_lt, ltb-true, List, [], ◌∷◌, map, All, refl, subst, sym, arith}
use Rattle.std.specs.Str.{IsAscii, IsUtf8}
use Rattle.std.proofs.lemmas.Bool.{and_parts}
use Rattle.std.proofs.lemmas.List.Elements.{All-cons, All-head, All-nil, All-tail}
use Rattle.std.proofs.lemmas.Str.{IsUtf8-from_ascii}
use Rattle.std.proofs.lemmas.Str.Ascii.{IsAscii-cons, IsAscii-nil}
use Rattle.json.proofs.Printed.Utf8.{are_ascii}
use Rattle.hex.specs.Hex.{encode_lower, lower_digits}
use Rattle.hex.proofs.HexLemmas.{IsAscii-encode_with}
use Rattle.serde_json.specs.Data.{depth, items_depth}
use Rattle.serde_json.specs.View.{items_of}
use Rattle.serde_json.proofs.OnLiterals.{serde_json_on_literals}
use Rattle.irv_base.specs.declared.limits.TheConstants.{MOST_CARDS, MOST_DRAWS}
use Rattle.irv_base.proofs.NameText.{IsUtf8-name}
use Rattle.km_risk.specs.declared.draws.Counts.{Counts}
use Rattle.km_risk.specs.Counts.{draws_in}
use Rattle.km_risk.specs.Printed.{printed_risk}
use Rattle.km_risk.proofs.RiskBounds.{at_most_one_law}
use Rattle.sampler.proofs.SeedText.{IsUtf8-seed}
use Rattle.assertion_file.specs.Text.{whole_number}
use Rattle.assertion_file.proofs.Exact.{IsExact, ItemsAreExact}
use Rattle.session_state.specs.Content.{Content, IsSound}
use Rattle.session_state.specs.Sessions.{IsRound, Round, Session, risks_of}
use Rattle.session_file.specs.Forms.{HasForms}
use Rattle.session_file.specs.Text.{counts_value, numbers_value, round_value, session_value}

-- ---- numbers

-- a 64-bit number
abbrev IsShort : ℕ → Type 0
IsShort n = n < 2 ^ 64

numbers_are_exact : (numbers : List ℕ) → All IsShort numbers → IsExact (numbers_value numbers)
numbers_are_exact [] short = tt
numbers_are_exact (n ∷ numbers) short = (All-head IsShort n numbers short, numbers_are_exact numbers (All-tail IsShort n numbers short))

IsAscii-table : (digits : List ℕ) → are_ascii digits ≡ true → IsAscii digits
IsAscii-table [] all = IsAscii-nil
IsAscii-table (digit ∷ digits) all =
    let parts = and_parts (nat_lt digit 128) (are_ascii digits) all in
    IsAscii-cons digit digits (ltb-true digit 128 parts.0) (IsAscii-table digits parts.1)

IsUtf8-digest : (digest : List ℕ) → IsUtf8 (encode_lower digest)
IsUtf8-digest digest = IsUtf8-from_ascii (encode_lower digest) (IsAscii-encode_with lower_digits digest (IsAscii-table lower_digits refl))

abbrev IsMarginOf : ℕ → ℕ → Type 0
IsMarginOf cards margin = (1 ≤ margin) × (margin ≤ cards)

margins_are_short : (cards : ℕ) (margins : List ℕ) → cards ≤ MOST_CARDS → All (IsMarginOf cards) margins → All IsShort margins
margins_are_short cards margins few within i margin there = let most = (within i margin there).1 in omega arith

-- ---- a round

abbrev HasDraws : ℕ → Counts → Type 0
HasDraws draws counts = draws_in counts ≡ draws

counts_are_exact : (counts : Counts) (draws : ℕ) → draws ≤ MOST_DRAWS → HasDraws draws counts → IsExact (counts_value counts)
counts_are_exact counts draws few all = (omega arith, (omega arith, (omega arith, (omega arith, (omega arith, tt)))))

all_counts_are_exact : (all : List Counts) (draws : ℕ) → draws ≤ MOST_DRAWS → All (HasDraws draws) all → ItemsAreExact (items_of (map counts_value all))
all_counts_are_exact [] draws few each = tt
all_counts_are_exact (counts ∷ all) draws few each = (
  counts_are_exact counts draws few (All-head (HasDraws draws) counts all each),
  all_counts_are_exact all draws few (All-tail (HasDraws draws) counts all each),
)

risks_are_short : (cards gamma : ℕ) (margins : List ℕ) (all : List Counts) → 1 ≤ gamma → All (IsMarginOf cards) margins →
    All IsShort (risks_of cards gamma margins all)
risks_are_short cards gamma [] all some within = All-nil IsShort
risks_are_short cards gamma (margin ∷ margins) [] some within = All-nil IsShort
risks_are_short cards gamma (margin ∷ margins) (counts ∷ all) some within =
    let of = All-head (IsMarginOf cards) margin margins within in
    let few = of.0 in
    let most = of.1 in
    let one = at_most_one_law cards margin gamma counts (omega arith) most some in
    All-cons IsShort (printed_risk cards margin gamma counts) (risks_of cards gamma margins all) (omega arith)
    (risks_are_short cards gamma margins all some (All-tail (IsMarginOf cards) margin margins within))

round_is_exact : (session : Session) (round : Round) → 1 ≤ session.gamma → All (IsMarginOf session.cards) session.margins →
    IsRound session round → round.draws ≤ MOST_DRAWS → IsExact (round_value round)
unfolding serde_json_on_literals
round_is_exact session round some within of few = (
  (
    refl,
    all_counts_are_exact round.counts round.draws few of.all_draws,
    (
      refl,
      omega arith,
      (
        refl,
        numbers_are_exact round.risks
            (subst (All IsShort) (sym of.printed) (risks_are_short session.cards session.gamma session.margins round.counts some within)),
        tt,
      ),
    ),
  ),
  refl,
)

abbrev HasFewDraws : Round → Type 0
HasFewDraws round = round.draws ≤ MOST_DRAWS

rounds_are_exact : (session : Session) (rounds : List Round) → 1 ≤ session.gamma → All (IsMarginOf session.cards) session.margins →
    All (IsRound session) rounds → All HasFewDraws rounds → ItemsAreExact (items_of (map round_value rounds))
rounds_are_exact session [] some within each few = tt
rounds_are_exact session (round ∷ rounds) some within each few = (
  round_is_exact session round some within (All-head (IsRound session) round rounds each) (All-head HasFewDraws round rounds few),
  rounds_are_exact session rounds some within (All-tail (IsRound session) round rounds each) (All-tail HasFewDraws round rounds few),
)

-- ---- the session

pub session_is_exact : (content : Content) → IsSound content → HasForms content → IsExact (session_value content)
unfolding session_value serde_json_on_literals
session_is_exact content sound forms =
    let session = content.session in
    let limits = sound.limits in
    let cards = limits.most_cards in
    let limit = limits.most_limit in
    let gamma = limits.most_gamma in
    let within = sound.session.margins in (
      (
        refl,
        IsUtf8-digest content.digests.assertions,
        (
          refl,
          IsUtf8-digest content.digests.ballots,
          (
            refl,
            omega arith,
            (
              refl,
              IsUtf8-name content.contest forms.contest,
              (
                refl,
                omega arith,
                (
                  refl,
                  omega arith,
                  (
                    refl,
                    IsUtf8-digest content.digests.manifest,
                    (
                      refl,
                      numbers_are_exact session.margins (margins_are_short session.cards session.margins cards within),
                      (
                        refl,
                        rounds_are_exact session session.rounds limits.some_gamma within sound.session.rounds limits.most_draws,
                        (
                          refl,
                          IsUtf8-seed content.seed forms.seed,
                          (
                            refl,
                            tt,
                            (refl, omega arith, tt),
                          ),
                        ),
                      ),
                    ),
                  ),
                ),
              ),
            ),
          ),
        ),
      ),
      refl,
    )

-- ---- depth

depth-numbers : (numbers : List ℕ) → items_depth (items_of (map whole_number numbers)) ≡ 0
depth-numbers [] = refl
depth-numbers (n ∷ numbers) = omega (arith, depth-numbers numbers)

depth-all_counts : (all : List Counts) → items_depth (items_of (map counts_value all)) ≤ 1
depth-all_counts [] = omega arith
depth-all_counts (counts ∷ all) = omega (arith, depth-all_counts all)

depth-round : (round : Round) → depth (round_value round) ≤ 3
depth-round round = omega (arith, depth-all_counts round.counts, depth-numbers round.risks)

depth-rounds : (rounds : List Round) → items_depth (items_of (map round_value rounds)) ≤ 3
depth-rounds [] = omega arith
depth-rounds (round ∷ rounds) = omega (arith, depth-round round, depth-rounds rounds)

pub depth-session_value : (content : Content) → depth (session_value content) ≤ 127
unfolding session_value
depth-session_value content = omega (arith, depth-numbers content.session.margins, depth-rounds content.session.rounds)
