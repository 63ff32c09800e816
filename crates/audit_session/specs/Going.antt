-- How a session continues: the draws up to a number, and the counts of each claim over them.
use Rattle.std.specs.Prelude.{ℕ, ◌-◌, List, length, map, slice_index_or}
use Rattle.std.specs.List.{range_with_len}
use Rattle.manifest.specs.declared.recorded.Recorded.{Recorded}
use Rattle.manifest.specs.declared.recorded.Recorded.TheVariants.{Without}
use Rattle.assorters.specs.declared.seen.Seen.{Seen}
use Rattle.assorters.specs.declared.seen.Seen.TheVariants.{Missing}
use Rattle.assorters.specs.Cards.{discrepancy}
use Rattle.km_risk.specs.declared.draws.Counts.{Counts}
use Rattle.km_risk.specs.Counts.{counts_of}
use Rattle.sampler.specs.Draws.{drawn_card}
use Rattle.session_state.specs.Claims.{audited_by}
use Rattle.session_state.specs.Content.{Content, with_round}
use Rattle.session_state.specs.Draws.{round_to, seen_of_all}
use Rattle.audit_session.specs.declared.compared.Drawn.{Drawn}
use Rattle.audit_session.specs.declared.seen.SeenCard.{SeenCard}
use Rattle.seen_file.specs.Seen.{Entry, seen_in}

-- the cards of the first draws
abbrev pub drawn_cards : List ℕ → ℕ → ℕ → List ℕ
drawn_cards seed cards draws = map (λ k. drawn_card seed k cards) (range_with_len 1 draws)

-- what is seen on each card; cards without a record count as missing
abbrev pub all_seen : List Entry → ℕ → List Seen
all_seen entries cards = seen_of_all (seen_in entries) cards

-- what is seen on the card with this number
abbrev pub seen_at : List Seen → ℕ → Seen
seen_at seen card = slice_index_or seen (card - 1) Missing

abbrev pub seen_card : List Seen → ℕ → SeenCard
seen_card seen card = record { card = card; seen = seen_at seen card }

-- the session with a round up to this number of draws, for claims with these values and the session's margins
abbrev pub next_session :
    Content → List (List ℕ → ℕ) → List Recorded → List Entry → ℕ → Content
next_session content values recorded entries draws =
    let cards : ℕ = length recorded in
    with_round content
    (round_to content.session.gamma (audited_by values content.session.margins) recorded
    (all_seen entries cards) (drawn_cards content.seed cards draws) draws)

-- ---- drawn cards with what is compared for them

abbrev pub drawn_at : List Recorded → List Seen → ℕ → Drawn
drawn_at recorded seen card =
    record { recorded = slice_index_or recorded (card - 1) Without; seen = seen_at seen card }

abbrev pub compared : (List ℕ → ℕ) → Drawn → ℕ
compared value drawn = discrepancy value drawn.recorded drawn.seen

abbrev pub counts_over : (List ℕ → ℕ) → List Drawn → Counts
counts_over value drawn = counts_of (map (compared value) drawn)

-- the counts for each claim
abbrev pub all_counts : List (List ℕ → ℕ) → List Drawn → List Counts
all_counts values drawn = map (λ value. counts_over value drawn) values

-- the value for the claim with this index, counted from 0
abbrev pub value_at : List (List ℕ → ℕ) → ℕ → List ℕ → ℕ
value_at values j = slice_index_or values j (λ ranking. 0)
