-- What a poll prints: its numbers, the counts and the risk of each claim, and whether all claims are confirmed.
use Rattle.std.specs.Prelude.{ℕ, Bool, List, ◌++◌, codes}
use Rattle.std.specs.Fmt.{decimal}
use Rattle.irv_base.specs.Names.{Id}
use Rattle.assertions.specs.declared.assertion.Claim.{Claim}
use Rattle.assertion_file.specs.Content.{Content}
use Rattle.report.specs.Claims.{claim_lines}
use Rattle.report.specs.Risks.{risk_text, state_end, yes_or_no}
use Rattle.report.specs.Texts.{assertion_text}
use Rattle.polling.specs.Polls.{is_risk_within}
use Rattle.polling.specs.declared.counts.PollCounts.{PollCounts}

abbrev pub head_lines : ℕ → ℕ → ℕ → ℕ → List ℕ
head_lines cards draws limit gamma =
    codes "cards " ++ decimal cards ++ codes "\ndraws " ++ decimal draws
    ++ codes "\nlimit " ++ decimal limit ++ codes "\ngamma " ++ decimal gamma ++ codes "\n"

-- ---- a claim

-- the number of draws that have each seen value, from 0 to 2
abbrev pub seen_counts_text : PollCounts → List ℕ
seen_counts_text counts =
    decimal counts.n0 ++ codes " " ++ decimal counts.n1 ++ codes " " ++ decimal counts.n2

abbrev pub claim_line : List ℕ → PollCounts → ℕ → Bool → List ℕ
claim_line assertion counts risk confirmed =
    assertion ++ codes " counts " ++ seen_counts_text counts ++ codes " risk " ++ risk_text risk
    ++ state_end confirmed

-- the line of a claim by these ids; the claim is confirmed if the risk is at most limit millionths
abbrev pub line_of : List Id → ℕ → Claim → PollCounts → ℕ → List ℕ
line_of ids limit claim counts risk =
    claim_line (assertion_text ids claim.assertion) counts risk (is_risk_within limit risk)

-- ---- all of them

abbrev pub last_line : Bool → List ℕ
last_line confirmed = codes "confirmed " ++ yes_or_no confirmed ++ codes "\n"

-- over this many cards and draws; the limit is in millionths, gamma in thousandths
module _ (file : Content) (cards draws limit gamma : ℕ) where
  abbrev pub poll_table : List PollCounts → List ℕ → Bool → List ℕ
  poll_table counts risks confirmed =
      head_lines cards draws limit gamma
      ++ claim_lines (line_of file.candidates limit) file.claims counts risks ++ last_line confirmed
