-- What an audit of all contests prints: a block of lines for each contest, and whether all are signed off.
use Rattle.std.specs.Prelude.{◌≡◌, ◌<◌, ℕ, Bool, false, nat_le, List, [], ◌∷◌, ◌++◌, ◌*◌, length, IsTrue, codes, ⊤}
use Rattle.std.specs.Fmt.{decimal}
use Rattle.std.specs.List.{list_all}
use Rattle.irv_base.specs.Names.{Id}
use Rattle.irv_base.specs.Orders.{is_order}
use Rattle.assertions.specs.declared.assertion.Claim.{Claim}
use Rattle.ballots.specs.Ballots.{BallotFile}
use Rattle.assertion_file.specs.Content.{Content}
use Rattle.assertion_file.specs.Ids.{id_of}
use Rattle.km_risk.specs.declared.draws.Counts.{Counts}
use Rattle.km_risk.specs.declared.limits.TheConstants.{MILLIONTH}
use Rattle.report.specs.Claims.{claim_lines}
use Rattle.report.specs.Ends.{spent_text, tie_text}
use Rattle.report.specs.Risks.{counts_text, risk_text, signed_off_line, state_end, yes_or_no}
use Rattle.report.specs.Texts.{assertion_text}
use Rattle.contest_set.specs.declared.end.ContestEnd.{ContestEnd}
use Rattle.contest_set.specs.declared.end.ContestEnd.TheVariants.{Tied, Spent, Audited}

-- ---- a claim

abbrev pub claim_line : List ℕ → ℕ → Counts → ℕ → Bool → List ℕ
claim_line assertion margin counts risk confirmed =
    assertion ++ codes " margin " ++ decimal margin ++ codes " counts " ++ counts_text counts
    ++ codes " risk " ++ risk_text risk ++ state_end confirmed

-- the line of a claim by these ids; the claim is confirmed if the risk is at most limit millionths
abbrev pub line_of : List Id → ℕ → Claim → Counts → ℕ → List ℕ
line_of ids limit claim counts risk =
    claim_line (assertion_text ids claim.assertion) claim.margin counts risk
    (nat_le risk (limit * MILLIONTH))

-- ---- a contest

abbrev pub contest_line : Id → List ℕ
contest_line contest = codes "contest " ++ contest ++ codes "\n"

abbrev pub winner_lines : ℕ → Id → ℕ → List ℕ
winner_lines records winner margin =
    codes "records " ++ decimal records ++ codes "\nwinner " ++ winner ++ codes "\nmargin "
    ++ decimal margin ++ codes "\n"

-- the lines of a contest with its winner and the claims
abbrev pub audited_lines : ℕ → Content → List Counts → List ℕ → List ℕ
audited_lines limit file counts risks =
    winner_lines file.records (id_of file.candidates file.winner) file.margin
    ++ claim_lines (line_of file.candidates limit) file.claims counts risks

-- how a contest ends: with its winner and the claims, or like a search that has no certificate
abbrev pub end_lines : ℕ → BallotFile → ContestEnd → List ℕ
end_lines limit ballots (Tied round tied tally) = tie_text ballots.candidates round tied tally
end_lines limit ballots (Spent last order margin) =
    spent_text ballots.candidates last order margin
end_lines limit ballots (Audited file counts risks signed) =
    audited_lines limit file counts.items risks.items

-- a contest without a winner isn't signed off
abbrev pub is_signed : ContestEnd → Bool
is_signed (Tied round tied tally) = false
is_signed (Spent last order margin) = false
is_signed (Audited file counts risks signed) = signed

abbrev pub block : ℕ → BallotFile → ContestEnd → List ℕ
block limit ballots end =
    contest_line ballots.contest ++ end_lines limit ballots end ++ signed_off_line (is_signed end)

-- ---- all contests

abbrev pub blocks : ℕ → List BallotFile → List ContestEnd → List ℕ
blocks limit [] ends = []
blocks limit (ballots ∷ list) [] = []
blocks limit (ballots ∷ list) (end ∷ ends) = block limit ballots end ++ blocks limit list ends

abbrev pub all_signed : List ContestEnd → Bool
all_signed ends = list_all is_signed ends

abbrev pub last_line : Bool → List ℕ
last_line all = codes "all " ++ yes_or_no all ++ codes "\n"

-- the limit is in millionths
abbrev pub contests_table : ℕ → List BallotFile → List ContestEnd → List ℕ
contests_table limit list ends = blocks limit list ends ++ last_line (all_signed ends)

-- ---- what can be printed

-- the end is of the contest's candidates, or has counts and a risk for each claim
abbrev pub CanBeTold : BallotFile → ContestEnd → Type 0
CanBeTold ballots (Tied round tied tally) = ⊤
CanBeTold ballots (Spent last order margin) =
    (last < length ballots.candidates) × IsTrue (is_order (length ballots.candidates) order)
CanBeTold ballots (Audited file counts risks signed) =
    (length counts.items ≡ length file.claims) × (length risks.items ≡ length file.claims)
