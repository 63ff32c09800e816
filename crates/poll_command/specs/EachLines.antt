-- What a poll with a look after each draw prints: its contest, its winner and its numbers, the end of each claim, and whether a draw
-- confirms each.
use Rattle.std.specs.Prelude.{ℕ, Bool, List, [], ◌∷◌, ◌++◌, Option, None, Some, codes}
use Rattle.std.specs.Fmt.{decimal}
use Rattle.irv_base.specs.Names.{Id}
use Rattle.assertions.specs.declared.assertion.Claim.{Claim}
use Rattle.assertion_file.specs.Content.{Content}
use Rattle.assertion_file.specs.Ids.{id_of}
use Rattle.report.specs.Risks.{risk_text}
use Rattle.report.specs.Texts.{assertion_text}
use Rattle.polling.specs.declared.each.ClaimEnd.{ClaimEnd}
use Rattle.command.specs.declared.poll_each.PollEachTask.{PollEachTask}
use Rattle.poll_command.specs.Table.{last_line, seen_counts_text}

-- ---- the head

abbrev pub name_lines : Id → Id → List ℕ
name_lines contest winner = codes "contest " ++ contest ++ codes "\nwinner " ++ winner ++ codes "\n"

-- the limit is in millionths
abbrev pub number_lines : ℕ → ℕ → ℕ → List ℕ
number_lines cards draws limit =
    codes "cards " ++ decimal cards ++ codes "\ndraws " ++ decimal draws
    ++ codes "\nlimit " ++ decimal limit ++ codes "\n"

-- gamma in thousandths, or the word for the gamma that fits each claim
abbrev pub gamma_text : Option ℕ → List ℕ
gamma_text (Some gamma) = decimal gamma
gamma_text None = codes "best"

abbrev pub term_lines : List ℕ → List ℕ → List ℕ
term_lines gamma seed = codes "gamma " ++ gamma ++ codes "\nseed " ++ seed ++ codes "\n"

-- the head of a poll over this many cards
abbrev pub head_lines : Content → ℕ → PollEachTask → List ℕ
head_lines file cards task =
    name_lines file.contest (id_of file.candidates file.winner)
    ++ number_lines cards task.draws task.limit ++ term_lines (gamma_text task.gamma) task.seed

-- ---- a claim

-- which draw confirms the claim, counted from 1, if one does
abbrev pub confirmed_end : Option ℕ → List ℕ
confirmed_end (Some k) = codes " confirmed " ++ decimal k ++ codes "\n"
confirmed_end None = codes " unconfirmed\n"

abbrev pub end_line : List ℕ → ClaimEnd → List ℕ
end_line assertion end =
    assertion ++ codes " gamma " ++ decimal end.gamma ++ codes " counts "
    ++ seen_counts_text end.counts ++ codes " risk " ++ risk_text end.risk
    ++ confirmed_end end.confirmed

-- the lines of the claims by these ids
abbrev pub end_lines : List Id → List Claim → List ClaimEnd → List ℕ
end_lines ids [] ends = []
end_lines ids (claim ∷ claims) [] = []
end_lines ids (claim ∷ claims) (end ∷ ends) =
    end_line (assertion_text ids claim.assertion) end ++ end_lines ids claims ends

-- ---- all of them

abbrev pub each_table : Content → ℕ → PollEachTask → List ClaimEnd → Bool → List ℕ
each_table file cards task ends confirmed =
    head_lines file cards task ++ end_lines file.candidates file.claims ends ++ last_line confirmed
