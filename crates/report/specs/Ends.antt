-- How a contest ends without a certificate: with its first tie, or with a budget that runs out.
use Rattle.std.specs.Prelude.{ℕ, List, ◌++◌, codes}
use Rattle.std.specs.Fmt.{decimal}
use Rattle.irv_base.specs.Names.{Id}
use Rattle.assertion_file.specs.Ids.{id_of}
use Rattle.report.specs.Texts.{order_text, set_text}

-- ---- a tie

abbrev pub tie_lines : ℕ → List ℕ → ℕ → List ℕ
tie_lines round tied votes =
    codes "tie\nround " ++ decimal round ++ codes "\ntied " ++ tied ++ codes "\ntally "
    ++ decimal votes ++ codes "\n"

-- the round, counted from 1, the candidates who share the smallest tally in it, and that tally
abbrev pub tie_text : List Id → ℕ → ℕ → ℕ → List ℕ
tie_text ids round tied votes = tie_lines round (set_text ids tied) votes

-- ---- a budget that runs out

-- at the candidate with this id
abbrev pub spent_at : List ℕ → List ℕ
spent_at last = codes "spent\ncandidate " ++ last ++ codes "\n"

abbrev pub spent_lines : List ℕ → List ℕ → ℕ → List ℕ
spent_lines last order margin =
    codes "spent\ncandidate " ++ last ++ codes "\norder " ++ order ++ codes "\nmargin "
    ++ decimal margin ++ codes "\n"

-- a budget of this many sets
abbrev pub spent_sets : ℕ → List ℕ
spent_sets sets = codes "spent\nsets " ++ decimal sets ++ codes "\n"

abbrev pub spent_sets_lines : ℕ → List ℕ → ℕ → List ℕ
spent_sets_lines sets order margin =
    codes "spent\nsets " ++ decimal sets ++ codes "\norder " ++ order ++ codes "\nmargin "
    ++ decimal margin ++ codes "\n"

-- with this many sets; the order that a search starts with, and its hardness
abbrev pub spent_sets_text : List Id → ℕ → List ℕ → ℕ → List ℕ
spent_sets_text ids sets order margin = spent_sets_lines sets (order_text ids order) margin

-- at this candidate; the best order so far, and its hardness
abbrev pub spent_text : List Id → ℕ → List ℕ → ℕ → List ℕ
spent_text ids last order margin = spent_lines (id_of ids last) (order_text ids order) margin
