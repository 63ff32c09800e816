-- The tabulation of a contest, round by round.
use Rattle.std.specs.Prelude.{ℕ, ◌+◌, List, [], ◌∷◌, ◌++◌, length, filter, flat_map, slice_index, nat_le, if◌then◌else◌, codes}
use Rattle.std.specs.Fmt.{decimal}
use Rattle.irv_base.specs.Candidates.{candidates, is_in, members}
use Rattle.irv_base.specs.Names.{Id}
use Rattle.ballots.specs.Ballots.{BallotFile}
use Rattle.irv_tabulator.specs.Rounds.{Count, rounds_of}
use Rattle.assertion_file.specs.Ids.{id_of}
use Rattle.report.specs.Texts.{set_text}

-- the candidates of the list, in order of their numbers
abbrev pub in_number_order : ℕ → List ℕ → List ℕ
in_number_order n cs = filter (is_in cs) (candidates n)

abbrev pub tally_text : List Id → List ℕ → ℕ → List ℕ
tally_text ids votes c = codes " " ++ id_of ids c ++ codes "=" ++ decimal (slice_index votes c)

abbrev pub tallies_text : List Id → List ℕ → List ℕ → List ℕ
tallies_text ids votes remaining = flat_map (tally_text ids votes) remaining

-- the line with the candidates who share the smallest tally, if there are several
abbrev pub tied_line : List Id → ℕ → List ℕ
tied_line ids tied =
    if nat_le 2 (length (members tied)) then codes "tied " ++ set_text ids tied ++ codes "\n" else []

-- the lines of round i; these candidates remain in it, and the loser is eliminated
abbrev pub round_text : List Id → ℕ → List ℕ → ℕ → Count → List ℕ
round_text ids i remaining loser count =
    codes "round " ++ decimal i ++ codes ":"
    ++ tallies_text ids count.votes (in_number_order (length ids) remaining)
    ++ codes " exhausted=" ++ decimal count.exhausted ++ codes "\n"
    ++ tied_line ids count.tied ++ codes "eliminated " ++ id_of ids loser ++ codes "\n"

-- the lines of the rounds from round i on; these candidates of the order remain
abbrev pub rounds_text : List Id → ℕ → List ℕ → List Count → List ℕ
rounds_text ids i [] counts = []
rounds_text ids i (c ∷ rest) [] = []
rounds_text ids i (c ∷ rest) (count ∷ counts) =
    round_text ids i (c ∷ rest) c count ++ rounds_text ids (i + 1) rest counts

-- the lines of a tabulation of ballots with this order and this winner
abbrev pub tabulation_text : BallotFile → List ℕ → ℕ → List ℕ
tabulation_text ballots order winner =
    codes "contest " ++ ballots.contest
    ++ codes "\nrecords " ++ decimal (length ballots.rankings) ++ codes "\n"
    ++ rounds_text ballots.candidates 1 order
    (rounds_of (length ballots.candidates) ballots.rankings order)
    ++ codes "winner " ++ id_of ballots.candidates winner ++ codes "\n"
