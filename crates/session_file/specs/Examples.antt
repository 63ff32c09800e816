-- Worked examples: sessions of one card, a file that isn't in the form in which files are printed, and digits of digests.
use Rattle.std.specs.Prelude.{ℕ, List, [], ◌∷◌, ◌++◌, codes, replicate}
use Rattle.km_risk.specs.Counts.{clean}
use Rattle.session_state.specs.declared.digests.Digests.{Digests}
use Rattle.session_state.specs.Sessions.{Round}
use Rattle.session_state.specs.Content.{Content}

-- a digest for each file
abbrev pub some_digests : Digests
some_digests = record {
  ballots = 0xAB ∷ replicate 31 0;
  manifest = 0x0A ∷ replicate 31 1;
  assertions = replicate 32 0x2C;
}

-- this many draws of one claim, all as recorded, and their risk
abbrev pub clean_round : ℕ → ℕ → Round
clean_round draws risk = record { draws = draws; counts = clean draws ∷ []; risks = risk ∷ [] }

abbrev pub four_draws : Round
four_draws = clean_round 4 88518543815313162

abbrev pub five_draws : Round
five_draws = clean_round 5 48282842081079907

abbrev pub one_card : List ℕ → List Round → Content
one_card seed rounds = record {
  contest = codes "7";
  seed = seed;
  digests = some_digests;
  session = record { cards = 1; margins = 1 ∷ []; limit = 50000; gamma = 100; rounds = rounds };
}

-- the beginning of each text: everything before its rounds
abbrev pub head : List ℕ
head =
    codes "{\"assertions\":\"2c2c2c2c2c2c2c2c2c2c2c2c2c2c2c2c2c2c2c2c2c2c2c2c2c2c2c2c2c2c2c2c\"," ++
    codes "\"ballots\":\"ab00000000000000000000000000000000000000000000000000000000000000\"," ++
    codes "\"cards\":1,\"contest\":\"7\",\"gamma\":100,\"limit\":50000," ++
    codes "\"manifest\":\"0a01010101010101010101010101010101010101010101010101010101010101\"," ++
    codes "\"margins\":[1],"

-- ---- a file in another form

-- the members in another order, an extra member, and upper-case digits
abbrev pub begun_text : List ℕ
begun_text = codes "{\"version\":1,\"by\":null,\"signed_off\":false,\"seed\":\"2024\",\"rounds\":[],\"margins\":[1],\"manifest\":\"0A01010101010101010101010101010101010101010101010101010101010101\",\"limit\":50000,\"gamma\":100,\"contest\":\"7\",\"cards\":1,\"ballots\":\"AB00000000000000000000000000000000000000000000000000000000000000\",\"assertions\":\"2C2C2C2C2C2C2C2C2C2C2C2C2C2C2C2C2C2C2C2C2C2C2C2C2C2C2C2C2C2C2C2C\"}"

-- ---- digits of digests

abbrev pub of_either_case : List ℕ
of_either_case = codes "2c2C2c2C2c2C2c2C2c2C2c2C2c2C2c2C2c2C2c2C2c2C2c2C2c2C2c2C2c2C2c2C"

abbrev pub with_a_letter : List ℕ
with_a_letter = codes "2c2c2c2c2c2c2c2c2c2c2c2c2c2c2c2c2c2c2c2c2c2c2c2c2c2c2c2c2c2c2c2g"

abbrev pub two_too_few : List ℕ
two_too_few = codes "2c2c2c2c2c2c2c2c2c2c2c2c2c2c2c2c2c2c2c2c2c2c2c2c2c2c2c2c2c2c2c"
