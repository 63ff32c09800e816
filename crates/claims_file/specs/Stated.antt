-- What a JSON value states: the members of the file's object, and the members of an assertion.
use Rattle.std.specs.Prelude.{List, codes, Option, Some}
use Rattle.serde_json.specs.Data.{Data}
use Rattle.irv_base.specs.Names.{Id}
use Rattle.assertion_file.specs.Stated.{list_in, rest_in, text_in, texts_in, ◌>>=◌}

pub record Heading : Type 0 where
  pub assertions : List Data
  pub candidates : List Id
  pub contest : Id
  pub winner : Id

unfoldable pub heading_in : Data → Option Heading
heading_in value = do
  assertions ← list_in (codes "assertions") value
  candidates ← texts_in (codes "candidates") value
  contest ← text_in (codes "contest") value
  winner ← text_in (codes "winner") value
  Some (record {
    assertions = assertions;
    candidates = candidates;
    contest = contest;
    winner = winner;
  })

-- a NEB has no rest
pub record Entry : Type 0 where
  pub winner : Id
  pub loser : Id
  pub rest : Option (List Id)

unfoldable pub entry_in : Data → Option Entry
entry_in value = do
  kind ← text_in (codes "kind") value
  winner ← text_in (codes "winner") value
  loser ← text_in (codes "loser") value
  rest ← rest_in kind value
  Some (record { winner = winner; loser = loser; rest = rest })
