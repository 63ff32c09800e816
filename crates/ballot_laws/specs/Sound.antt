-- What holds of every ballot file that is read.
use Rattle.std.specs.Prelude.{◌≡◌, List, Option, Ok, IsTrue}
use Rattle.std.specs.List.{list_all}
use Rattle.csv_rows.specs.Rows.{Fields}
use Rattle.irv_base.specs.Names.{Id, is_name}
use Rattle.ballots.specs.Ballots.{BallotFile, IsSound}
use Rattle.ballots.specs.Grammar.{ballots_from}

-- the ids of a file's contest, candidates and ballots keep the rule of ids
pub record IsNamed (file : BallotFile) : Type 0 where
  pub contest : IsTrue (is_name file.contest)
  pub candidates : IsTrue (list_all is_name file.candidates)
  pub ids : IsTrue (list_all is_name file.ids)

abbrev pub ReadIsSound : Type 0
ReadIsSound =
    (asked : Option Id) (rows : List Fields) (file : BallotFile) →
    ballots_from asked rows ≡ Ok file → IsSound file × IsNamed file
