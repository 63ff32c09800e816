-- Ids and lists of ids that the test finds to be the same are the same.
use Rattle.std.proofs.Common.{◌≡◌, true, List, ◌&&◌, ◌==◌, length, refl, eqb-true, eq-eqb}
use Rattle.std.proofs.lemmas.Bool.{and_parts, and_from}
use Rattle.std.proofs.lemmas.Bool.Decides.{Decides-eqb}
use Rattle.std.proofs.lemmas.Slice.Eq.{slice_eq-Decides}
use Rattle.irv_base.specs.Names.{Id, is_same}
use Rattle.ballots.specs.Ballots.{BallotFile}
use Rattle.assertion_file.specs.Content.{Content}
use Rattle.cover_checker.specs.Findings.{are_same, is_about}

decides-same : (a b : Id) → (is_same a b ≡ true → a ≡ b) × (a ≡ b → is_same a b ≡ true)
decides-same a b = slice_eq-Decides Decides-eqb a b (is_same a b) refl

decides-are_same : (ids others : List Id) → (are_same ids others ≡ true → ids ≡ others) × (ids ≡ others → are_same ids others ≡ true)
decides-are_same ids others = slice_eq-Decides decides-same ids others (are_same ids others) refl

pub record About (ballots : BallotFile) (file : Content) : Type 0 where
  pub contest : file.contest ≡ ballots.contest
  pub candidates : file.candidates ≡ ballots.candidates
  pub records : file.records ≡ length ballots.rankings

pub from_about : (ballots : BallotFile) (file : Content) → is_about ballots file ≡ true → About ballots file
from_about ballots file h =
    let ids = and_parts (is_same file.contest ballots.contest && are_same file.candidates ballots.candidates) (file.records == length ballots.rankings) h in
    let named = and_parts (is_same file.contest ballots.contest) (are_same file.candidates ballots.candidates) ids.0 in
    record {
      contest = (decides-same file.contest ballots.contest).0 named.0;
      candidates = (decides-are_same file.candidates ballots.candidates).0 named.1;
      records = eqb-true file.records (length ballots.rankings) ids.1;
    }

pub about-from : (ballots : BallotFile) (file : Content) → About ballots file → is_about ballots file ≡ true
about-from ballots file a =
    and_from (is_same file.contest ballots.contest && are_same file.candidates ballots.candidates) (file.records == length ballots.rankings)
    (and_from (is_same file.contest ballots.contest) (are_same file.candidates ballots.candidates)
    ((decides-same file.contest ballots.contest).1 a.contest) ((decides-are_same file.candidates ballots.candidates).1 a.candidates))
    (eq-eqb file.records (length ballots.rankings) a.records)
