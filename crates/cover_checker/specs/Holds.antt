-- What it means for an assertion file to hold of some ballots, and to be their canonical certificate.
use Rattle.std.specs.Prelude.{◌≡◌, ◌≤◌, ℕ, List, length, All, Contains, pos, IfSome, IsTrue}
use Rattle.assertions.specs.declared.assertion.Claim.{Claim}
use Rattle.assertions.specs.Assertions.{margin}
use Rattle.assertions.specs.Certificate.{certificate_claims, certificate_order}
use Rattle.assertions.specs.Hardness.{low, best_margin}
use Rattle.assertions.specs.Refutation.{refutes}
use Rattle.assertions.specs.Suffixes.{IsAlternative}
use Rattle.ballots.specs.Ballots.{BallotFile}
use Rattle.assertion_file.specs.Content.{Content, candidate_count}
use Rattle.cover_checker.specs.Draws.{HasCleanDraws}
use Rattle.cover_checker.specs.Outcomes.{IsWinner}

-- the order elects another candidate, and no true assertion with a larger margin than the file's refutes it
pub record IsHardest (ballots : BallotFile) (file : Content) (order : List ℕ) : Type 0 where
  pub alternative : IsAlternative (candidate_count file) file.winner order
  pub hardest : low (candidate_count file) ballots.rankings order ≤ file.margin

pub record Holds (ballots : BallotFile) (file : Content) : Type 0 where
  -- the file is about the contest of the ballots
  pub contest : file.contest ≡ ballots.contest
  pub candidates : file.candidates ≡ ballots.candidates
  pub records : file.records ≡ length ballots.rankings
  -- the file's winner is the one that their tabulated order elects
  pub winner : IsWinner (candidate_count file) ballots.rankings file.winner
  -- each claim has its assertion's margin
  pub margins :
      All (λ claim. pos claim.margin ≡ margin ballots.rankings claim.assertion) file.claims
  -- together the claims refute every elimination order that elects another candidate
  pub cover : (order : List ℕ) → IsAlternative (candidate_count file) file.winner order →
      (claim : Claim) × Contains file.claims claim × IsTrue (refutes claim.assertion order)
  -- the file's margin is the smallest of the claims'
  pub reached : (claim : Claim) × Contains file.claims claim × (claim.margin ≡ file.margin)
  pub smallest : All (λ claim. file.margin ≤ claim.margin) file.claims
  -- no choice of assertions has a larger margin, as the file's order shows; a file without an order doesn't say so
  pub best : IfSome file.order (IsHardest ballots file)
  -- the planned draws are the clean draws
  pub draws : HasCleanDraws file

-- what holds of a file that says nothing about a best margin: everything above except `best`
pub record IsCover (ballots : BallotFile) (file : Content) : Type 0 where
  pub contest : file.contest ≡ ballots.contest
  pub candidates : file.candidates ≡ ballots.candidates
  pub records : file.records ≡ length ballots.rankings
  pub winner : IsWinner (candidate_count file) ballots.rankings file.winner
  pub margins :
      All (λ claim. pos claim.margin ≡ margin ballots.rankings claim.assertion) file.claims
  pub cover : (order : List ℕ) → IsAlternative (candidate_count file) file.winner order →
      (claim : Claim) × Contains file.claims claim × IsTrue (refutes claim.assertion order)
  pub reached : (claim : Claim) × Contains file.claims claim × (claim.margin ≡ file.margin)
  pub smallest : All (λ claim. file.margin ≤ claim.margin) file.claims
  pub draws : HasCleanDraws file

-- the file says what the canonical certificate of the ballots says, and if it plans draws, they are its clean draws
pub record IsCertificateOf (ballots : BallotFile) (file : Content) : Type 0 where
  pub contest : file.contest ≡ ballots.contest
  pub candidates : file.candidates ≡ ballots.candidates
  pub records : file.records ≡ length ballots.rankings
  pub winner : IsWinner (candidate_count file) ballots.rankings file.winner
  pub margin :
      file.margin
      ≡ best_margin (candidate_count file) file.winner (low (candidate_count file) ballots.rankings)
  pub order :
      certificate_order (candidate_count file) file.winner
      (low (candidate_count file) ballots.rankings) file.margin
      ≡ file.order
  pub claims : file.claims ≡ certificate_claims (candidate_count file) ballots.rankings file.winner
  pub draws : HasCleanDraws file
