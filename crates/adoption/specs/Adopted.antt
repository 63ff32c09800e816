-- The file as which claims are adopted.
use Rattle.std.specs.Prelude.{◌≡◌, ◌↔◌, ℕ, Bool, not, ◌==◌, List, length, map, filter, None, AllPairs, Contains, IsTrue}
use Rattle.std.specs.List.{list_any}
use Rattle.irv_base.specs.Tabulation.{least}
use Rattle.assertions.specs.declared.assertion.Assertion.{Assertion}
use Rattle.assertions.specs.declared.assertion.Claim.{Claim}
use Rattle.assertions.specs.Assertions.{assertions}
use Rattle.assertions.specs.Certificate.{claim_of, is_same}
use Rattle.assertions.specs.FixedOrder.{is_before}
use Rattle.assertions.specs.Laws.{IsProof}
use Rattle.ballots.specs.Ballots.{BallotFile}
use Rattle.assertion_file.specs.Content.{Content, margins_of}
use Rattle.claims_file.specs.Claimed.{Claimed}
use Rattle.cover_checker.specs.Findings.{assertions_of}
use Rattle.cover_checker.specs.Holds.{Holds}

abbrev pub is_listed : List Assertion → Assertion → Bool
is_listed list a = list_any (is_same a) list

-- the assertions of a list between n candidates, each once, in the fixed order
abbrev pub each_once : ℕ → List Assertion → List Assertion
each_once n list = filter (is_listed list) (assertions n)

-- a claim whose assertion isn't true has no margin
abbrev pub has_margin : Claim → Bool
has_margin claim = not (claim.margin == 0)

-- a file about the contest of the ballots that has the smallest margin of these claims, and nothing that says that it is the best
abbrev pub file_with : BallotFile → ℕ → List Claim → Content
file_with ballots winner claims = record {
  contest = ballots.contest;
  candidates = ballots.candidates;
  records = length ballots.rankings;
  winner = winner;
  margin = least (map (λ claim. claim.margin) claims);
  order = None;
  claims = claims;
  plan = None;
}

-- the claims with their margins over the ballots
abbrev pub adopted_file : BallotFile → Claimed → Content
adopted_file ballots claims =
    file_with ballots claims.winner
    (map (claim_of ballots.rankings) (each_once (length ballots.candidates) claims.assertions))

-- ---- the same for a reader

-- the claims prove their winner: each is true of the records, and together they refute every order that elects another candidate; the file
-- holds of the ballots, and has these claims with their margins, each once, in the fixed order
pub record IsAdopted (ballots : BallotFile) (claims : Claimed) (file : Content) : Type 0 where
  pub proof : IsProof (length ballots.candidates) claims.winner ballots.rankings claims.assertions
  pub holds : Holds ballots file
  pub winner : file.winner ≡ claims.winner
  pub same : (a : Assertion) → (Contains (assertions_of file) a ↔ Contains claims.assertions a)
  pub rise : AllPairs (λ a b. IsTrue (is_before a b)) (assertions_of file)
  pub order : file.order ≡ None
  pub plan : file.plan ≡ None
