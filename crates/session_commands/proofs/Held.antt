-- A file that is accepted has a claim, and margins within the cards.
use Rattle.std.proofs.Common.{◌≡◌, ℕ, ◌≤◌, true, ◌&&◌, List, [], ◌∷◌, length, map, Option, None, Some, is_none, All, refl, sym, ap, ◌∙◌, arith}
use Rattle.std.proofs.lemmas.Bool.{and_parts}
use Rattle.irv_base.specs.Tabulation.{least}
use Rattle.budget.specs.declared.budget.Budget.{Budget}
use Rattle.ballots.specs.Ballots.{BallotFile}
use Rattle.assertions.specs.declared.assertion.Claim.{Claim}
use Rattle.assertion_file.specs.Content.{Content, candidate_count, IsMargin, IsSoundClaim}
use Rattle.cover_checker.specs.Findings.{Answer, is_about, smallest_margin, other_winner, other_margin, uncovered, other_smallest}
use Rattle.cover_checker.proofs.Nothing.{smallest-none}
use Rattle.cover_checker.proofs.Same.{from_about}
use Rattle.session_commands.specs.Accepted.{is_won, is_accepted}

-- ---- a file that is accepted

pub record Held (ballots : BallotFile) (file : Content) : Type 0 where
  pub records : file.records ≡ length ballots.rankings
  pub smallest : smallest_margin file ≡ file.margin

pub held : (budget : Budget) (ballots : BallotFile) (file : Content) → is_accepted budget ballots file ≡ true → Held ballots file
held budget ballots file h =
    let (head, nothing) = and_parts (is_about ballots file && is_won ballots file.winner) _ h in
    let (about, won) = and_parts (is_about ballots file) (is_won ballots file.winner) head in
    let a = (and_parts (is_none (other_winner file.winner file)) _ nothing).1 in
    let b = (and_parts (is_none (other_margin ballots.rankings file)) _ a).1 in
    let c = (and_parts (is_none (uncovered budget file)) _ b).1 in
    let d = (and_parts (is_none (other_smallest file)) _ c).0 in
    record { records = (from_about ballots file about).records; smallest = smallest-none file (none_is (other_smallest file) d) }
  where
    none_is : (found : Option Answer) → is_none found ≡ true → found ≡ None
    none_is None h = refl
    none_is (Some answer) h = absurd cc

-- there is a claim
pub some_claim : (ballots : BallotFile) (file : Content) → Held ballots file → IsMargin file.records file.margin → 1 ≤ length file.claims
some_claim ballots file is margin = by file.claims refl where
  by : (claims : List Claim) → file.claims ≡ claims → 1 ≤ length claims
  by [] empty = let zero : 0 ≡ file.margin = ap (λ claims. least (map (λ claim. claim.margin) claims)) (sym empty) ∙ is.smallest in
      absurd (omega (arith, zero, margin.some))
  by (claim ∷ claims) some = omega arith

pub margins_fit : (cards : ℕ) (ballots : BallotFile) (file : Content) → Held ballots file → length ballots.rankings ≤ cards →
    All (IsSoundClaim (candidate_count file) file.records) file.claims → All (λ claim. claim.margin ≤ cards) file.claims
margins_fit cards ballots file is few sound = λ i d within. let most = (sound i d within).margin.most in omega (arith, is.records, few, most)
