-- The margin of a file that holds is the best.
use Rattle.std.proofs.Common.{◌≡◌, ℕ, ◌≤◌, List, Option, Some, None, pos, ◌<ℤ◌, arith, ◌∙◌, Ok}
use Rattle.std.specs.Prelude.{IfSome}
use Rattle.std.proofs.lemmas.Int.{ints}
use Rattle.std.proofs.lemmas.List.Elements.{All-contains}
use Rattle.irv_base.proofs.Members.{Member}
use Rattle.assertions.specs.declared.assertion.Claim.{Claim}
use Rattle.assertions.specs.Assertions.{margin, true_margin}
use Rattle.assertions.specs.Hardness.{low, best_margin}
use Rattle.assertions.specs.Suffixes.{alternative_orders}
use Rattle.assertions.proofs.Alternatives.{best-le, best_is}
use Rattle.assertions.proofs.Endings.{from_alternative, alternative-member}
use Rattle.assertions.proofs.Lows.{low-refuter}
use Rattle.assertions.proofs.Sums.{true_margin_is}
use Rattle.budget.specs.declared.budget.Budget.{Budget}
use Rattle.ballots.specs.Ballots.{BallotFile}
use Rattle.assertion_file.specs.Content.{Content, IsSound, IsSoundClaim, candidate_count}
use Rattle.cover_checker.specs.Checks.{IsAnswer}
use Rattle.cover_checker.specs.Holds.{Holds, IsHardest}
use Rattle.cover_checker.specs.declared.checked.Checked.TheVariants.{Accepted}
use Rattle.cover_checker.proofs.Exactly.{accepted-covered}
use Rattle.cover_checker.proofs.Held.{accepted-held, held-accepted}
use Rattle.cover_checker.proofs.Nothing.{HasItsMargin}

pos-same : (m k : ℕ) → pos m ≡ pos k → m ≡ k
pos-same m k e = omega (arith, ints)

-- a margin above 0 is that of a true assertion
pub its-margin : (records : List (List ℕ)) (claim : Claim) → 1 ≤ claim.margin → HasItsMargin records claim → claim.margin ≡ true_margin records claim.assertion
its-margin records claim some e =
    let t = true_margin_is records claim.assertion in
    let above : pos 0 <ℤ margin records claim.assertion = omega (arith, ints) in
    pos-same claim.margin (true_margin records claim.assertion) (e ∙ t.1 (t.0.1 above))

module _ (ballots : BallotFile) (file : Content) (sound : IsSound file) (h : Holds ballots file) where
  abbrev best : ℕ
  best = best_margin (candidate_count file) file.winner (low (candidate_count file) ballots.rankings)

  best-reached : (order : List ℕ) → IsHardest ballots file order → best ≤ file.margin
  best-reached order h =
      let (whole, (c, ne, elects)) = h.alternative in
      let le : best ≤ low (candidate_count file) ballots.rankings order =
      best-le (candidate_count file) file.winner (low (candidate_count file) ballots.rankings) order
      (alternative-member (candidate_count file) file.winner c order whole ne elects) in
      omega (arith, le, h.hardest)

  margin-reached : file.margin ≤ best
  margin-reached = at_best (best_is (candidate_count file) file.winner (low (candidate_count file) ballots.rankings) sound.winner
      (omega (arith, sound.fewest))) where
        at_best : (order : List ℕ) × Member order (alternative_orders (candidate_count file) file.winner) ×
            (low (candidate_count file) ballots.rankings order ≡ best) → file.margin ≤ best
        at_best (order, m, e) =
            let (claim, k, r) = h.cover order (from_alternative (candidate_count file) file.winner order m) in
            let proper : IsSoundClaim (candidate_count file) file.records claim =
            All-contains (IsSoundClaim (candidate_count file) file.records) file.claims claim sound.claims k in
            let its = its-margin ballots.rankings claim proper.margin.some (All-contains (HasItsMargin ballots.rankings) file.claims claim h.margins k) in
            let below = low-refuter (candidate_count file) ballots.rankings order claim.assertion proper.proper r in
            let above = All-contains (λ claim. file.margin ≤ claim.margin) file.claims claim h.smallest k in
            omega (arith, its, below, above, e)

  held_is_best : IfSome file.order (λ _. file.margin ≡ best)
  held_is_best = by file.order h.best where
    by : (order : Option (List ℕ)) → IfSome order (IsHardest ballots file) → IfSome order (λ _. file.margin ≡ best)
    by None h = tt
    by (Some order) h = omega (arith, best-reached order h, margin-reached)

pub accepted_margin_is_best : (budget : Budget) (ballots : BallotFile) (file : Content) → IsSound file → IsAnswer budget ballots file (Ok Accepted) →
    IfSome file.order (λ _. file.margin ≡ best_margin (candidate_count file) file.winner (low (candidate_count file) ballots.rankings))
accepted_margin_is_best budget ballots file sound answer = held_is_best ballots file sound (accepted-held budget ballots file sound answer)

pub accepted_margin_is_reached : (budget : Budget) (ballots : BallotFile) (file : Content) → IsSound file → IsAnswer budget ballots file (Ok Accepted) →
    file.margin ≤ best_margin (candidate_count file) file.winner (low (candidate_count file) ballots.rankings)
accepted_margin_is_reached budget ballots file sound answer = margin-reached ballots file sound (accepted-held budget ballots file sound answer)

-- ---- without its order

without-order : (ballots : BallotFile) (file : Content) → Holds ballots file → Holds ballots (record file { order = None })
without-order ballots file h = record {
  contest = h.contest;
  candidates = h.candidates;
  records = h.records;
  winner = h.winner;
  margins = h.margins;
  cover = h.cover;
  reached = h.reached;
  smallest = h.smallest;
  best = tt;
  draws = h.draws;
}

pub accepted_without_order : (budget : Budget) (ballots : BallotFile) (file : Content) → IsSound file → IsAnswer budget ballots file (Ok Accepted) →
    IsAnswer budget ballots (record file { order = None }) (Ok Accepted)
accepted_without_order budget ballots file sound answer =
    held-accepted budget ballots (record file { order = None }) (without-order ballots file (accepted-held budget ballots file sound answer))
    (accepted-covered budget ballots file sound answer)
