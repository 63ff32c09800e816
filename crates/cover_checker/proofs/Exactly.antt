-- A file is accepted exactly if it holds and the budget is enough.
use Rattle.std.proofs.Common.{◌≡◌, ◌↔◌, None, Ok, subst, sym}
use Rattle.std.specs.Prelude.{IfSome}
use Rattle.budget.specs.declared.budget.Budget.{Budget}
use Rattle.ballots.specs.Ballots.{BallotFile}
use Rattle.assertion_file.specs.Content.{Content, IsSound, candidate_count}
use Rattle.cover_checker.specs.Covers.{covered_is, IsEnough}
use Rattle.cover_checker.specs.Findings.{assertions_of}
use Rattle.cover_checker.specs.Checks.{IsAnswer}
use Rattle.cover_checker.specs.Holds.{Holds, IsCover, IsHardest}
use Rattle.cover_checker.specs.declared.cover.Verdict.TheVariants.{Covered}
use Rattle.cover_checker.specs.declared.checked.Checked.TheVariants.{Accepted}
use Rattle.cover_checker.proofs.Held.{accepted-held, held-accepted, held-covered, held-covers}
use Rattle.cover_checker.proofs.Enough.{covered-enough, covers-covered}

module _ (budget : Budget) (ballots : BallotFile) (file : Content) (sound : IsSound file) where
  pub accepted-covered : IsAnswer budget ballots file (Ok Accepted) → covered_is (candidate_count file) file.winner (assertions_of file) budget ≡ Ok Covered
  accepted-covered h = held-covered budget ballots file Accepted (accepted-held budget ballots file sound h) h

  pub accepted_exactly : IsAnswer budget ballots file (Ok Accepted) ↔
      (Holds ballots file × IsEnough budget (candidate_count file) file.winner (assertions_of file))
  accepted_exactly = (
    λ h. (accepted-held budget ballots file sound h, covered-enough (candidate_count file) file.winner (assertions_of file) budget (accepted-covered h)),
    λ p. held-accepted budget ballots file p.0 (covers-covered (candidate_count file) file.winner (assertions_of file) budget (held-covers ballots file p.0) p.1),
  )

-- a file without an order holds exactly if it is a cover
held-cover : (ballots : BallotFile) (file : Content) → file.order ≡ None → Holds ballots file ↔ IsCover ballots file
held-cover ballots file none = (
  λ h. record {
    contest = h.contest;
    candidates = h.candidates;
    records = h.records;
    winner = h.winner;
    margins = h.margins;
    cover = h.cover;
    reached = h.reached;
    smallest = h.smallest;
    draws = h.draws;
  },
  λ c. record {
    contest = c.contest;
    candidates = c.candidates;
    records = c.records;
    winner = c.winner;
    margins = c.margins;
    cover = c.cover;
    reached = c.reached;
    smallest = c.smallest;
    best = subst (λ order. IfSome order (IsHardest ballots file)) (sym none) tt;
    draws = c.draws;
  },
)

pub cover_is_accepted : (budget : Budget) (ballots : BallotFile) (file : Content) → IsSound file → file.order ≡ None →
    IsAnswer budget ballots file (Ok Accepted) ↔ (IsCover ballots file × IsEnough budget (candidate_count file) file.winner (assertions_of file))
cover_is_accepted budget ballots file sound none =
    let exactly = accepted_exactly budget ballots file sound in
    let same = held-cover ballots file none in (
      λ h. let p = exactly.0 h in (same.0 p.0, p.1),
      λ p. exactly.1 (same.1 p.0, p.1),
    )
