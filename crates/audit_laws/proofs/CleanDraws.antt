-- The smallest margin of an accepted file is the best, so no other set needs fewer clean draws.
use Rattle.std.proofs.Common.{ℕ, ◌≤◌, List, Option, Some, None, get_or, All, Contains, refl, arith}
use Rattle.std.specs.Prelude.{IfSome, IsSome}
use Rattle.std.proofs.lemmas.List.Elements.{All-contains}
use Rattle.budget.specs.declared.budget.Budget.{Budget}
use Rattle.assertions.specs.declared.assertion.Assertion.{Assertion}
use Rattle.assertions.specs.declared.assertion.Claim.{Claim}
use Rattle.assertions.specs.Assertions.{true_margin}
use Rattle.assertions.proofs.Certificates.{none_beats_best}
use Rattle.ballots.specs.Ballots.{BallotFile}
use Rattle.assertion_file.specs.Content.{Content, IsSound, candidate_count}
use Rattle.cover_checker.specs.Holds.{Holds}
use Rattle.cover_checker.specs.declared.checked.Checked.TheVariants.{Accepted}
use Rattle.cover_checker.proofs.Best.{accepted_margin_is_best}
use Rattle.cover_checker.proofs.Held.{accepted_iff_holds}
use Rattle.km_risk.proofs.CleanDraws.{same_draws_law, larger_margin_law}
use Rattle.audit_laws.specs.CleanDraws.{IsRival, AreEnough, FewestCleanDraws, NeedsNoMore}

module _ (budget : Budget) (cards gamma : ℕ) (ballots : BallotFile) (file : Content) (others : List Assertion) (rival : IsRival budget cards gamma ballots file others) where
  sound : IsSound file
  sound = rival.file_sound

  held : Holds ballots file
  held = (accepted_iff_holds budget ballots file Accepted sound rival.accepted).0 refl

  -- one of the other assertions has a margin no larger than that of any claim
  pub weakest : (a : Assertion) × Contains others a × All (λ claim. true_margin ballots.rankings a ≤ claim.margin) file.claims
  weakest =
      let (a, among, most) = none_beats_best (candidate_count file) file.winner ballots.rankings others sound.winner (omega (arith, sound.fewest))
      rival.others_prove.proper rival.others_prove.covering in
      let best = by file.order rival.ordered (accepted_margin_is_best budget ballots file sound rival.accepted) in
      (a, among, λ j d below. let least = held.smallest j d below in omega (arith, most, best, least))
    where
      by : {P : Type 0} (order : Option (List ℕ)) → IsSome order → IfSome order (λ _. P) → P
      by None some h = absurd cc
      by (Some order) some h = h

  pub margin-within : All (λ claim. (1 ≤ claim.margin) × (claim.margin ≤ cards)) file.claims
  margin-within j d below =
      let margin = (sound.claims j d below).margin in
      (margin.some, omega (arith, margin.most, held.records, rival.enough_cards))

pub fewest_clean_draws : FewestCleanDraws
fewest_clean_draws budget cards gamma limit k ballots file others rival enough j d below =
    let (a, among, less) = weakest budget cards gamma ballots file others rival in
    let claim : Claim = get_or file.claims j d in
    let within = margin-within budget cards gamma ballots file others rival j d below in
    let mine = All-contains (λ b. AreEnough cards gamma limit k (true_margin ballots.rankings b)) others a enough among in
    let lower = same_draws_law cards (true_margin ballots.rankings a) claim.margin gamma k (omega (arith, within)) (less j d below) within.1 rival.positive in
    omega (arith, mine, lower)

pub needs_no_more : NeedsNoMore
needs_no_more budget cards gamma limit ballots file others rival =
    let (a, among, less) = weakest budget cards gamma ballots file others rival in (
      a,
      among,
      λ j d below.
          let within = margin-within budget cards gamma ballots file others rival j d below in
          larger_margin_law cards (true_margin ballots.rankings a) (get_or file.claims j d).margin gamma limit (omega (arith, within))
          (less j d below) within.1 rival.positive,
    )
