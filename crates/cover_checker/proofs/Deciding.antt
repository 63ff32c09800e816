-- The contest of an accepted file is decided.
use Rattle.std.proofs.Common.{◌≡◌, ℕ, ◌≤◌, true, List, Ok, pos, ◌<ℤ◌, arith, subst}
use Rattle.std.proofs.lemmas.Int.{ints}
use Rattle.std.proofs.lemmas.List.Elements.{All-contains}
use Rattle.irv_base.specs.Tabulation.{AllElect}
use Rattle.irv_base.proofs.Members.{Member, contains-from_member, from_map, list_all-each}
use Rattle.assertions.specs.declared.assertion.Assertion.{Assertion}
use Rattle.assertions.specs.declared.assertion.Claim.{Claim}
use Rattle.assertions.specs.Assertions.{is_proper, is_true, margin}
use Rattle.assertions.proofs.Decided.{proof-decided}
use Rattle.assertions.proofs.Sums.{true_margin_is}
use Rattle.budget.specs.declared.budget.Budget.{Budget}
use Rattle.ballots.specs.Ballots.{BallotFile}
use Rattle.assertion_file.specs.Content.{Content, IsSound, IsSoundClaim, candidate_count}
use Rattle.cover_checker.specs.Checks.{IsAnswer}
use Rattle.cover_checker.specs.Findings.{assertions_of}
use Rattle.cover_checker.specs.Holds.{Holds}
use Rattle.cover_checker.specs.declared.checked.Checked.TheVariants.{Accepted}
use Rattle.cover_checker.proofs.Held.{accepted-held, held-covers, assertion_in}
use Rattle.cover_checker.proofs.Nothing.{HasItsMargin}

its-true : (records : List (List ℕ)) (claim : Claim) → 1 ≤ claim.margin → HasItsMargin records claim → is_true records claim.assertion ≡ true
its-true records claim some e =
    let above : pos 0 <ℤ margin records claim.assertion = omega (arith, ints) in
    (true_margin_is records claim.assertion).0.1 above

module _ (ballots : BallotFile) (file : Content) (sound : IsSound file) (h : Holds ballots file) where
  one : (claim : Claim) → Member claim file.claims → IsSoundClaim (candidate_count file) file.records claim
  one claim m = All-contains (IsSoundClaim (candidate_count file) file.records) file.claims claim sound.claims (contains-from_member m)

  proper : (a : Assertion) → Member a (assertions_of file) → is_proper (candidate_count file) a ≡ true
  proper a m =
      let (claim, k, e) = from_map assertion_in a file.claims m in
      subst (λ b. is_proper (candidate_count file) b ≡ true) e (one claim k).proper

  hold : (a : Assertion) → Member a (assertions_of file) → is_true ballots.rankings a ≡ true
  hold a m =
      let (claim, k, e) = from_map assertion_in a file.claims m in
      subst (λ b. is_true ballots.rankings b ≡ true) e
      (its-true ballots.rankings claim (one claim k).margin.some
      (All-contains (HasItsMargin ballots.rankings) file.claims claim h.margins (contains-from_member k)))

  pub held_is_decided : AllElect (candidate_count file) ballots.rankings file.winner
  held_is_decided = proof-decided (candidate_count file) file.winner ballots.rankings sound.winner (omega (arith, sound.fewest)) (assertions_of file)
      (record {
        proper = list_all-each (is_proper (candidate_count file)) (assertions_of file) proper;
        hold = list_all-each (is_true ballots.rankings) (assertions_of file) hold;
        cover = held-covers ballots file h;
      })

pub accepted_is_decided : (budget : Budget) (ballots : BallotFile) (file : Content) → IsSound file → IsAnswer budget ballots file (Ok Accepted) →
    AllElect (candidate_count file) ballots.rankings file.winner
accepted_is_decided budget ballots file sound answer = held_is_decided ballots file sound (accepted-held budget ballots file sound answer)
