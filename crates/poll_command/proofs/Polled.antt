-- What a poll that continues has found about the assertions.
use Rattle.std.proofs.Common.{◌≡◌, ℕ, true, None, refl, subst}
use Rattle.std.proofs.lemmas.List.Elements.{All-contains}
use Rattle.budget.specs.declared.budget.Budget.TheVariants.{Nodes}
use Rattle.irv_base.proofs.Members.{contains-from_member, from_map, list_all-each}
use Rattle.assertions.specs.Assertions.{is_proper}
use Rattle.assertion_file.specs.Content.{Content, IsSound, IsSoundClaim, candidate_count}
use Rattle.cover_checker.specs.Findings.{assertions_of}
use Rattle.cover_checker.specs.declared.cover.Verdict.TheVariants.{Covered}
use Rattle.cover_checker.proofs.Verdicts.{covered_iff_covers}
use Rattle.audit_laws.specs.Claims.{Cover, claimed}
use Rattle.poll_command.specs.Poll.{uncovered}
use Rattle.poll_command.proofs.Covering.{covered}

-- the assertions prove the winner
pub covering : (nodes : ℕ) (file : Content) → IsSound file → uncovered nodes file ≡ None → Cover (candidate_count file) file.winner (claimed file)
covering nodes file whole none = record {
  winner_below = whole.winner;
  proper = list_all-each (is_proper (candidate_count file)) (claimed file) (λ a m.
      let (claim, among, same) = from_map (λ claim. claim.assertion) a file.claims m in
      let one = All-contains (IsSoundClaim (candidate_count file) file.records) file.claims claim whole.claims (contains-from_member among) in
      subst (λ b. is_proper (candidate_count file) b ≡ true) same one.proper);
  covering = (covered_iff_covers (candidate_count file) file.winner (Nodes nodes) (assertions_of file) Covered (covered file nodes none)).0 refl;
}
