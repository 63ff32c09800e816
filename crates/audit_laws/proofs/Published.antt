-- The claims of a file that holds are fit for an audit, and so the risk limit holds for the file.
use Rattle.std.proofs.Common.{◌≡◌, ◌≤◌, true, get_or, pos, refl, sym, subst, ◌∙◌}
use Rattle.std.proofs.lemmas.List.{length-map}
use Rattle.std.proofs.lemmas.List.Elements.{All-contains, All-map}
use Rattle.irv_base.proofs.Members.{contains-from_member, from_map, list_all-each}
use Rattle.irv_base.proofs.Tabulated.{tabulated-possible}
use Rattle.assertions.specs.declared.assertion.Claim.{Claim}
use Rattle.assertions.specs.Assertions.{is_proper}
use Rattle.assertions.specs.Assorter.{assorter_value}
use Rattle.assertions.proofs.Sums.{assorter-is, assorter_sums}
use Rattle.assertion_file.specs.Content.{IsSound, IsSoundClaim, candidate_count}
use Rattle.cover_checker.specs.Holds.{Holds}
use Rattle.cover_checker.specs.declared.checked.Checked.TheVariants.{Accepted}
use Rattle.cover_checker.proofs.Held.{accepted_iff_holds, held-covers}
use Rattle.manifest.specs.Cards.{cards_of}
use Rattle.manifest.specs.Linked.{linked_of, recorded_of}
use Rattle.assorters.specs.Cards.{IsAssorter, margin_over}
use Rattle.assorters.proofs.LinkedMargins.{linked_margin_law}
use Rattle.session_state.specs.Claims.{audited_claim}
use Rattle.audit_laws.specs.Claims.{claimed}
use Rattle.audit_laws.specs.RiskLimit.{RiskLimit}
use Rattle.audit_laws.specs.Laws.{HeldIsAuditable, HeldRiskLimit, OtherWinnerIsWrong}
use Rattle.audit_laws.proofs.FalseClaims.{claims_risk_limit}

pub held_is_auditable : HeldIsAuditable
held_is_auditable batches ballots file fit =
    let whole : IsSound file = fit.file_sound in
    let held : Holds ballots file = fit.holds in
    record {
      cover = record {
        winner_below = whole.winner;
        proper = list_all-each (is_proper (candidate_count file)) (claimed file) (λ a m.
            let (claim, among, same) = from_map (λ claim. claim.assertion) a file.claims m in
            let one = All-contains (IsSoundClaim (candidate_count file) file.records) file.claims claim whole.claims (contains-from_member among) in
            subst (λ b. is_proper (candidate_count file) b ≡ true) same one.proper);
        covering = held-covers ballots file held;
      };
      claims = record {
        assorters = All-map (λ c. IsAssorter c.value) audited_claim file.claims (λ k d below. assorter-is (get_or file.claims k d).assertion);
        margins = All-map (λ c. pos c.margin ≡ margin_over c.value (linked_of batches ballots)) audited_claim file.claims (λ k d below.
            let claim : Claim = get_or file.claims k d in
            held.margins k d below
            ∙ sym (assorter_sums (candidate_count file) ballots.rankings claim.assertion (whole.claims k d below).proper)
            ∙ sym (linked_margin_law (assorter_value claim.assertion) batches ballots fit.manifest_sound fit.ballots_sound fit.linked));
        positive = All-map (λ c. 1 ≤ c.margin) audited_claim file.claims (λ k d below. (whole.claims k d below).margin.some);
      };
    }

pub held_risk_limit : HeldRiskLimit
held_risk_limit limit gamma n batches ballots file actual sequences fit terms wrong off =
    let cards = length-map (cards_of batches) (recorded_of ballots) in
    rw (← cards)
    (claims_risk_limit limit gamma n file (linked_of batches ballots) actual sequences
    (held_is_auditable batches ballots file fit) terms (rw (← cards) at wrong) off)

pub risk_limit : RiskLimit
risk_limit budget limit gamma n batches ballots file actual sequences are =
    held_risk_limit limit gamma n batches ballots file actual sequences (record {
      manifest_sound = are.manifest_sound;
      ballots_sound = are.ballots_sound;
      file_sound = are.file_sound;
      linked = are.linked;
      holds = (accepted_iff_holds budget ballots file Accepted are.file_sound are.accepted).0 refl;
    })

pub other_winner_is_wrong : OtherWinnerIsWrong
other_winner_is_wrong n winner other cards actual long won differs = record {
  one_each = long;
  order = won.order;
  permutation = won.permutation;
  possible = tabulated-possible actual won.order won.tabulated;
  other = other;
  differs = differs;
  elects = won.elects;
}
