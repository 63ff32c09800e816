-- The risk limit of a plurality contest is that of its claims.
use Rattle.std.proofs.Common.{◌≡◌, ◌∙◌, ℕ, ◌+◌, ◌-◌, ◌*◌, ◌^◌, ◌<◌, ◌≤◌, List, [], ◌∷◌, Contains, length, map, sum_by, pos, ◌-ℤ◌, refl, sym, ap, subst, arith}
use Rattle.std.proofs.lemmas.Int.{ints}
use Rattle.std.proofs.lemmas.List.{length-map}
use Rattle.std.proofs.lemmas.List.Elements.{All-map}
use Rattle.irv_base.specs.Candidates.{all_but}
use Rattle.irv_base.proofs.Members.{Member, contains-from_member, from_map, member-map}
use Rattle.ballots.specs.Ballots.{BallotFile}
use Rattle.manifest.specs.Cards.{Batches, cards_of}
use Rattle.manifest.specs.Linked.{linked_of, recorded_of}
use Rattle.manifest.specs.declared.recorded.Recorded.{Recorded}
use Rattle.km_risk.specs.Exact.{millionths_in_one}
use Rattle.assorters.specs.Cards.{IsAssorter, margin_over}
use Rattle.assorters.proofs.LinkedMargins.{linked_margin_law}
use Rattle.session_state.specs.Claims.{audited_by}
use Rattle.session_state.specs.Draws.{Audited}
use Rattle.session_state.specs.RiskOfValues.{AreClaims, IsUntrue}
use Rattle.session_state.proofs.Claims.{same-values}
use Rattle.session_state.proofs.RiskOfValues.{counted_values_risk_limit, values_risk_limit}
use Rattle.plurality.specs.Plurality.{WinsPlurality, first_preferences, leaders}
use Rattle.plurality.specs.Plural.{Outcome, claims_of, lead, margin, values_of, won_by}
use Rattle.plurality.specs.RiskLimit.{ArePublished, HaveAnother, PluralityRiskLimit}
use Rattle.plurality.specs.Laws.{ClaimsRiskLimit, CountedRiskLimit, HasRivals, PublishedAreClaims}
use Rattle.plurality.proofs.Leads.{all-members, from_rival, lead-few, lead_law, rival}
use Rattle.plurality.proofs.Winners.{alone-wins, from_won}

-- ---- the claims of an outcome
abbrev claim_of : ℕ → List (List ℕ) → ℕ → ℕ → Audited
claim_of n records winner loser = record { value = lead winner loser; margin = margin n records winner loser }

claims-are : (n winner : ℕ) (records : List (List ℕ)) (losers : List ℕ) →
    audited_by (map (lead winner) losers) (map (margin n records winner) losers) ≡ map (claim_of n records winner) losers
claims-are n winner records [] = refl
claims-are n winner records (loser ∷ losers) = ap (λ rest. claim_of n records winner loser ∷ rest) (claims-are n winner records losers)

lead-margin : (s l f w : ℕ) → s + f ≡ l + w → f < w → pos (w - f) ≡ pos s -ℤ pos l
lead-margin s l f w sums less = omega (arith, ints)

module _ (batches : Batches) (ballots : BallotFile) (outcome : Outcome) (published : ArePublished batches ballots outcome) where
  abbrev n : ℕ
  n = length ballots.candidates

  abbrev records : List (List ℕ)
  records = ballots.rankings

  abbrev linked : List Recorded
  linked = linked_of batches ballots

  found : (winner : ℕ) × (leaders n records ≡ winner ∷ []) × (outcome ≡ won_by n records winner)
  found = from_won n records (leaders n records) outcome published.counted

  fit : (winner : ℕ) → WinsPlurality n records winner → AreClaims (claims_of (won_by n records winner)) linked
  fit winner wins =
      let others = all_but n winner in
      let claim = claim_of n records winner in
      subst (λ claims. AreClaims claims linked) (sym (claims-are n winner records others)) (record {
        assorters = All-map (λ c. IsAssorter c.value) claim others (λ k d below. lead-few winner _);
        margins = All-map (λ c. pos c.margin ≡ margin_over c.value linked) claim others
            (all-members (λ loser. pos (margin n records winner loser) ≡ margin_over (lead winner loser) linked) others (λ loser m.
            let (under, differs) = from_rival n winner loser m in
            lead-margin (sum_by (lead winner loser) records) (length records) (first_preferences records loser) (first_preferences records winner)
            (lead_law winner loser records (λ e. differs (sym e))) (wins loser under differs)
            ∙ sym (linked_margin_law (lead winner loser) batches ballots published.manifest_sound published.ballots_sound published.linked)));
        positive = All-map (λ c. 1 ≤ c.margin) claim others
            (all-members (λ loser. 1 ≤ margin n records winner loser) others (λ loser m.
            let (under, differs) = from_rival n winner loser m in
            let fewer = wins loser under differs in
            omega arith));
      })

  are-claims : AreClaims (claims_of outcome) linked
  are-claims =
      let (winner, alone, is) = found in
      subst (λ o. AreClaims (claims_of o) linked) (sym is) (fit winner (alone-wins n records winner alone))

  rivals : HasRivals n outcome
  rivals =
      let (winner, alone, is) = found in
      subst (HasRivals n) (sym is) (record { losers_are = refl; margin_each = length-map (all_but n winner) (margin n records winner) })

pub published_are_claims : PublishedAreClaims
published_are_claims batches ballots outcome published = are-claims batches ballots outcome published

-- ---- if another candidate has as many first preferences, the claim against that candidate isn't true
untrue : (n cards : ℕ) (outcome : Outcome) (actual : List (List ℕ)) → HasRivals n outcome → HaveAnother n outcome.winner cards actual →
    (claim : Audited) × Contains (claims_of outcome) claim × IsUntrue claim actual
untrue n cards outcome actual rivals another =
    let other = another.other in
    let against = lead outcome.winner other in
    let m : Member other outcome.losers = subst (Member other) (sym rivals.losers_are) (rival n outcome.winner other another.below another.differs) in
    let long : length outcome.margins ≡ length (values_of outcome) =
    rivals.margin_each ∙ sym (length-map outcome.losers (lead outcome.winner)) in
    let among = subst (Member against) (sym (same-values (values_of outcome) outcome.margins long)) (member-map (lead outcome.winner) m) in
    let (claim, within, is) = from_map (λ (claim : Audited). claim.value) against (claims_of outcome) among in
    let sums = lead_law outcome.winner other actual (λ e. another.differs (sym e)) in
    let few : sum_by against actual ≤ length actual = let as_many = another.as_many in omega arith in
    (claim, contains-from_member within, subst (λ value. sum_by value actual ≤ length actual) (sym is) few)

pub claims_risk_limit : ClaimsRiskLimit
claims_risk_limit limit gamma n draws outcome recorded actual signed rivals are terms another off =
    let (claim, among, fails) = untrue n (length recorded) outcome actual rivals another in
    values_risk_limit limit gamma draws (claims_of outcome) recorded actual signed claim terms are another.one_each among fails off

pub counted_risk_limit : CountedRiskLimit
counted_risk_limit limit gamma n draws outcome recorded actual seen rivals are terms another readings =
    let (claim, among, fails) = untrue n (length recorded) outcome actual rivals another in
    counted_values_risk_limit limit gamma draws (claims_of outcome) recorded actual seen claim terms are another.one_each among fails readings

pub plurality_risk_limit : PluralityRiskLimit
plurality_risk_limit limit gamma n batches ballots outcome actual signed published terms another off =
    let long : length (linked_of batches ballots) ≡ length (cards_of batches) = length-map (cards_of batches) (recorded_of ballots) in
    subst (λ cards. length signed * millionths_in_one ≤ limit * cards ^ n) long
    (claims_risk_limit limit gamma (length ballots.candidates) n outcome (linked_of batches ballots) actual signed
    (rivals batches ballots outcome published) (are-claims batches ballots outcome published) terms
    (subst (λ cards. HaveAnother (length ballots.candidates) outcome.winner cards actual) (sym long) another) off)
