-- The round over the claims of a file that is found.
use Rattle.std.proofs.Common.{◌≡◌, ℕ, ◌≤◌, true, All, None, length, ap, arith}
use Rattle.std.proofs.lemmas.List.{length-map}
use Rattle.std.proofs.lemmas.List.Elements.{All-map}
use Rattle.budget.specs.declared.budget.Budget.{Budget}
use Rattle.irv_base.specs.Names.{all_differ}
use Rattle.irv_base.specs.declared.limits.TheConstants.{GREATEST_GAMMA, MOST_CARDS}
use Rattle.assertion_file.specs.Content.{Content, IsSoundClaim, margins_of}
use Rattle.ballots.specs.Ballots.{BallotFile}
use Rattle.manifest.proofs.FewBallots.{few_ballots}
use Rattle.manifest.specs.Cards.{Batches, cards_of}
use Rattle.manifest.specs.Linked.{first_without_card, linked_of, recorded_of}
use Rattle.km_risk.specs.Factor.{IsSetting}
use Rattle.contest_search.specs.Found.{IsFoundIn}

-- each margin is within the limits of an audit
pub settings-of : (cards gamma n : ℕ) (file : Content) → file.records ≤ cards → cards ≤ MOST_CARDS → 1 ≤ gamma → gamma ≤ GREATEST_GAMMA →
    All (IsSoundClaim n file.records) file.claims → All (λ margin. IsSetting cards margin gamma) (margins_of file)
settings-of cards gamma n file records most some within sound =
    All-map (λ margin. IsSetting cards margin gamma) (λ claim. claim.margin) file.claims
    (λ k d below.
    let margin = (sound k d below).margin in
    record {
      margin_positive = margin.some;
      margin_within = omega (arith, margin.most, records);
      cards_within = most;
      gamma_positive = some;
      gamma_within = within;
    })

-- there are at least as many cards as records
pub records-fit : (budget : Budget) (batches : Batches) (ballots : BallotFile) (file : Content) → all_differ ballots.ids ≡ true →
    length ballots.ids ≡ length ballots.rankings → first_without_card batches ballots ≡ None → IsFoundIn budget ballots file →
    file.records ≤ length (linked_of batches ballots)
records-fit budget batches ballots file differ long placed found =
    let few = few_ballots batches ballots differ long placed in
    omega (arith, few, ap (λ (f : Content). f.records) found.is.is, length-map (cards_of batches) (recorded_of ballots))
