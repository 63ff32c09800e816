-- The laws of a search by sets.
use Rattle.std.specs.Prelude.{◌≡◌, ℕ, ◌-◌, ◌^◌, ◌<◌, ◌≤◌, List}
use Rattle.irv_tabulator.specs.declared.tabulated.Tabulated.{Tabulated}
use Rattle.certifier.specs.Certified as by_nodes
use Rattle.certifier.specs.declared.certificate.Certificate.{Certificate}
use Rattle.set_search.specs.Answers.{IsCertified, IsSpent}
use Rattle.set_search.specs.Sets.{best_of, sets_for}

-- the empty set, the set of only the winner and the set of all candidates are never needed
abbrev pub SetsAreFew : Type 0
SetsAreFew =
    (n winner : ℕ) (records : List (List ℕ)) → winner < n → 1 < n →
    sets_for n records winner ≤ 2 ^ n - 3

abbrev pub EnoughSets : Type 0
EnoughSets =
    (n sets margin : ℕ) (records : List (List ℕ)) (tab : Tabulated) (order : List ℕ) →
    tab.winner < n → 1 < n → 2 ^ n - 3 ≤ sets → IsSpent n records tab sets order margin → ⊥

abbrev pub SameCertificate : Certificate → Certificate → Type 0
SameCertificate x y =
    (x.claims.items ≡ y.claims.items) × (x.margin ≡ y.margin) × (x.order ≡ y.order)

abbrev pub CertifiedIsOne : Type 0
CertifiedIsOne =
    (n winner sets others : ℕ) (records : List (List ℕ)) (x y : Certificate) →
    IsCertified n records winner sets x → IsCertified n records winner others y →
    SameCertificate x y

-- within this many suffixes for each alternative winner
abbrev pub SameByNodes : Type 0
SameByNodes =
    (n winner sets nodes : ℕ) (records : List (List ℕ)) (x y : Certificate) →
    IsCertified n records winner sets x →
    by_nodes.IsCertified n records winner (best_of n records winner) nodes y → SameCertificate x y

abbrev pub NeverBoth : Type 0
NeverBoth =
    (n sets margin : ℕ) (records : List (List ℕ)) (tab : Tabulated) (order : List ℕ)
    (x : Certificate) →
    IsCertified n records tab.winner sets x → IsSpent n records tab sets order margin → ⊥
