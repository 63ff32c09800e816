-- What the answers of `certify` say together.
use Rattle.std.specs.Prelude.{◌≡◌, ℕ, ◌-◌, ◌*◌, ◌≤◌, List}
use Rattle.assertions.specs.Suffixes.{factorial}
use Rattle.certifier.specs.declared.certificate.Certificate.{Certificate}
use Rattle.certifier.specs.Certified.{IsCertified, IsSpent}

abbrev pub CertifiedIsOne : Type 0
CertifiedIsOne =
    (n : ℕ) (records : List (List ℕ)) (winner best nodes : ℕ) (x y : Certificate) →
    IsCertified n records winner best nodes x → IsCertified n records winner best nodes y →
    (x.claims.items ≡ y.claims.items) × (x.margin ≡ y.margin) × (x.order ≡ y.order)

abbrev pub SpentIsOne : Type 0
SpentIsOne =
    (n : ℕ) (records : List (List ℕ)) (winner best nodes last other : ℕ) →
    IsSpent n records winner best nodes last → IsSpent n records winner best nodes other →
    last ≡ other

abbrev pub NeverBoth : Type 0
NeverBoth =
    (n : ℕ) (records : List (List ℕ)) (winner best nodes last : ℕ) (x : Certificate) →
    IsCertified n records winner best nodes x → IsSpent n records winner best nodes last → ⊥

abbrev pub EnoughNodes : Type 0
EnoughNodes =
    (n : ℕ) (records : List (List ℕ)) (winner best nodes last : ℕ) →
    2 * factorial (n - 1) ≤ nodes → IsSpent n records winner best nodes last → ⊥
