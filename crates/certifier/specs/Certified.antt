-- The canonical certificate within a budget of suffixes.
use Rattle.std.specs.Prelude.{◌≡◌, ◌≢◌, ◌<◌, ◌≤◌, ◌⊎◌, ℕ, List, Some, ⊤}
use Rattle.assertions.specs.Hardness.{low}
use Rattle.assertions.specs.Certificate.{certificate_claims, certificate_order, cover_count, order_count}
use Rattle.certifier.specs.declared.certificate.Certificate.{Certificate}
use Rattle.certifier.specs.declared.fault.CertFault.{CertFault}
use Rattle.certifier.specs.declared.fault.CertFault.TheVariants.{Spent, Memory}

-- neither count of c is above nodes
abbrev pub IsWithin : ℕ → (List ℕ → ℕ) → ℕ → List ℕ → ℕ → ℕ → Type 0
IsWithin n hardness best order nodes c =
    (cover_count n hardness best c ≤ nodes) × (order_count n hardness best order c ≤ nodes)

-- one of the two counts of c is above nodes
abbrev pub IsOver : ℕ → (List ℕ → ℕ) → ℕ → List ℕ → ℕ → ℕ → Type 0
IsOver n hardness best order nodes c =
    (nodes < cover_count n hardness best c) ⊎ (nodes < order_count n hardness best order c)

-- x is the canonical certificate of the records, and no alternative winner has a count above nodes
pub record IsCertified (n : ℕ) (records : List (List ℕ)) (winner best nodes : ℕ) (x : Certificate)
    : Type 0 where
  pub claims : x.claims.items ≡ certificate_claims n records winner
  pub margin : x.margin ≡ best
  pub order : certificate_order n winner (low n records) best ≡ Some x.order
  pub within : (c : ℕ) → c < n → c ≢ winner → IsWithin n (low n records) best x.order nodes c

-- last is the lowest-numbered alternative winner with a count above nodes
pub record IsSpent (n : ℕ) (records : List (List ℕ)) (winner best nodes last : ℕ) : Type 0 where
  pub order : List ℕ
  pub order_is : certificate_order n winner (low n records) best ≡ Some order
  pub below : last < n
  pub alternative : last ≢ winner
  pub over : IsOver n (low n records) best order nodes last
  pub least : (c : ℕ) → c < last → c ≢ winner → IsWithin n (low n records) best order nodes c

-- what a fault says; running out of memory says nothing
abbrev pub IsFault : ℕ → List (List ℕ) → ℕ → ℕ → ℕ → CertFault → Type 0
IsFault n records winner best nodes (Spent last) = IsSpent n records winner best nodes last
IsFault n records winner best nodes Memory = ⊤
