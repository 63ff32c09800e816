-- What a search by sets answers.
use Rattle.std.specs.Prelude.{◌≡◌, ℕ, ◌<◌, ◌≤◌, List, Some, ⊤}
use Rattle.assertions.specs.Certificate.{certificate_claims, certificate_order}
use Rattle.assertions.specs.Hardness.{low, start_order, first_bound}
use Rattle.irv_tabulator.specs.declared.tabulated.Tabulated.{Tabulated}
use Rattle.certifier.specs.declared.certificate.Certificate.{Certificate}
use Rattle.set_search.specs.Parts.{IsOrder}
use Rattle.set_search.specs.Sets.{best_of, sets_for}
use Rattle.set_search.specs.declared.ends.BestEnd.{BestEnd}
use Rattle.set_search.specs.declared.ends.BestEnd.TheVariants.{Found as BestFoundEnd, Undecided as BestUndecided}
use Rattle.set_search.specs.declared.ends.BestFound.{BestFound}
use Rattle.set_search.specs.declared.ends.SetsEnd.{SetsEnd}
use Rattle.set_search.specs.declared.ends.SetsEnd.TheVariants.{Certificate as CertificateEnd, Undecided}
use Rattle.set_search.specs.declared.ends.SetsFault.{SetsFault}
use Rattle.set_search.specs.declared.ends.SetsFault.TheVariants.{Spent, Memory}

-- x is the canonical certificate of the records, with a margin above 0, and the needed sets are within the budget
pub record IsCertified (n : ℕ) (records : List (List ℕ)) (winner sets : ℕ) (x : Certificate)
    : Type 0 where
  pub claims : x.claims.items ≡ certificate_claims n records winner
  pub margin : x.margin ≡ best_of n records winner
  pub order : certificate_order n winner (low n records) (best_of n records winner) ≡ Some x.order
  pub some : 1 ≤ x.margin
  pub within : sets_for n records winner ≤ sets

-- the certificate's order with the best margin, above 0, and the start order with its hardness, above 0; the sets that the order needs are
-- within the budget
pub record IsBestFound (n : ℕ) (records : List (List ℕ)) (tab : Tabulated) (sets : ℕ)
    (found : BestFound) : Type 0 where
  pub best : IsOrder n records tab.winner sets found.best
  pub some : 1 ≤ found.best.margin
  pub start : found.start.order ≡ start_order tab.order
  pub hardness : found.start.margin ≡ first_bound n records tab.order
  pub some_start : 1 ≤ found.start.margin

-- the best margin is 0, and the needed sets are within the budget if the start order doesn't show that
pub record IsUndecided (n : ℕ) (records : List (List ℕ)) (tab : Tabulated) (sets : ℕ)
    : Type 0 where
  pub none : best_of n records tab.winner ≡ 0
  pub within : 1 ≤ first_bound n records tab.order → sets_for n records tab.winner ≤ sets

-- more sets are needed than the budget allows; the answer includes the start order with its hardness, which is above 0
pub record IsSpent (n : ℕ) (records : List (List ℕ)) (tab : Tabulated) (sets : ℕ)
    (order : List ℕ) (margin : ℕ) : Type 0 where
  pub above : sets < sets_for n records tab.winner
  pub start : order ≡ start_order tab.order
  pub hardness : margin ≡ first_bound n records tab.order
  pub some : 1 ≤ margin

abbrev pub IsEnd : ℕ → List (List ℕ) → Tabulated → ℕ → SetsEnd → Type 0
IsEnd n records tab sets (CertificateEnd x) = IsCertified n records tab.winner sets x
IsEnd n records tab sets Undecided = IsUndecided n records tab sets

abbrev pub IsBestEnd : ℕ → List (List ℕ) → Tabulated → ℕ → BestEnd → Type 0
IsBestEnd n records tab sets (BestFoundEnd found) = IsBestFound n records tab sets found
IsBestEnd n records tab sets BestUndecided = IsUndecided n records tab sets

-- running out of memory says nothing
abbrev pub IsFault : ℕ → List (List ℕ) → Tabulated → ℕ → SetsFault → Type 0
IsFault n records tab sets (Spent order margin) = IsSpent n records tab sets order margin
IsFault n records tab sets Memory = ⊤
