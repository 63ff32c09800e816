-- The lines of claims, in order.
use Rattle.std.specs.Prelude.{ℕ, List, [], ◌∷◌, ◌++◌}

-- the line of a claim of any kind, with its counts and its risk
module _ {A Counts : Type 0} (line : A → Counts → ℕ → List ℕ) where
  -- the lines of all claims
  abbrev pub claim_lines : List A → List Counts → List ℕ → List ℕ
  claim_lines [] counts risks = []
  claim_lines (claim ∷ claims) [] risks = []
  claim_lines (claim ∷ claims) (n ∷ counts) [] = []
  claim_lines (claim ∷ claims) (n ∷ counts) (risk ∷ risks) =
      line claim n risk ++ claim_lines claims counts risks
