-- The last candidates of an elimination order, in a contest with n candidates.
use Rattle.std.specs.Prelude.{ℕ, not, List, ◌∷◌, map, filter, Option}
use Rattle.irv_base.specs.Candidates.{candidates, is_in}
use Rattle.irv_base.specs.Suffixes.{whole as whole_of}

pub record Suffix : Type 0 where
  pub n : ℕ
  pub list : List ℕ

-- the suffix with one more candidate in front
abbrev pub with_front : Suffix → ℕ → Suffix
with_front t c = record { n = t.n; list = c ∷ t.list }

-- the suffixes that are longer by one, in candidate order
abbrev pub children : Suffix → List Suffix
children t = map (with_front t) (filter (λ c. not (is_in t.list c)) (candidates t.n))

-- the suffix as a whole order, if it has all candidates
abbrev pub whole : Suffix → Option (List ℕ)
whole t = whole_of t.n t.list
