-- Ballots that are counted as they come, without keeping any ranking. The rankings of a counting are known by its course, which no
-- code has.
use Rattle.std.specs.Prelude.{◌≡◌, ℕ, ◌<◌, ◌≤◌, ◌^◌, List, [], ◌∷◌, ◌++◌, length, All, bit_or}
use Rattle.irv_base.specs.declared.limits.TheConstants.{MOST_RECORDS}
use Rattle.set_tallies.specs.Sums.{IsCountOf}
use Rattle.set_tallies.specs.declared.bag.TheConstants.{ALWAYS_SUMMED}
use Rattle.set_tallies.specs.declared.course.Course.{Course, Nothing, Begun', Lengthened', Appended'}

-- rankings of n candidates
pub record CountedRankings : Type 0 where
  pub n : ℕ
  pub rankings : List (List ℕ)

-- these rankings with one more candidate at the end of the last one
abbrev pub lengthened : List (List ℕ) → ℕ → List (List ℕ)
lengthened [] c = []
lengthened (last ∷ []) c = (last ++ c ∷ []) ∷ []
lengthened (ranking ∷ next ∷ rest) c = ranking ∷ lengthened (next ∷ rest) c

-- the rankings that were added by this course
abbrev pub rankings_by : Course → List (List ℕ)
rankings_by Nothing = []
rankings_by (Begun' at earlier) = rankings_by earlier ++ [] ∷ []
rankings_by (Lengthened' at earlier c) = lengthened (rankings_by earlier) c
rankings_by (Appended' at earlier behind others course) =
    rankings_by earlier ++ rankings_by course

-- the last of these rankings, if there is one
abbrev pub last_of : List (List ℕ) → List ℕ
last_of [] = []
last_of (last ∷ []) = last
last_of (ranking ∷ next ∷ rest) = last_of (next ∷ rest)

-- the set of the candidates seen before, together with those of a ranking
abbrev pub seen_after : ℕ → List ℕ → ℕ
seen_after seen [] = seen
seen_after seen (c ∷ rest) = seen_after (bit_or seen (2 ^ c)) rest

-- what a counting keeps of these rankings
pub record AreCounted
    (n records seen : ℕ) (table : List ℕ) (rankings : List (List ℕ)) : Type 0 where
  pub few : n ≤ ALWAYS_SUMMED
  pub all : records ≡ length rankings
  pub most : records ≤ MOST_RECORDS
  pub below : All (λ ranking. All (λ c. c < n) ranking) rankings
  pub last : seen ≡ seen_after 0 (last_of rankings)
  pub counts : IsCountOf n rankings table
