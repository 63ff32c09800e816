-- The blocks of the contests, in order.
use Rattle.std.proofs.Common.{◌≡◌, ℕ, zero, suc, ◌+◌, ◌<◌, List, [], ◌∷◌, ◌++◌, drop, get_or, length, refl, sym, ap, ◌∙◌, append_assoc, arith}
use Rattle.std.specs.List.{AllZip}
use Rattle.std.proofs.lemmas.List.{drop_more}
use Rattle.ballots.specs.Ballots.{BallotFile}
use Rattle.contest_set.specs.declared.end.ContestEnd.{ContestEnd}
use Rattle.contests_command.specs.Table.{block, blocks}

module _ (limit : ℕ) (list : List BallotFile) (ends : List ContestEnd) where
  -- the blocks of the contests from index i
  abbrev pub blocks_from : ℕ → List ℕ
  blocks_from i = blocks limit (drop i list) (drop i ends)

  pub block_more : (i : ℕ) (ballots : BallotFile) (end : ContestEnd) (text told whole : List ℕ) → i < length list → i < length ends →
      ballots ≡ get_or list i ballots → end ≡ get_or ends i end → told ≡ text ++ block limit ballots end →
      text ++ blocks_from i ≡ whole → told ++ blocks_from (i + 1) ≡ whole
  block_more i ballots end text told whole within within' is is' line so_far =
      let first : drop i list ≡ ballots ∷ drop (i + 1) list = drop_more list i ballots within ∙ ap (λ x. x ∷ drop (i + 1) list) (sym is) in
      let second : drop i ends ≡ end ∷ drop (i + 1) ends = drop_more ends i end within' ∙ ap (λ x. x ∷ drop (i + 1) ends) (sym is') in
      let left : blocks_from i ≡ block limit ballots end ++ blocks_from (i + 1) = (λ j. blocks limit (first j) (second j)) in
      ap (λ t. t ++ blocks_from (i + 1)) line ∙ append_assoc text (block limit ballots end) (blocks_from (i + 1)) ∙ ap (λ t. text ++ t) (sym left) ∙ so_far

-- ---- parts that are added one by one

pub two_added : (old one two first second : List ℕ) → one ≡ old ++ first → two ≡ one ++ second → two ≡ old ++ (first ++ second)
two_added old one two first second a b = b ∙ ap (λ t. t ++ second) a ∙ append_assoc old first second

pub three_added : (old one two three first second third : List ℕ) → one ≡ old ++ first → two ≡ one ++ second → three ≡ two ++ third →
    three ≡ old ++ (first ++ second ++ third)
three_added old one two three first second third a b c =
    two_added old two three (first ++ second) third (two_added old one two first second a b) c

-- ---- two lists, element by element

pub all_zip_long : {X Y : Type 0} (R : X → Y → Type 0) (xs : List X) (ys : List Y) → AllZip R xs ys → length xs ≡ length ys
all_zip_long R [] [] all = refl
all_zip_long R [] (y ∷ ys) all = absurd all
all_zip_long R (x ∷ xs) [] all = absurd all
all_zip_long R (x ∷ xs) (y ∷ ys) all = ap suc (all_zip_long R xs ys all.1)

pub all_zip_at : {X Y : Type 0} (R : X → Y → Type 0) (xs : List X) (ys : List Y) (i : ℕ) (d : X) (e : Y) → AllZip R xs ys → i < length xs →
    R (get_or xs i d) (get_or ys i e)
all_zip_at R [] ys i d e all less = absurd (omega arith)
all_zip_at R (x ∷ xs) [] i d e all less = absurd all
all_zip_at R (x ∷ xs) (y ∷ ys) zero d e all less = all.0
all_zip_at R (x ∷ xs) (y ∷ ys) (suc i) d e all less = all_zip_at R xs ys i d e all.1 (omega arith)
