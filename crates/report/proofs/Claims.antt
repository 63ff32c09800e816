-- The lines of claims, one claim at a time.
use Rattle.std.proofs.Common.{◌≡◌, ℕ, ◌+◌, ◌<◌, List, ◌∷◌, ◌++◌, drop, get_or, length, sym, ap, ◌∙◌, append_assoc}
use Rattle.std.proofs.lemmas.List.{drop_more}
use Rattle.report.specs.Claims.{claim_lines}

module _ {A Counts : Type 0} (line : A → Counts → ℕ → List ℕ) (claims : List A) (counts : List Counts) (risks : List ℕ) where
  -- the lines of the claims from index j on
  abbrev pub lines_from : ℕ → List ℕ
  lines_from j = claim_lines line (drop j claims) (drop j counts) (drop j risks)

  pub line_more : (j : ℕ) (claim : A) (n : Counts) (risk : ℕ) (text told whole : List ℕ) →
      j < length claims → j < length counts → j < length risks →
      claim ≡ get_or claims j claim → n ≡ get_or counts j n → risk ≡ get_or risks j risk →
      told ≡ text ++ line claim n risk → text ++ lines_from j ≡ whole → told ++ lines_from (j + 1) ≡ whole
  line_more j claim n risk text told whole within within' within'' is is' is'' more so_far =
      let first : drop j claims ≡ claim ∷ drop (j + 1) claims = drop_more claims j claim within ∙ ap (λ x. x ∷ drop (j + 1) claims) (sym is) in
      let second : drop j counts ≡ n ∷ drop (j + 1) counts = drop_more counts j n within' ∙ ap (λ x. x ∷ drop (j + 1) counts) (sym is') in
      let third : drop j risks ≡ risk ∷ drop (j + 1) risks = drop_more risks j risk within'' ∙ ap (λ x. x ∷ drop (j + 1) risks) (sym is'') in
      let own : List ℕ = line claim n risk in
      let left : lines_from j ≡ own ++ lines_from (j + 1) = (λ i. claim_lines line (first i) (second i) (third i)) in
      ap (λ t. t ++ lines_from (j + 1)) more ∙ append_assoc text own (lines_from (j + 1)) ∙ ap (λ t. text ++ t) (sym left) ∙ so_far
