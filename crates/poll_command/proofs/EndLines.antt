-- The lines of the ends of claims, one claim at a time.
use Rattle.std.proofs.Common.{◌≡◌, ℕ, ◌+◌, ◌<◌, List, ◌∷◌, ◌++◌, drop, get_or, length, sym, ap, ◌∙◌, append_assoc}
use Rattle.std.proofs.lemmas.List.{drop_more}
use Rattle.irv_base.specs.Names.{Id}
use Rattle.assertions.specs.declared.assertion.Claim.{Claim}
use Rattle.polling.specs.declared.each.ClaimEnd.{ClaimEnd}
use Rattle.report.specs.Texts.{assertion_text}
use Rattle.poll_command.specs.EachLines.{end_line, end_lines}

module _ (ids : List Id) (claims : List Claim) (ends : List ClaimEnd) where
  -- the lines of the claims from index j
  abbrev pub lines_from : ℕ → List ℕ
  lines_from j = end_lines ids (drop j claims) (drop j ends)

  pub line_more : (j : ℕ) (claim : Claim) (end : ClaimEnd) (text told whole : List ℕ) → j < length claims → j < length ends →
      claim ≡ get_or claims j claim → end ≡ get_or ends j end → told ≡ text ++ end_line (assertion_text ids claim.assertion) end →
      text ++ lines_from j ≡ whole → told ++ lines_from (j + 1) ≡ whole
  line_more j claim end text told whole within within' is is' more so_far =
      let first : drop j claims ≡ claim ∷ drop (j + 1) claims = drop_more claims j claim within ∙ ap (λ x. x ∷ drop (j + 1) claims) (sym is) in
      let second : drop j ends ≡ end ∷ drop (j + 1) ends = drop_more ends j end within' ∙ ap (λ x. x ∷ drop (j + 1) ends) (sym is') in
      let own : List ℕ = end_line (assertion_text ids claim.assertion) end in
      let left : lines_from j ≡ own ++ lines_from (j + 1) = (λ i. end_lines ids (first i) (second i)) in
      ap (λ t. t ++ lines_from (j + 1)) more ∙ append_assoc text own (lines_from (j + 1)) ∙ ap (λ t. text ++ t) (sym left) ∙ so_far
