-- The number of draws that a clean audit takes, with one line for each claim and one for all claims together.
use Rattle.std.specs.Prelude.{ℕ, max, List, ◌++◌, map, flat_map, fold, Option, Some, None, codes}
use Rattle.std.specs.Fmt.{decimal}
use Rattle.irv_base.specs.Names.{Id}
use Rattle.assertions.specs.declared.assertion.Claim.{Claim}
use Rattle.assertion_file.specs.Content.{Content}
use Rattle.km_risk.specs.Clean.{clean_draws}
use Rattle.report.specs.Texts.{assertion_text}

-- a number of draws, or a full count if no number that is tried is enough
abbrev pub need_text : Option ℕ → List ℕ
need_text None = codes "full count"
need_text (Some draws) = decimal draws ++ codes " draws"

-- what both claims need together
abbrev pub both_need : Option ℕ → Option ℕ → Option ℕ
both_need None other = None
both_need (Some draws) None = None
both_need (Some draws) (Some more) = Some (max draws more)

-- what all claims need: the greatest number of draws, no draws if there are no claims, and a full count if one claim needs it
abbrev pub all_need : List (Option ℕ) → Option ℕ
all_need needs = fold both_need (Some 0) needs

abbrev pub margin_text : List ℕ → ℕ → List ℕ
margin_text assertion margin = assertion ++ codes " margin " ++ decimal margin ++ codes ": "

abbrev pub claim_line : List Id → Claim → Option ℕ → List ℕ
claim_line ids claim need =
    margin_text (assertion_text ids claim.assertion) claim.margin ++ need_text need ++ codes "\n"

abbrev pub last_line : Option ℕ → List ℕ
last_line need = codes "all: " ++ need_text need ++ codes "\n"

-- the manifest has this many cards; gamma is in thousandths, and the limit is in millionths
module _ (file : Content) (cards gamma limit : ℕ) where
  -- the draws without a discrepancy that confirm the claim
  abbrev pub need_of : Claim → Option ℕ
  need_of claim = clean_draws cards claim.margin gamma limit

  abbrev pub plan_table : List ℕ
  plan_table =
      flat_map (λ claim. claim_line file.candidates claim (need_of claim)) file.claims
      ++ last_line (all_need (map need_of file.claims))
