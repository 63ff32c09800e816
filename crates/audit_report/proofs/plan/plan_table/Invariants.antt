use Rattle.std.proofs.Common.{◌≡◌, ℕ, flat_map, List, map, take, string_bytes, Option}
use Rattle.assertions.specs.declared.assertion.Claim.{Claim}
use Rattle.assertion_file.specs.Content.{Content}
use Rattle.audit_report.specs.Plan.{all_need, claim_line, need_of}
use Rattle.audit_report.proofs.plan.plan_table.Given as goal

-- what has been printed for these claims
pub record AreTold (file : Content) (cards gamma limit : ℕ) (claims : List Claim) (text : List ℕ) (all : Option ℕ) : Type 0 where
  pub lines : text ≡ flat_map (λ claim. claim_line file.candidates claim (need_of file cards gamma limit claim)) claims
  pub need : all ≡ all_need (map (need_of file cards gamma limit) claims)

abbrev pub invariant-loop-claim : goal.invariant-loop-claim
invariant-loop-claim l = AreTold l.f l.cards l.gamma l.limit (take l.claim-index l.claims) (string_bytes l.text) l.all
