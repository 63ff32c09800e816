-- The rules of a claims file.
use Rattle.std.specs.Prelude.{ℕ, List, codes, Result, Ok, Err}
use Rattle.assertion_file.specs.declared.fault.FRule.{FRule}
use Rattle.assertion_file.specs.declared.fault.FRule.TheVariants.{F4}
use Rattle.claims_file.specs.declared.fault.CRule.{CRule}
use Rattle.claims_file.specs.declared.fault.CRule.TheVariants.{C1, C2, C3, C4, C5}

-- the name of a rule in the text of a refusal
abbrev pub rule_name : CRule → List ℕ
rule_name C1 = codes "C1"
rule_name C2 = codes "C2"
rule_name C3 = codes "C3"
rule_name C4 = codes "C4"
rule_name C5 = codes "C5"

-- the rule that an assertion breaks here if it breaks this one in an assertion file: its rest names someone who isn't a candidate, or isn't
-- a rest
abbrev pub as_claims_rule : FRule → CRule
as_claims_rule F4 = C4
as_claims_rule rule = C5

abbrev pub as_claims : {A : Type 0} → Result A FRule → Result A CRule
as_claims (Ok value) = Ok value
as_claims (Err rule) = Err (as_claims_rule rule)
