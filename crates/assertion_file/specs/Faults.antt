-- The rules of an assertion file.
use Rattle.std.specs.Prelude.{ℕ, List, codes}
use Rattle.assertion_file.specs.declared.fault.FRule.{FRule}
use Rattle.assertion_file.specs.declared.fault.FRule.TheVariants.{F1, F2, F3, F4, F5, F6}

-- the name of a rule in the text of a refusal
abbrev pub rule_name : FRule → List ℕ
rule_name F1 = codes "F1"
rule_name F2 = codes "F2"
rule_name F3 = codes "F3"
rule_name F4 = codes "F4"
rule_name F5 = codes "F5"
rule_name F6 = codes "F6"
