-- The rules of a manifest.
use Rattle.std.specs.Prelude.{ℕ, List, codes}
use Rattle.manifest.specs.declared.fault.MRule.{MRule}
use Rattle.manifest.specs.declared.fault.MRule.TheVariants.{M1, M2, M3, M4, M5, M6}

-- the name of a rule in the text of a refusal
abbrev pub rule_name : MRule → List ℕ
rule_name M1 = codes "M1"
rule_name M2 = codes "M2"
rule_name M3 = codes "M3"
rule_name M4 = codes "M4"
rule_name M5 = codes "M5"
rule_name M6 = codes "M6"
