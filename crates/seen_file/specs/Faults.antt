-- The rules of a seen file.
use Rattle.std.specs.Prelude.{ℕ, List, codes}
use Rattle.seen_file.specs.declared.fault.VRule.{VRule}
use Rattle.seen_file.specs.declared.fault.VRule.TheVariants.{V1, V2, V3, V5, V6}

-- the name of a rule in the text of a refusal
abbrev pub rule_name : VRule → List ℕ
rule_name V1 = codes "V1"
rule_name V2 = codes "V2"
rule_name V3 = codes "V3"
rule_name V5 = codes "V5"
rule_name V6 = codes "V6"
