-- The rules of a ballot file.
use Rattle.std.specs.Prelude.{ℕ, List, codes}
use Rattle.ballots.specs.declared.fault.BRule.{BRule}
use Rattle.ballots.specs.declared.fault.BRule.TheVariants.{B1, B2, B3, B4, B5, B6, B7, B8, B9, B10}

-- the name of a rule in the text of a refusal
abbrev pub rule_name : BRule → List ℕ
rule_name B1 = codes "B1"
rule_name B2 = codes "B2"
rule_name B3 = codes "B3"
rule_name B4 = codes "B4"
rule_name B5 = codes "B5"
rule_name B6 = codes "B6"
rule_name B7 = codes "B7"
rule_name B8 = codes "B8"
rule_name B9 = codes "B9"
rule_name B10 = codes "B10"
