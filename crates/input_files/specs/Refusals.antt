-- What is wrong with a file, given by its name, the rule that it breaks, and the place.
use Rattle.std.specs.Prelude.{ℕ, List, ◌++◌, Option, Some, None, codes}
use Rattle.std.specs.Fmt.{decimal}
use Rattle.file_fault.specs.Refusals.{Refusal}
use Rattle.file_fault.specs.declared.fault.Fault.{Fault}
use Rattle.file_fault.specs.declared.fault.Fault.TheVariants.{Refused as Breaks, Memory}
use Rattle.ballots.specs.Faults.{rule_name as ballot_rule}
use Rattle.ballots.specs.declared.fault.BRule.{BRule}
use Rattle.manifest.specs.Faults.{rule_name as manifest_rule}
use Rattle.manifest.specs.declared.fault.MRule.{MRule}
use Rattle.assertion_file.specs.Faults.{rule_name as assertion_rule}
use Rattle.assertion_file.specs.declared.fault.FRule.{FRule}
use Rattle.claims_file.specs.Faults.{rule_name as claims_rule}
use Rattle.claims_file.specs.declared.fault.CRule.{CRule}
use Rattle.seen_file.specs.Faults.{rule_name as seen_rule}
use Rattle.seen_file.specs.declared.fault.VRule.{VRule}
use Rattle.cli_base.specs.Outcome.{Verdict, Refused, broken_at}

-- the verdict on a file of a kind whose rules have these names
abbrev pub refused_file : {R : Type 0} → (R → List ℕ) → List ℕ → Refusal R → Verdict
refused_file rule_name name refusal = Refused name (broken_at (rule_name refusal.rule) refusal.at)

-- the same for a fault, if it is one of the file's
abbrev pub refused_fault : {R : Type 0} → (R → List ℕ) → List ℕ → Fault R → Option Verdict
refused_fault rule_name name (Breaks rule at) =
    Some (refused_file rule_name name (record { rule = rule; at = at }))
refused_fault rule_name name Memory = None

-- the verdict on a ballot file, at a record
abbrev pub refused_ballots : List ℕ → Refusal BRule → Verdict
refused_ballots = refused_file ballot_rule

-- the verdict on a manifest, at a record
abbrev pub refused_manifest : List ℕ → Refusal MRule → Verdict
refused_manifest = refused_file manifest_rule

-- the verdict on an assertion file, at an assertion, or at 0 if the file's own members are wrong
abbrev pub refused_assertions : List ℕ → Refusal FRule → Verdict
refused_assertions = refused_file assertion_rule

-- the verdict on a claims file, at an assertion, or at 0 if the file's own members are wrong
abbrev pub refused_claims : List ℕ → Refusal CRule → Verdict
refused_claims = refused_file claims_rule

-- the verdict on a seen file, at a record
abbrev pub refused_seen : List ℕ → Refusal VRule → Verdict
refused_seen = refused_file seen_rule

-- the verdict that the ballot in this record of the ballot file has no card
abbrev pub no_card : List ℕ → ℕ → Verdict
no_card ballots at = Refused ballots (broken_at (codes "M7") at)

-- the text that a seen file has no record of the card of draw k
abbrev pub no_record_text : ℕ → ℕ → List ℕ
no_record_text card k = codes "V4 card " ++ decimal card ++ codes " draw " ++ decimal k
