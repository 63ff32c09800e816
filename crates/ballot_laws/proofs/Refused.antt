-- Records are refused by the first rule that one breaks.
use Rattle.std.proofs.Common.{inl, inr, ◌≡◌, ◌∙◌, ℕ, List, Option, Err, sym, ap, subst}
use Rattle.csv_rows.specs.Rows.{Fields}
use Rattle.irv_base.specs.Names.{Id}
use Rattle.ballots.specs.Grammar.{ballots_from}
use Rattle.file_fault.specs.Refusals.{Refusal, refused}
use Rattle.ballots.specs.Ballots.{BallotFile}
use Rattle.ballots.specs.declared.fault.BRule.{BRule}
use Rattle.ballot_laws.specs.Breaking.{FirstBrokenRuleRefuses, IsRefused}
use Rattle.ballot_laws.proofs.Outcome.{all-read, decides, refused-so}

pub refusal-parts : (rule other : BRule) (at place : ℕ) → refused {A = BallotFile} rule at ≡ Err (record { rule = other; at = place }) →
    (rule ≡ other) × (at ≡ place)
refusal-parts rule other at place h =
    let e : record { rule = rule; at = at } ≡ record { rule = other; at = place } = cc in
    (ap (λ (r : Refusal BRule). r.rule) e, ap (λ (r : Refusal BRule). r.at) e)

is-refused : (asked : Option Id) (rows : List Fields) (rule : BRule) (at : ℕ) → ballots_from asked rows ≡ Err (record { rule = rule; at = at }) →
    IsRefused asked rows rule at
is-refused asked rows rule at h = elim (decides asked rows) [
  | inl read ↦ absurd (let e = sym (all-read asked rows read.0 read.1) ∙ h in cc)
  | inr broken ↦
      let (same, place) = refusal-parts broken.0 rule broken.1 at (sym (refused-so asked rows broken.0 broken.1 broken.2) ∙ h) in
      subst (λ r. IsRefused asked rows r at) same (subst (IsRefused asked rows broken.0) place broken.2)
]

pub first_broken_rule_refuses : FirstBrokenRuleRefuses
first_broken_rule_refuses asked rows rule at = (is-refused asked rows rule at, refused-so asked rows rule at)
