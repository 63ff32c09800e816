-- Where nothing flows.
use Rattle.std.proofs.Common.{◌≡◌, ℕ, Bool, ◌==◌, if◌then◌else◌, inl, inr, List, ap, arith, ne_eqb, ◌∙◌}
use Rattle.std.proofs.lemmas.Bool.{cases_Bool}
use Rattle.assertions.specs.Steps.{more}
use Rattle.fewest.specs.Flows.{flow_over, IsFlow, steps}
use Rattle.fewest.proofs.Sums.{sum-zero, when}

module _ (n winner floor : ℕ) (records : List (List ℕ)) (flow : ℕ → ℕ → ℕ) (none : (set c : ℕ) → flow set c ≡ 0) where
  nothing-over : (test : ℕ → ℕ → Bool) → flow_over n winner flow test ≡ 0
  nothing-over test =
      sum-zero (λ (step : ℕ × ℕ). if test step.0 step.1 then flow step.0 step.1 else 0) (steps n winner) (λ s m.
      elim (cases_Bool (test s.0 s.1)) [
        | inl t ↦ ap (λ b. if b then flow s.0 s.1 else 0) t ∙ none s.0 s.1
        | inr f ↦ ap (λ b. if b then flow s.0 s.1 else 0) f
      ])

  pub nothing-flows : IsFlow n winner records floor flow
  nothing-flows = record {
    kept = λ set some part.
        let a = nothing-over (λ from c. more from c == set) in
        let b = nothing-over (λ from c. from == set) in
        let c : when (set == 0) 1 ≡ 0 = ap (λ b. when b 1) (ne_eqb set 0 some) in
        omega (arith, a, b, c);
    none = λ set c step bar. none set c;
    one = λ set c step cut. let z = none set c in omega (arith, z);
  }
